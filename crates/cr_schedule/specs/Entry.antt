-- Which entries have a line in a trace, and what an entry spends.
use Rattle.std.specs.Prelude.{ℕ, ◌≤◌, List, Option, IfSome, IsSome, sum_by}
use Rattle.cr_base.specs.declared.ids.FiberId.{FiberId}
use Rattle.cr_schedule.specs.declared.entry.Entry.{Entry}
use Rattle.cr_schedule.specs.declared.entry.Entry.TheVariants.{Steps, Wait, Resume}
use Rattle.cr_schedule.specs.declared.entry.TheConstants.{LAST_FIBER, LAST_CLAUSE, MOST_STEPS}

abbrev pub IsFiber : FiberId → Type 0
IsFiber fiber = fiber.0 ≤ LAST_FIBER

abbrev pub IsClause : ℕ → Type 0
IsClause clause = clause ≤ LAST_CLAUSE

pub record AreSteps (fiber : FiberId) (count : ℕ) (clause : Option ℕ) (partner : Option FiberId) (partner_clause : Option ℕ) : Type 0 where
  pub fiber_is : IsFiber fiber
  pub some : 1 ≤ count
  pub most : count ≤ MOST_STEPS
  pub clause_is : IfSome clause IsClause
  pub partner_is : IfSome partner IsFiber
  pub partner_clause_is : IfSome partner_clause IsClause
  -- a clause of the partner's is there only where a partner is
  pub of_partner : IsSome partner_clause → IsSome partner

-- the entry has a line in a trace
abbrev pub HasLine : Entry → Type 0
HasLine (Steps fiber count clause partner partner_clause) = AreSteps fiber count clause partner partner_clause
HasLine (Wait fiber) = IsFiber fiber
HasLine (Resume fiber) = IsFiber fiber

-- what an entry spends of a run's budget: its reductions, or one for a resume
abbrev pub spent_by : Entry → ℕ
spent_by (Steps fiber count clause partner partner_clause) = count
spent_by (Wait fiber) = 0
spent_by (Resume fiber) = 1

-- the sum of all counts and the number of resumes
abbrev pub spent : List Entry → ℕ
spent entries = sum_by spent_by entries
