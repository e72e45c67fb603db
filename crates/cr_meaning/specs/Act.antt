-- What a redex comes to, before its term takes its place.
use Rattle.std.specs.Prelude.{ℕ, List, Option, Some, None}
use Rattle.cr_value.specs.declared.value.Value.{Value}
use Rattle.cr_builtins.specs.declared.raise.Raise.{Raise}
use Rattle.cr_builtins.specs.declared.outcome.Outcome.{Outcome}
use Rattle.cr_builtins.specs.declared.outcome.Outcome.TheVariants as outcome
use Rattle.cr_meaning.specs.Term.{Term, Val}
use Rattle.cr_meaning.specs.State.{State}
use Rattle.cr_meaning.specs.Redex.{Exit}

-- What an entry chooses for its last reduction: the clause of a `select`, the fiber that is met, the clause of the partner's `select`.
pub record Choice : Type 0 where
  pub clause : Option ℕ
  pub partner : Option ℕ
  pub partner_clause : Option ℕ

abbrev pub no_choice : Choice
no_choice = record { clause = None; partner = None; partner_clause = None }

-- What is raised: by the language, or by `raise` with a text.
pub data Thrown : Type 0 where
  Language : Raise → Thrown
  Exception : List ℕ → Thrown

pub data Act : Type 0 where
  Becomes : State → Term → Act  -- this term stands in place of the redex, in this state
  Jumps : Exit → Act
  Raises : Thrown → Act
  Stuck : Act
  Blocked : Act
  BadChoice : Act

abbrev pub gives : State → Value → Act
gives s v = Becomes s (Val v)

-- where no partner and no clause is to be chosen
abbrev pub without_clause : Option ℕ → Act → Act
without_clause None a = a
without_clause (Some c) a = BadChoice

abbrev pub without_choice : Choice → Act → Act
without_choice c Stuck = Stuck
without_choice c Blocked = Blocked
without_choice c a = without_clause c.clause (without_clause c.partner (without_clause c.partner_clause a))

abbrev pub outcome_of : State → Outcome → Act
outcome_of s (outcome.Gives v) = gives s v
outcome_of s (outcome.Raises r) = Raises (Language r)
outcome_of s outcome.Stuck = Stuck

abbrev pub or_stuck : {A : Type 0} → (A → Act) → Option A → Act
or_stuck go None = Stuck
or_stuck go (Some x) = go x
