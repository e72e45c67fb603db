-- States of a run, legal entries, and the run of a history.
use Rattle.std.specs.Prelude.{◌≡◌, ◌≢◌, ℕ, zero, suc, Bool, true, false, List, [], ◌∷◌, ◌++◌, slice_get, slice_set, Option, Some, None, option_and_then, codes}
use Rattle.std.specs.Option.{option_map}
use Rattle.std.specs.Fmt.{decimal}
use Rattle.cr_schedule.specs.declared.entry.Entry.{Entry}
use Rattle.cr_schedule.specs.declared.entry.Entry.TheVariants.{Steps, Wait, Resume}
use Rattle.cr_tool.specs.Term.{Term, value, Raise, overflow, Reduced, none, stuck, raises, becomes, reduced}

pub data Status : Type 0 where
  ready : Status
  current : Status
  waiting : Status
  -- and whether by a raise
  done : Bool → Status

pub record Fiber : Type 0 where
  pub term : Term
  pub context : ℕ
  pub status : Status

-- Fibers by their number, and the bytes written so far. Cells and variables come with their forms.
pub record State : Type 0 where
  pub fibers : List Fiber
  pub output : List ℕ
  pub errors : List ℕ

-- a current fiber is done once its term is a value
abbrev pub status_with : Term → Status
status_with (value v) = done false
status_with term = current

-- Main is the only fiber, and current in context 0.
abbrev pub start : Term → State
start term = record { fibers = record { term = term; context = 0; status = status_with term } ∷ []; output = []; errors = [] }

abbrev pub raise_text : Raise → List ℕ
raise_text overflow = codes "OverflowError: Arithmetic overflow"

-- the line of an unhandled exception
abbrev pub unhandled : ℕ → Raise → List ℕ
unhandled f raise = codes "Unhandled exception in fiber " ++ decimal f ++ codes ": " ++ raise_text raise ++ 10 ∷ []

-- the state after a reduction of fiber f
abbrev pub after : State → ℕ → Fiber → Reduced → Option State
after s f fiber none = None
after s f fiber stuck = None
after s f fiber (raises raise) = Some (record {
  fibers = slice_set s.fibers f (record { term = fiber.term; context = fiber.context; status = done true });
  output = s.output;
  errors = s.errors ++ unhandled f raise;
})
after s f fiber (becomes term text) = Some (record {
  fibers = slice_set s.fibers f (record { term = term; context = fiber.context; status = status_with term });
  output = s.output ++ text;
  errors = s.errors;
})

abbrev pub by_status : State → ℕ → Fiber → Status → Option State
by_status s f fiber current = after s f fiber (reduced fiber.term)
by_status s f fiber other = None

-- One reduction of fiber f, which is current. A list of sums has no redex that takes a choice or is blocked.
abbrev pub reduce : State → ℕ → Option State
reduce s f = option_and_then (λ fiber. by_status s f fiber fiber.status) (slice_get s.fibers f)

-- n reductions of fiber f in a row
abbrev pub reductions : ℕ → State → ℕ → Option State
reductions zero s f = Some s
reductions (suc n) s f = option_and_then (λ mid. reductions n mid f) (reduce s f)

-- The state after an entry; none where it is not legal. No form of a list of sums takes a choice, waits, or makes a
-- fiber ready, and the one fiber is not current once it is done.
abbrev pub step : State → Entry → Option State
step s (Steps f zero clause partner partner_clause) = None
step s (Steps f (suc n) None None None) = reductions (suc n) s f.0
step s (Steps f (suc n) clause partner partner_clause) = None
step s (Wait f) = None
step s (Resume f) = None

-- The state after a history; none from the first entry on that is not legal.
abbrev pub run : State → List Entry → Option State
run s [] = Some s
run s (e ∷ es) = option_and_then (λ mid. run mid es) (step s e)

-- The history without the reduction with which it ends. What that chose goes with it.
abbrev pub without_last : List Entry → List Entry
without_last [] = []
without_last (Steps f (suc (suc n)) clause partner partner_clause ∷ []) = Steps f (suc n) None None None ∷ []
without_last (e ∷ []) = []
without_last (e ∷ d ∷ es) = e ∷ without_last (d ∷ es)

pub data RunEnd : Type 0 where
  finished : RunEnd
  raised : RunEnd
  budget_spent : RunEnd
  deadlock : RunEnd

abbrev pub main_status : State → Option Status
main_status s = option_map (λ fiber. fiber.status) (slice_get s.fibers 0)

abbrev pub IsRunning : State → Type 0
IsRunning s = (by_raise : Bool) → main_status s ≢ Some (done by_raise)

-- how a run has ended in this state, with so much spent of the budget
abbrev pub Ends : RunEnd → State → ℕ → ℕ → Type 0
Ends finished s spent budget = main_status s ≡ Some (done false)
Ends raised s spent budget = main_status s ≡ Some (done true)
Ends budget_spent s spent budget = IsRunning s × (spent ≡ budget)
Ends deadlock s spent budget = IsRunning s × (spent ≢ budget) × ((e : Entry) → step s e ≡ None)
