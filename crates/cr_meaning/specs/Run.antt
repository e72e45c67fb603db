-- Histories: which entries are legal, the state after them, and how a run ends.
use Rattle.std.specs.Prelude.{◌≡◌, ℕ, zero, suc, ◌+◌, ◌==◌, nat_lt, Bool, true, false, ◌&&◌, not, List, [], ◌∷◌, Option, Some, None, is_some, slice_get, take}
use Rattle.cr_base.specs.declared.ids.FiberId.{FiberId}
use Rattle.cr_schedule.specs.declared.entry.Entry.{Entry}
use Rattle.cr_schedule.specs.declared.entry.Entry.TheVariants as entry
use Rattle.cr_schedule.specs.Entry.{spent}
use Rattle.cr_core.specs.declared.scope.Scope.{Scope}
use Rattle.cr_value.specs.declared.value.Value.TheVariants.{Nil}
use Rattle.cr_meaning.specs.World.{World}
use Rattle.cr_meaning.specs.Term.{Term, Val, tree}
use Rattle.cr_meaning.specs.State.{Concurrent, Where, Locals, Fiber, Ready, Current, Waiting, Done, Raised, Status, State, set_fiber, with_status, status_with}
use Rattle.cr_meaning.specs.Locals.{Begun, begun_scope}
use Rattle.cr_meaning.specs.Act.{Choice, no_choice}
use Rattle.cr_meaning.specs.Reduce.{Reduced, Went, Raised_, Is_stuck, Is_blocked, Is_bad, reduce}

-- ---- the start

abbrev pub main_locals : Begun → Locals
main_locals b = record { home = None; slots = b.slots; receiver = None; method = None; given = None }

abbrev pub main_fiber : World → Term → Begun → Fiber
main_fiber P t b = record { term = t; locals = main_locals b ∷ []; variables = b.variables; context = 0; status = status_with t Current }

abbrev pub started : World → Option Scope → Fiber
started P None = main_fiber P (Val Nil) (record { slots = []; variables = [] })
started P (Some scope) = main_fiber P (tree P scope.body) (begun_scope 0 scope [] [])

-- Main is the only fiber, and current in the default context, which is concurrent.
unfoldable pub start : World → State
start P = record {
  fibers = started P (slice_get P.scopes 0) ∷ [];
  cells = [];
  contexts = record { kind = Concurrent; size = 1 } ∷ [];
  output = [];
  errors = [];
}

-- ---- entries

abbrev pub is_current : Status → Bool
is_current Current = true
is_current Ready = false
is_current Waiting = false
is_current Done = false
is_current Raised = false

abbrev pub is_done : Status → Bool
is_done Done = true
is_done Raised = true
is_done Ready = false
is_done Current = false
is_done Waiting = false

abbrev pub status_in : Option Fiber → Status
status_in None = Done
status_in (Some fiber) = fiber.status

abbrev pub status_at : State → ℕ → Status
status_at s i = status_in (slice_get s.fibers i)

abbrev pub and_then : Option State → (State → Option State) → Option State
and_then None go = None
and_then (Some s) go = go s

abbrev pub where_true : Bool → Option State → Option State
where_true true s = s
where_true false s = None

-- the new state, where a reduction gives one
abbrev pub new_state : Reduced → Option State
new_state (Went s) = Some s
new_state (Raised_ s) = Some s
new_state Is_stuck = None
new_state Is_blocked = None
new_state Is_bad = None

abbrev pub is_blocked : Reduced → Bool
is_blocked Is_blocked = true
is_blocked (Went s) = false
is_blocked (Raised_ s) = false
is_blocked Is_stuck = false
is_blocked Is_bad = false

-- a reduction of a current fiber
abbrev pub step : World → ℕ → Choice → State → Option State
step P i choice s = where_true (is_current (status_at s i)) (new_state (reduce P s i choice))

-- So many reductions in a row, at least one. The choice belongs to the last, and those before it have none.
abbrev pub steps : World → ℕ → ℕ → Choice → State → Option State
steps P zero i choice s = None
steps P (suc zero) i choice s = step P i choice s
steps P (suc (suc n)) i choice s = and_then (step P i no_choice s) (steps P (suc n) i choice)

abbrev pub set_status : State → ℕ → Status → Option Fiber → Option State
set_status s i status None = None
set_status s i status (Some fiber) = Some (set_fiber s i (with_status fiber status))

-- a current fiber at a blocked redex begins to wait
abbrev pub waits : World → ℕ → State → Option State
waits P i s = where_true (is_current (status_at s i) && is_blocked (reduce P s i no_choice)) (set_status s i Waiting (slice_get s.fibers i))

abbrev pub is_going : ℕ → Fiber → Bool
is_going context fiber = is_current fiber.status && (fiber.context == context)

abbrev pub one_where : Bool → ℕ
one_where true = 1
one_where false = 0

-- how many fibers of a context are current
abbrev pub going : ℕ → List Fiber → ℕ
going context [] = 0
going context (fiber ∷ fibers) = one_where (is_going context fiber) + going context fibers

abbrev pub size_in : Option Where → ℕ
size_in None = 0
size_in (Some w) = w.size

abbrev pub has_room : State → ℕ → Bool
has_room s context = nat_lt (going context s.fibers) (size_in (slice_get s.contexts context))

-- A ready fiber can go on, and a waiting one whose redex is no longer blocked.
abbrev pub can_go_on : World → State → ℕ → Status → Bool
can_go_on P s i Ready = true
can_go_on P s i Waiting = not (is_blocked (reduce P s i no_choice))
can_go_on P s i Current = false
can_go_on P s i Done = false
can_go_on P s i Raised = false

abbrev pub resumes_fiber : World → ℕ → State → Option Fiber → Option State
resumes_fiber P i s None = None
resumes_fiber P i s (Some fiber) = where_true (can_go_on P s i fiber.status && has_room s fiber.context) (set_status s i Current (Some fiber))

-- it becomes current, where its context has fewer current fibers than its size
abbrev pub resumes : World → ℕ → State → Option State
resumes P i s = resumes_fiber P i s (slice_get s.fibers i)

abbrev pub number_of : Option FiberId → Option ℕ
number_of None = None
number_of (Some fiber) = Some fiber.0

abbrev pub enters : World → Entry → State → Option State
enters P (entry.Steps fiber count clause partner partner_clause) s =
    steps P count fiber.0 (record { clause = clause; partner = number_of partner; partner_clause = partner_clause }) s
enters P (entry.Wait fiber) s = waits P fiber.0 s
enters P (entry.Resume fiber) s = resumes P fiber.0 s

-- The state after an entry, where it is legal: none is, once main is done.
unfoldable pub after : World → Entry → State → Option State
after P e s = where_true (not (is_done (status_at s 0))) (enters P e s)

abbrev pub IsLegal : World → Entry → State → Type 0
IsLegal P e s = (s' : State) × (after P e s ≡ Some s')

-- ---- histories

abbrev pub run_from : World → State → List Entry → Option State
run_from P s [] = Some s
run_from P s (e ∷ es) = and_then (after P e s) (λ s'. run_from P s' es)

-- The state after the entries in order, from the start. There is none from the first entry on that is not legal.
unfoldable pub run : World → List Entry → Option State
run P entries = run_from P (start P) entries

-- The first entry that is not legal has this number: the history before it is legal, and with it is not.
pub record IsFirstIllegal (P : World) (entries : List Entry) (number : ℕ) : Type 0 where
  pub there : is_some (slice_get entries number) ≡ true
  pub legal_before : is_some (run P (take number entries)) ≡ true
  pub illegal_with : run P (take (suc number) entries) ≡ None

-- ---- endings

abbrev pub IsFinished : State → Type 0
IsFinished s = status_at s 0 ≡ Done

abbrev pub IsRaised : State → Type 0
IsRaised s = status_at s 0 ≡ Raised

-- main is not done, and no entry is legal
abbrev pub IsDeadlock : World → State → Type 0
IsDeadlock P s = (is_done (status_at s 0) ≡ false) × ((e : Entry) → IsLegal P e s → ⊥)

-- main is not done, and some entry is legal
abbrev pub IsUnfinished : World → State → Type 0
IsUnfinished P s = (is_done (status_at s 0) ≡ false) × (e : Entry) × IsLegal P e s

pub data Ending : Type 0 where
  finished : Ending
  raised : Ending
  budget_spent : Ending
  deadlock : Ending

-- a history has spent the budget, where there is one
abbrev pub HasSpent : Option ℕ → List Entry → Type 0
HasSpent None entries = ⊥
HasSpent (Some budget) entries = spent entries ≡ budget

-- How a run has ended, with a budget or without one: of its history and the state to which that leads.
abbrev pub Ends : World → Option ℕ → List Entry → State → Ending → Type 0
Ends P budget entries s finished = IsFinished s
Ends P budget entries s raised = IsRaised s
Ends P budget entries s budget_spent = (is_done (status_at s 0) ≡ false) × HasSpent budget entries
Ends P budget entries s deadlock = IsDeadlock P s × (HasSpent budget entries → ⊥)
