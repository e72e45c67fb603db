-- Locals: how they are read and written, and what those of a call, a block or a spawned block are at the start.
use Rattle.std.specs.Prelude.{ℕ, zero, suc, ◌-◌, Bool, true, false, List, [], ◌∷◌, ◌++◌, Option, Some, None, length, map, slice_get, slice_set, unwrap_or}
use Rattle.cr_base.specs.declared.ids.MethodId.{MethodId}
use Rattle.cr_base.specs.declared.ids.NodeId.{NodeId}
use Rattle.cr_value.specs.declared.value.Value.{Value}
use Rattle.cr_value.specs.declared.value.Value.TheVariants.{Nil}
use Rattle.cr_core.specs.declared.form.Form.{Form}
use Rattle.cr_core.specs.declared.form.Form.TheVariants as f
use Rattle.cr_core.specs.declared.form.Local.{Local}
use Rattle.cr_core.specs.declared.row.Row.{Row}
use Rattle.cr_core.specs.declared.scope.Scope.{Scope}
use Rattle.cr_core.specs.declared.scope.Slot.{Slot as Named}
use Rattle.cr_meaning.specs.World.{World}
use Rattle.cr_meaning.specs.State.{Variable, Slot, Own, Shared, Given, Locals, Fiber, State, set_fiber}

-- ---- reading and writing

abbrev pub home_of : Option Locals → Option ℕ
home_of None = None
home_of (Some l) = l.home

-- the place so many blocks further out
abbrev pub outwards : List Locals → ℕ → ℕ → ℕ
outwards ls zero i = i
outwards ls (suc up) i = outwards ls up (unwrap_or (home_of (slice_get ls i)) 0)

abbrev pub innermost : Fiber → ℕ
innermost fiber = length fiber.locals - 1

abbrev pub place_of : Fiber → Local → ℕ
place_of fiber x = outwards fiber.locals x.up (innermost fiber)

abbrev pub slots_of : Option Locals → List Slot
slots_of None = []
slots_of (Some l) = l.slots

abbrev pub slot_of : Fiber → Local → Option Slot
slot_of fiber x = slice_get (slots_of (slice_get fiber.locals (place_of fiber x))) x.slot

abbrev pub variable_of : Option Fiber → ℕ → Option Value
variable_of None number = None
variable_of (Some fiber) number = slice_get fiber.variables number

-- what a slot holds
abbrev pub read : State → Option Slot → Option Value
read s None = None
read s (Some (Own v)) = Some v
read s (Some (Shared x)) = variable_of (slice_get s.fibers x.fiber) x.number

abbrev pub with_slot : Option Locals → ℕ → Slot → List Locals → ℕ → List Locals
with_slot None k slot ls i = ls
with_slot (Some l) k slot ls i = slice_set ls i (record l { slots = slice_set l.slots k slot })

abbrev pub set_variable : State → Variable → Value → Option Fiber → State
set_variable s x v None = s
set_variable s x v (Some fiber) = set_fiber s x.fiber (record fiber { variables = slice_set fiber.variables x.number v })

-- the state once this slot, of fiber i's local x, holds the value
abbrev pub written : State → ℕ → Fiber → Local → Value → Option Slot → Option State
written s i fiber x v None = None
written s i fiber x v (Some (Own old)) =
    Some (set_fiber s i (record fiber { locals = with_slot (slice_get fiber.locals (place_of fiber x)) x.slot (Own v) fiber.locals (place_of fiber x) }))
written s i fiber x v (Some (Shared y)) = Some (set_variable s y v (slice_get s.fibers y.fiber))

-- ---- the start

abbrev pub first_or_nil : List Value → Value
first_or_nil [] = Nil
first_or_nil (v ∷ vs) = v

abbrev pub rest_of : List Value → List Value
rest_of [] = []
rest_of (v ∷ vs) = vs

-- Slots at their start, and the variables that their fiber has then.
pub record Begun : Type 0 where
  pub slots : List Slot
  pub variables : List Value

abbrev pub before_slot : Slot → Begun → Begun
before_slot slot b = record b { slots = slot ∷ b.slots }

abbrev pub begun_captured : ℕ → Bool → Value → List Value → (List Value → Begun) → Begun
begun_captured i true v variables more = before_slot (Shared (record { fiber = i; number = length variables })) (more (variables ++ v ∷ []))
begun_captured i false v variables more = before_slot (Own v) (more variables)

-- The slots in order: the values that are given, and then nil. A captured one is a new variable of fiber i.
abbrev pub begun : ℕ → List Named → List Value → List Value → Begun
begun i [] vs variables = record { slots = []; variables = variables }
begun i (slot ∷ slots) vs variables = begun_captured i slot.captured (first_or_nil vs) variables (begun i slots (rest_of vs))

-- the first values, as many as there are parameters
abbrev pub at_most : ℕ → List Value → List Value
at_most zero vs = []
at_most (suc n) [] = []
at_most (suc n) (v ∷ vs) = v ∷ at_most n vs

abbrev pub begun_scope : ℕ → Scope → List Value → List Value → Begun
begun_scope i scope vs variables = begun i scope.slots (at_most scope.parameters vs) variables

-- ---- which scope a row opens

abbrev pub scope_opened : World → Form → Option Scope
scope_opened P (f.Program scope) = slice_get P.scopes scope.0
scope_opened P (f.Def name scope result written) = slice_get P.scopes scope.0
scope_opened P (f.Block scope) = slice_get P.scopes scope.0
scope_opened P other = None

abbrev pub scope_by : World → Option Row → Option Scope
scope_by P None = None
scope_by P (Some r) = scope_opened P r.form

abbrev pub scope_at : World → NodeId → Option Scope
scope_at P n = scope_by P (slice_get P.rows n.0)

-- ---- entering and leaving

abbrev pub entered : Fiber → Begun → Locals → Fiber
entered fiber b l = record fiber { locals = fiber.locals ++ l ∷ []; variables = b.variables }

abbrev pub without_last : List Locals → List Locals
without_last [] = []
without_last (l ∷ []) = []
without_last (l ∷ k ∷ ls) = l ∷ without_last (k ∷ ls)

abbrev pub left : Fiber → Fiber
left fiber = record fiber { locals = without_last fiber.locals }

-- The locals of a call of a method: nothing lies around them.
abbrev pub of_call : Begun → Option Value → MethodId → Option Given → Locals
of_call b receiver m given = record { home = None; slots = b.slots; receiver = receiver; method = Some m; given = given }

-- The locals of a block that was written among those at this place: they belong to the same call.
abbrev pub of_block : Begun → ℕ → Locals → Locals
of_block b home around = record { home = Some home; slots = b.slots; receiver = around.receiver; method = around.method; given = around.given }

-- ---- a spawned block

-- what a spawned block sees of a slot: one that is captured
abbrev pub seen : Slot → Slot
seen (Own v) = Own Nil
seen (Shared x) = Shared x

abbrev pub seen_locals : Locals → Option ℕ → Locals
seen_locals l home = record { home = home; slots = map seen l.slots; receiver = l.receiver; method = l.method; given = None }

abbrev pub behind : List Locals → Locals → List Locals
behind outer l = outer ++ seen_locals l (Some (length outer - 1)) ∷ []

abbrev pub behind_home : (ℕ → List Locals) → Locals → Option ℕ → List Locals
behind_home outer l None = seen_locals l None ∷ []
behind_home outer l (Some home) = behind (outer home) l

abbrev pub around_by : (ℕ → List Locals) → Option Locals → List Locals
around_by outer None = []
around_by outer (Some l) = behind_home outer l l.home

-- The locals around a spawned block that was written among those at place i, the outermost first, each with the one before it as its
-- home. There are at most so many.
abbrev pub around : List Locals → ℕ → ℕ → List Locals
around ls zero i = []
around ls (suc n) i = around_by (around ls n) (slice_get ls i)
