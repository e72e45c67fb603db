-- What a redex of control comes to, as the table of redexes has it.
use Rattle.std.specs.Prelude.{◌≡◌, ℕ, zero, suc, ◌<◌, ◌≤◌, not, Bool, true, false, List, ◌∷◌, length, slice_get, slice_set, Option, Some, None}
use Rattle.cr_base.specs.declared.ids.NodeId.{NodeId}
use Rattle.cr_value.specs.declared.value.Value.{Value}
use Rattle.cr_core.specs.declared.form.Form.{Form}
use Rattle.cr_core.specs.declared.form.Local.{Local}
use Rattle.cr_core.specs.declared.row.Row.{Row}
use Rattle.cr_core.specs.Shape.{Role, Portion, one, portions}
use Rattle.cr_core.specs.Shape as shape
use Rattle.cr_meaning.specs.World.{World}
use Rattle.cr_meaning.specs.Term.{Term, Terms, Turn, tree}
use Rattle.cr_meaning.specs.State.{State, set_fiber}
use Rattle.cr_meaning.specs.State as m
use Rattle.cr_meaning.specs.Act.{Act, Becomes, Choice, Jumps, gives}
use Rattle.cr_meaning.specs.Act as act
use Rattle.cr_meaning.specs.Locals.{place_of, set_variable, with_slot}
use Rattle.cr_meaning.specs.Redex.{redex, skipped}
use Rattle.cr_meaning.specs.Reduce.{acts, act as comes_to}
use Rattle.cr_stack.specs.declared.jumping.Jumped.{Jumped}
use Rattle.cr_stack.specs.declared.jumping.Jumped.TheVariants as jumped
use Rattle.cr_stack.specs.Jumps.{exit_of}
use Rattle.cr_stack.specs.Layers.{Layers, join, given as behind_given, behind, place}
use Rattle.cr_stack.specs.Neat.{until, IsTerm}
use Rattle.cr_stack.specs.Steps.{IsReduced, Ends, given_by}
use Rattle.cr_fibers.specs.declared.locals.Variable.{Variable}
use Rattle.cr_fibers.specs.Held.{Held, variable_of, with_variables}
use Rattle.cr_fibers.specs.Steps.{IsOpened, left_by}
use Rattle.cr_steps.specs.Control.{is_control, is_control_form}
use Rattle.cr_steps.specs.declared.control.Control.{Control}
use Rattle.cr_steps.specs.declared.control.Control.TheVariants as told
use Rattle.cr_steps.specs.declared.step.Step.{Step}
use Rattle.cr_steps.specs.declared.step.Step.TheVariants as step

-- ---- steps

abbrev pub given : Option Value → Step
given (Some v) = step.Gives v
given None = step.Stuck

abbrev pub is_deed : Step → Bool
is_deed step.Stuck = false
is_deed step.Nothing = false
is_deed step.Other = false
is_deed deed = true

abbrev pub is_other : Step → Bool
is_other step.Other = true
is_other it = false

-- a name of a fiber with a value of its own
abbrev pub with_own : m.Fiber → Local → Value → m.Fiber
with_own fiber x v = record fiber { locals = with_slot (slice_get fiber.locals (place_of fiber x)) x.slot (m.Own v) fiber.locals (place_of fiber x) }

-- what ends gives its value, and a call and a block leave their locals
abbrev pub ended : State → ℕ → m.Fiber → Option Term → Act
ended s i fiber None = act.Stuck
ended s i fiber (Some it) = gives (set_fiber s i (left_by it fiber)) (given_by it)

-- what the redex of fiber i comes to, of which this is the step
abbrev pub act_of : World → State → ℕ → m.Fiber → Step → Act
act_of P s i fiber (step.Gives v) = gives s v
act_of P s i fiber (step.Goes n) = Becomes s (tree P n)
act_of P s i fiber (step.Turns n) = Becomes s (Turn (tree P n) (tree P n))
act_of P s i fiber (step.SetsOwn x v shown) = gives (set_fiber s i (with_own fiber x v)) shown
act_of P s i fiber (step.SetsShared y v shown) = gives (set_variable s (variable_of y) v (slice_get s.fibers y.fiber.0)) shown
act_of P s i fiber (step.Jumps e) = Jumps (exit_of e)
act_of P s i fiber step.Ends = ended s i fiber (redex fiber.term)
act_of P s i fiber step.Stuck = act.Stuck
act_of P s i fiber step.Nothing = act.Stuck
act_of P s i fiber step.Other = act.Stuck

-- the step but for a write to what another fiber may hold
abbrev pub alone : Step → Step
alone (step.SetsShared y v shown) = step.Gives shown
alone it = it

abbrev pub gives_value : Step → Bool
gives_value (step.Gives v) = true
gives_value it = false

-- what is told of a jump
abbrev pub told_of : Jumped → Control
told_of (jumped.Ends leaves) = told.Went
told_of jumped.Outwards = told.Stuck
told_of jumped.Barred = told.Stuck

-- ---- what a redex comes to

-- the parts of a row some of which have these values
abbrev pub parts_of : World → Row → List Value → Terms
parts_of P r vs = join (behind_given P (skipped r.form) r.parts vs) (behind P (place r vs) r.parts)

-- whether a part of a node comes to a value
abbrev pub is_term : Role → Bool
is_term shape.Term = true
is_term k = false

-- among such portions a part stands at this place that does
abbrev pub term_at : List Portion → ℕ → Bool
term_at (one k ∷ ps) zero = is_term k
term_at (one k ∷ ps) (suc n) = term_at ps n
term_at other n = false

-- With these values a row has all that are reduced before it, and its parts that come to values are there.
pub record IsWhole (r : Row) (vs : List Value) : Type 0 where
  pub all : place r vs ≡ until r
  pub there : until r ≤ length r.parts
  pub part : (k : ℕ) → term_at (portions r.form) k ≡ true → k < length r.parts

-- The parts of a row that come to values are nodes of these rows that do.
abbrev pub AreTerms : List Row → Row → Type 0
AreTerms rows r = (k : ℕ) (n : NodeId) → term_at (portions r.form) k ≡ true → slice_get r.parts k ≡ Some n → IsTerm rows n

-- The step is `Other` exactly where the form is none of control, and else it is the one of the form's line in the table.
pub record DecidesNode (P : World) (s : State) (i : ℕ) (fiber : m.Fiber) (choice : Choice) (form : Form) (ps : Terms) (vs : List Value) (it : Step) : Type 0 where
  pub control : is_control_form form ≡ not (is_other it)
  pub comes : is_other it ≡ false → acts P s i fiber choice form ps vs ≡ act_of P s i fiber it

-- the same of a redex
pub record DecidesTerm (P : World) (s : State) (i : ℕ) (fiber : m.Fiber) (choice : Choice) (t : Term) (it : Step) : Type 0 where
  pub control : is_control t ≡ not (is_other it)
  pub comes : is_other it ≡ false → comes_to P s i fiber choice t ≡ act_of P s i fiber it

-- the same of what may be there
abbrev pub Decides : World → State → ℕ → m.Fiber → Choice → Option Term → Step → Type 0
Decides P s i fiber choice None it = it ≡ step.Nothing
Decides P s i fiber choice (Some t) it = DecidesTerm P s i fiber choice t it

-- ---- what a step may be done to

-- a node that it goes on with comes to a value, and it is no end
abbrev pub IsThere : List Row → Step → Type 0
IsThere rows (step.Goes n) = IsTerm rows n
IsThere rows (step.Turns n) = IsTerm rows n
IsThere rows step.Ends = ⊥
IsThere rows step.Nothing = ⊥
IsThere rows it = Unit {0}

-- what a fiber must be at, to which it is done
abbrev pub Fits : List Row → Layers → Step → Type 0
Fits rows l (step.Gives v) = IsReduced l.focus
Fits rows l (step.Goes n) = IsReduced l.focus × IsTerm rows n
Fits rows l (step.Turns n) = IsReduced l.focus × IsTerm rows n
Fits rows l (step.SetsOwn x v shown) = IsReduced l.focus
Fits rows l (step.SetsShared y v shown) = IsReduced l.focus
Fits rows l (step.Jumps e) = IsReduced l.focus
Fits rows l step.Ends = Ends l
Fits rows l step.Stuck = Unit {0}
Fits rows l step.Nothing = Unit {0}
Fits rows l step.Other = Unit {0}

-- the fiber at a place stands at its redex, and this may be done to it
pub record CanAct (rows : List Row) (fs : List Held) (i : ℕ) (it : Step) : Type 0 where
  pub held : Held
  pub stands : slice_get fs i ≡ Some held
  pub opened : IsOpened rows held
  pub fits : Fits rows held.layers it

-- ---- captured locals

abbrev pub with_captured : List Held → Variable → Value → Option Held → List Held
with_captured fs y v None = fs
with_captured fs y v (Some f) = slice_set fs y.fiber.0 (with_variables f (slice_set f.variables y.number v))

-- fibers among which a captured local has this value, where it is there
abbrev pub captured_in : List Held → Variable → Value → List Held
captured_in fs y v = with_captured fs y v (slice_get fs y.fiber.0)
