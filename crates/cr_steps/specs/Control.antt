-- The redexes of control, and what is told of the reduction of one.
use Rattle.std.specs.Prelude.{◌||◌, not, Bool, true, false, List, map, All, Option, Some, None, is_some}
use Rattle.cr_core.specs.declared.form.Form.{Form}
use Rattle.cr_core.specs.declared.form.Form.TheVariants as f
use Rattle.cr_core.specs.declared.row.Row.{Row}
use Rattle.cr_meaning.specs.World.{World}
use Rattle.cr_meaning.specs.Term.{Term, Val, Node, Turn, Frame, Body, Sent}
use Rattle.cr_meaning.specs.State as m
use Rattle.cr_meaning.specs.State.{State}
use Rattle.cr_meaning.specs.Act.{Choice}
use Rattle.cr_meaning.specs.Redex.{redex}
use Rattle.cr_meaning.specs.Reduce.{Reduced, Went, Is_stuck, Is_bad}
use Rattle.cr_stack.specs.Neat.{IsNeat}
use Rattle.cr_fibers.specs.Held.{Held, fiber_of}
use Rattle.cr_steps.specs.declared.control.Control.{Control}
use Rattle.cr_steps.specs.declared.control.Control.TheVariants as told

-- ---- fibers

-- the fibers of the meaning, where the program is that of a world
abbrev pub fibers_of : World → List Held → List m.Fiber
fibers_of P fs = map (fiber_of P) fs

-- the terms of all are those of these rows
abbrev pub AreNeat : List Row → List Held → Type 0
AreNeat rows fs = All (λ (f : Held). IsNeat rows f.layers) fs

-- the state with these fibers
abbrev pub with_fibers : State → List m.Fiber → State
with_fibers s fibers = record s { fibers = fibers }

-- ---- which redexes these are

-- names, `self`, `not`, what goes on with one of its parts, and jumps
abbrev pub is_control_form : Form → Bool
is_control_form (f.Local x) = true
is_control_form (f.Set x) = true
is_control_form f.KeywordSelf = true
is_control_form f.Seq = true
is_control_form f.If = true
is_control_form f.And = true
is_control_form f.Or = true
is_control_form f.Not = true
is_control_form f.While = true
is_control_form f.Again = true
is_control_form f.Break = true
is_control_form f.Next = true
is_control_form f.Return = true
is_control_form other = false

-- such a node, and the end of a loop, a call or a block
abbrev pub is_control : Term → Bool
is_control (Val v) = false
is_control (Node n form ps) = is_control_form form
is_control (Turn fresh now) = true
is_control (Frame gives t) = true
is_control (Body t) = true
is_control (Sent channel item) = false

abbrev pub is_left : Option Term → Bool
is_left None = false
is_left (Some t) = not (is_control t)

-- the fiber has a redex, and that is none of these
abbrev pub is_left_in : Option m.Fiber → Bool
is_left_in None = false
is_left_in (Some fiber) = is_left (redex fiber.term)

-- ---- what is told

-- whether anything is chosen
abbrev pub is_chosen : Choice → Bool
is_chosen choice = is_some choice.clause || (is_some choice.partner || is_some choice.partner_clause)

abbrev pub is_other : Control → Bool
is_other told.Went = false
is_other told.Stuck = false
is_other told.BadChoice = false
is_other told.Other = true

abbrev pub is_went : Control → Bool
is_went told.Went = true
is_went told.Stuck = false
is_went told.BadChoice = false
is_went told.Other = false

-- what the reduction comes to of which this is told, where it leaves this state
abbrev pub reduced_to : Control → State → Reduced
reduced_to told.Went s = Went s
reduced_to told.Stuck s = Is_stuck
reduced_to told.BadChoice s = Is_bad
reduced_to told.Other s = Is_stuck
