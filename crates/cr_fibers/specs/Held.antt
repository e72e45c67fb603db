-- What a fiber stands for: a fiber of the meaning, where the program is that of a world.
use Rattle.std.specs.Prelude.{ℕ, List, map, Option, Some, None}
use Rattle.std.specs.Option.{option_map}
use Rattle.cr_value.specs.declared.value.Value.{Value}
use Rattle.cr_meaning.specs.World.{World}
use Rattle.cr_meaning.specs.State as m
use Rattle.cr_stack.specs.Layers.{Layers, term}
use Rattle.cr_fibers.specs.declared.locals.Variable.{Variable}
use Rattle.cr_fibers.specs.declared.locals.Slot.{Slot}
use Rattle.cr_fibers.specs.declared.locals.Slot.TheVariants as slot
use Rattle.cr_fibers.specs.declared.locals.Given.{Given}
use Rattle.cr_fibers.specs.declared.locals.Locals.{Locals}
use Rattle.cr_fibers.specs.declared.progress.Progress.{Progress}
use Rattle.cr_fibers.specs.declared.progress.Progress.TheVariants as progress
use Rattle.cr_fibers.specs.declared.progress.Status.{Status}
use Rattle.cr_fibers.specs.declared.progress.Status.TheVariants as status
use Rattle.cr_fibers.specs.declared.progress.FiberLook.{FiberLook}

-- ---- locals

abbrev pub variable_of : Variable → m.Variable
variable_of x = record { fiber = x.fiber.0; number = x.number }

abbrev pub slot_of : Slot → m.Slot
slot_of (slot.Own v) = m.Own v
slot_of (slot.Shared x) = m.Shared (variable_of x)

abbrev pub given_of : Given → m.Given
given_of g = record { block = g.block; home = g.home }

abbrev pub locals_of : Locals → m.Locals
locals_of l = record { home = l.home; slots = map slot_of l.slots.items; receiver = l.receiver; method = l.method; given = option_map given_of l.given }

-- ---- how far a fiber is

abbrev pub status_of : Progress → m.Status
status_of progress.Ready = m.Ready
status_of progress.Current = m.Current
status_of progress.Waiting = m.Waiting
status_of progress.Finished = m.Done
status_of progress.Raised = m.Raised

-- the status that is told: a fiber that raised is done
abbrev pub told : m.Status → Status
told m.Ready = status.Ready
told m.Current = status.Current
told m.Waiting = status.Waiting
told m.Done = status.Done
told m.Raised = status.Done

-- ---- a fiber

-- What contracts see of a fiber: its stack as layers, and the rest as the meaning has it.
pub record Held : Type 0 where
  pub layers : Layers
  pub locals : List m.Locals
  pub variables : List Value
  pub context : ℕ
  pub status : m.Status

abbrev pub fiber_of : World → Held → m.Fiber
fiber_of P f = record { term = term P f.layers; locals = f.locals; variables = f.variables; context = f.context; status = f.status }

abbrev pub with_status : Held → m.Status → Held
with_status f status = record f { status = status }

abbrev pub with_layers : Held → Layers → Held
with_layers f layers = record f { layers = layers }

abbrev pub with_variables : Held → List Value → Held
with_variables f variables = record f { variables = variables }

abbrev pub with_locals : Held → List m.Locals → Held
with_locals f locals = record f { locals = locals }

abbrev pub look_of : Option m.Fiber → Option FiberLook
look_of None = None
look_of (Some f) = Some (record { context = record { 0 = f.context }; status = told f.status })
