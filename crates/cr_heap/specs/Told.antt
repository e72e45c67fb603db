-- What is told of the cells, as the meaning has it: what a reduction comes to that reads and changes cells alone, and what a class is.
use Rattle.std.specs.Prelude.{Bool, true, false, List, Option, Some, None, slice_get}
use Rattle.cr_base.specs.declared.ids.ClassId.{ClassId}
use Rattle.cr_value.specs.declared.value.CellRef.{CellRef}
use Rattle.cr_value.specs.declared.value.Value.{Value}
use Rattle.cr_value.specs.declared.value.Value.TheVariants.{Ref}
use Rattle.cr_builtins.specs.declared.raise.Raise.TheVariants.{Limit}
use Rattle.cr_builtins.specs.declared.outcome.Outcome.{Outcome}
use Rattle.cr_builtins.specs.declared.outcome.Outcome.TheVariants.{Gives, Raises, Stuck}
use Rattle.cr_meaning.specs.World.{World}
use Rattle.cr_meaning.specs.State.{State}
use Rattle.cr_meaning.specs.State as m
use Rattle.cr_meaning.specs.Act.{Act, Language, outcome_of}
use Rattle.cr_meaning.specs.Act as act
use Rattle.cr_meaning.specs.Calls.{class_of_where}
use Rattle.cr_heap.specs.declared.cell.CellKind.{CellKind}
use Rattle.cr_heap.specs.declared.cell.CellKind.TheVariants as kind

-- the state with these cells
abbrev pub with_cells : State → List m.Cell → State
with_cells s cells = record s { cells = cells }

-- What the outcome is of a reduction that leaves these cells.
abbrev pub told : State → List m.Cell → Outcome → Act
told s cells outcome = outcome_of (with_cells s cells) outcome

-- What goes on with the reference to a new cell, among these; where there was no room for it, it raises.
abbrev pub going : State → List m.Cell → (State → Value → Act) → Option CellRef → Act
going s cells go None = act.Raises (Language Limit)
going s cells go (Some r) = go (with_cells s cells) (Ref r)

-- whether the outcome is a value
abbrev pub is_given : Outcome → Bool
is_given (Gives v) = true
is_given (Raises raise) = false
is_given Stuck = false

-- the class of what a cell tells
abbrev pub class_by : World → State → CellKind → ClassId
class_by P s kind.Missing = P.object_class
class_by P s (kind.Object class) = class
class_by P s kind.Array = P.array_class
class_by P s kind.Hash = P.hash_class
class_by P s kind.Channel = P.channel_class
class_by P s (kind.Context context) = class_of_where P (slice_get s.contexts context.0)
