-- What the state of a run stands for: a state of the meaning.
use Rattle.std.specs.Prelude.{◌≡◌, ℕ, List, map, All}
use Rattle.cr_core.specs.declared.row.Row.{Row}
use Rattle.cr_core.specs.Tree.{Contents}
use Rattle.cr_meaning.specs.World.{World}
use Rattle.cr_meaning.specs.State as m
use Rattle.cr_stack.specs.Neat.{IsNeat}
use Rattle.cr_fibers.specs.Held.{Held, fiber_of}
use Rattle.cr_machine.specs.declared.contexts.ContextKind.{ContextKind}
use Rattle.cr_machine.specs.declared.contexts.ContextKind.TheVariants as kind
use Rattle.cr_machine.specs.declared.contexts.Context.{Context}

abbrev pub kind_of : ContextKind → m.Kind
kind_of kind.Concurrent = m.Concurrent
kind_of kind.Parallel = m.Parallel
kind_of (kind.Isolated fiber) = m.Isolated fiber.0

abbrev pub context_of : Context → m.Where
context_of c = record { kind = kind_of c.kind; size = c.size }

-- What contracts see of a state: its fibers as they are held, and the rest as the meaning has it.
pub record Machine : Type 0 where
  pub fibers : List Held
  pub cells : List m.Cell
  pub contexts : List m.Where
  pub output : List ℕ
  pub errors : List ℕ

-- the state of the meaning, where the program is that of this world
abbrev pub state_of : World → Machine → m.State
state_of P s = record { fibers = map (fiber_of P) s.fibers; cells = s.cells; contexts = s.contexts; output = s.output; errors = s.errors }

-- the program of which a world tells is this core tree
pub record IsWorldOf (P : World) (t : Contents) : Type 0 where
  pub rows : P.rows ≡ t.rows
  pub scopes : P.scopes ≡ t.scopes

-- the terms of all fibers are those of these rows
abbrev pub AreNeat : List Row → Machine → Type 0
AreNeat rows s = All (λ (f : Held). IsNeat rows f.layers) s.fibers
