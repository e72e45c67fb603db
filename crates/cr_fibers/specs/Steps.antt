-- What the calls of a fiber do to it.
use Rattle.std.specs.Prelude.{◌≡◌, ◌<◌, List, Bool, if◌then◌else◌, Some}
use Rattle.cr_core.specs.declared.row.Row.{Row}
use Rattle.cr_meaning.specs.World.{World}
use Rattle.cr_meaning.specs.Term.{Term, Val, Frame, Body}
use Rattle.cr_meaning.specs.State as m
use Rattle.cr_meaning.specs.Redex.{redex, put}
use Rattle.cr_meaning.specs.Redex as r
use Rattle.cr_meaning.specs.Locals.{left}
use Rattle.cr_meaning.specs.Reduce.{with_whole}
use Rattle.cr_stack.specs.declared.jumping.Exit.{Exit}
use Rattle.cr_stack.specs.declared.jumping.Jumped.{Jumped}
use Rattle.cr_stack.specs.declared.jumping.Jumped.TheVariants as j
use Rattle.cr_stack.specs.Jumps.{exit_of}
use Rattle.cr_stack.specs.Neat.{IsNeat}
use Rattle.cr_stack.specs.Steps.{IsOpen, given_by}
use Rattle.cr_fibers.specs.Held.{Held, fiber_of}

-- A fiber that can reduce without taking memory for its term: it stands at its redex, or its term is a value.
pub record IsOpened (rows : List Row) (f : Held) : Type 0 where
  pub neat : IsNeat rows f.layers
  pub stands : IsOpen f.layers
  pub room : 0 < f.layers.room

-- this term in place of the redex
abbrev pub reduced_to : m.Fiber → Term → m.Fiber
reduced_to fiber t = with_whole fiber (put t fiber.term)

-- This term has taken the place of the redex, and nothing else has changed.
pub record Becomes (rows : List Row) (old : Held) (t : World → Term) (new : Held) : Type 0 where
  pub is : (P : World) → P.rows ≡ rows → fiber_of P new ≡ reduced_to (fiber_of P old) (t P)

-- a fiber once this has ended: a call and a block leave their locals
abbrev pub left_by : Term → m.Fiber → m.Fiber
left_by (Frame gives t) fiber = left fiber
left_by (Body t) fiber = left fiber
left_by other fiber = fiber

-- The redex is a loop, a call or a block that has ended. What it gives has taken its place.
pub record Closed (P : World) (old new : Held) : Type 0 where
  pub it : Term
  pub is : redex (fiber_of P old).term ≡ Some it
  pub closed : fiber_of P new ≡ reduced_to (left_by it (fiber_of P old)) (Val (given_by it))

-- a fiber in which a jump has ended, with its locals or without
abbrev pub jumped_to : m.Fiber → Bool → Term → m.Fiber
jumped_to fiber leaves t = with_whole (if leaves then left fiber else fiber) t

-- The jump comes to what is told, and the fiber is the one then.
abbrev pub JumpsTo : World → Exit → Held → Jumped → Held → Type 0
JumpsTo P e old j.Outwards new = (r.jump (exit_of e) (fiber_of P old).term ≡ r.Outwards) × (fiber_of P new ≡ fiber_of P old)
JumpsTo P e old (j.Ends leaves) new =
    (t : Term) × (r.jump (exit_of e) (fiber_of P old).term ≡ r.Ends leaves t) × (fiber_of P new ≡ jumped_to (fiber_of P old) leaves t)
JumpsTo P e old j.Barred new = (r.jump (exit_of e) (fiber_of P old).term ≡ r.Barred) × (fiber_of P new ≡ fiber_of P old)
