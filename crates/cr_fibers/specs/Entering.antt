-- What a fiber has of a call or a block that begins.
use Rattle.std.specs.Prelude.{ℕ, List, ◌++◌, map}
use Rattle.std.specs.Option.{option_map}
use Rattle.cr_base.specs.declared.ids.NodeId.{NodeId}
use Rattle.cr_value.specs.declared.value.Value.{Value}
use Rattle.cr_meaning.specs.World.{World}
use Rattle.cr_meaning.specs.Term.{Frame, Body, tree}
use Rattle.cr_meaning.specs.State as m
use Rattle.cr_meaning.specs.Locals as l
use Rattle.cr_fibers.specs.declared.locals.Begun.{Begun}
use Rattle.cr_fibers.specs.declared.locals.Call.{Call}
use Rattle.cr_fibers.specs.Held.{slot_of, given_of}
use Rattle.cr_fibers.specs.Steps.{reduced_to}

-- The slots of a scope that begins, and the captured locals of its fiber then, which had these before.
abbrev pub begun_of : List Value → Begun → l.Begun
begun_of variables b = record { slots = map slot_of b.slots.items; variables = variables ++ b.made.items }

-- a fiber in which this call has begun
abbrev pub in_call : World → m.Fiber → Call → Begun → NodeId → m.Fiber
in_call P fiber call b body =
    let begun = begun_of fiber.variables b in
    reduced_to (l.entered fiber begun (l.of_call begun call.receiver call.method (option_map given_of call.given))) (Frame call.gives (tree P body))

-- a fiber in which a block has begun that was written among these locals
abbrev pub in_block : World → m.Fiber → ℕ → m.Locals → Begun → NodeId → m.Fiber
in_block P fiber home around b body =
    let begun = begun_of fiber.variables b in
    reduced_to (l.entered fiber begun (l.of_block begun home around)) (Body (tree P body))
