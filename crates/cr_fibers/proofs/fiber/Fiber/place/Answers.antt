use Rattle.std.proofs.Common.{ap}
use Rattle.std.specs.Prelude.{map}
use Rattle.cr_fibers.specs.Held.{locals_of}
use Rattle.cr_fibers.proofs.Reading.{place_is}
use Rattle.cr_fibers.proofs.fiber.Fiber.place.Goals as goal

pub returns : goal.returns
returns c = place_is _ c.args.self.now _ c.args.named.up c.innermost.result _ c.self.view_is c.outwards.ensures (ap (map locals_of) c.as_slice.ensures.value) c.innermost.ensures
