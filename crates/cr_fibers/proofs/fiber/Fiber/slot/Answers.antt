use Rattle.std.proofs.Common.{ap}
use Rattle.std.specs.Prelude.{map}
use Rattle.cr_fibers.specs.Held.{locals_of}
use Rattle.cr_fibers.proofs.Reading.{slot_is}
use Rattle.cr_fibers.proofs.fiber.Fiber.slot.Goals as goal

pub returns : goal.returns
returns c = λ P.
    slot_is _ c.args.self.now _ c.place.result c.args.named.up c.args.named.slot _ c.self.view_is c.slot_at.ensures (ap (map locals_of) c.as_slice.ensures.value) c.place.ensures
