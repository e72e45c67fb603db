use Rattle.cr_fibers.proofs.Reading.{set_slot_is}
use Rattle.cr_fibers.proofs.fiber.Fiber.set_slot.Goals as goal

pub returns : goal.returns
returns c = set_slot_is _ c.args.self.now _ c.place-place.result c.args.named.slot c.args.named.up c.args.value c.self.view_is c.write_own.ensures c.place-place.ensures
