use Rattle.std.proofs.lemmas.List.{map-set}
use Rattle.cr_fibers.specs.declared.locals.Slot.TheVariants.{Own}
use Rattle.cr_fibers.specs.Held.{slot_of}
use Rattle.cr_fibers.proofs.places.write_slot.Goals as goal

pub returns-then-at-len : goal.returns-then-at-len
returns-then-at-len c = map-set slot_of c.args.slots.now.items c.args.at (Own c.args.value)
