use Rattle.std.proofs.Common.{◌≡◌}
use Rattle.std.specs.Prelude.{map, take}
use Rattle.cr_meaning.specs.Locals.{seen}
use Rattle.cr_fibers.specs.Held.{slot_of}
use Rattle.cr_fibers.proofs.places.seen_locals.Given as goal

abbrev pub invariant-loop-slot : goal.invariant-loop-slot
invariant-loop-slot l = map slot_of l.slots.items ≡ map seen (map slot_of (take l.slot-index l.slot-items))
