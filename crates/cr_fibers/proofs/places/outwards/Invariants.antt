use Rattle.std.proofs.Common.{◌≡◌, ◌-◌}
use Rattle.std.specs.Prelude.{map}
use Rattle.cr_meaning.specs.Locals.{outwards}
use Rattle.cr_fibers.specs.Held.{locals_of}
use Rattle.cr_fibers.proofs.places.outwards.Given as goal

abbrev pub invariant-loop-block : goal.invariant-loop-block
invariant-loop-block l = outwards (map locals_of l.locals) l.up l.from ≡ outwards (map locals_of l.locals) (l.up - l._block) l.at
