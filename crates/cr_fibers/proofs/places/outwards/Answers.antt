use Rattle.std.proofs.Common.{◌∙◌, arith}
use Rattle.std.specs.Prelude.{map}
use Rattle.cr_fibers.specs.Held.{locals_of}
use Rattle.cr_fibers.proofs.Around.{outwards_step}
use Rattle.cr_fibers.proofs.places.outwards.Goals as goal

pub loop-block-preserved : goal.loop-block-preserved
loop-block-preserved c =
    c.loop-block.invariant
    ∙ outwards_step (map locals_of c.args.locals.now) c.args.up c.loop-block._block c.loop-block.at c.home-at.result (omega arith) c.home-at.ensures
