use Rattle.cr_making.proofs.Done.{closed_more}
use Rattle.cr_making.proofs.maker.Maker.close_all.Goals as goal

pub loop-i-preserved : goal.loop-i-preserved
loop-i-preserved c = closed_more c.loop-i.i c.loop-i.invariant c.in_ok-close.ensures
