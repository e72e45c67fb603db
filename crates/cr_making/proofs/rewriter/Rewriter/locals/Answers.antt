use Rattle.cr_making.proofs.Done.{nothing_made}
use Rattle.cr_making.proofs.Names.{locals_more}
use Rattle.cr_making.proofs.rewriter.Rewriter.locals.Goals as goal

pub loop-i-init : goal.loop-i-init
loop-i-init g c = nothing_made _

pub loop-i-preserved : goal.loop-i-preserved
loop-i-preserved g c = locals_more c.args.at c.args.first c.loop-i.i c.in_ok-local.local c.in_ok-local.ensures c.loop-i.invariant c.in_ok-leaf.ensures
