use Rattle.std.proofs.Common.{arith}
use Rattle.cr_making.specs.View.{viewed}
use Rattle.cr_making.proofs.Done.{nothing_made}
use Rattle.cr_making.proofs.Loops.{each_more, each_done}
use Rattle.cr_making.proofs.rewriter.Rewriter.each.Goals as goal

pub loop-tree-init : goal.loop-tree-init
loop-tree-init g c = nothing_made _

pub loop-tree-preserved : goal.loop-tree-preserved
loop-tree-preserved g c = each_more (viewed c.args.view) c.as_slice-tree-items.result.now c.loop-tree.tree-index _ _ _ _ (omega arith) c.tree-item.is c.loop-tree.invariant c.in_ok-one.ensures

pub returns : goal.returns
returns g c = each_done (viewed c.args.view) c.as_slice-tree-items.result.now _ c.loop-tree.tree-index _ _ c.as_slice-tree-items.ensures (omega arith) c.loop-tree.invariant
