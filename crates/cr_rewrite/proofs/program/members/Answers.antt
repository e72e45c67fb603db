use Rattle.std.proofs.Common.{refl, arith}
use Rattle.cr_making.specs.Part.{Part}
use Rattle.cr_making.proofs.Done.{nothing_made}
use Rattle.cr_making.proofs.Loops.{each_more, each_done}
use Rattle.cr_rewrite.proofs.program.members.Goals as goal

pub loop-tree-init : goal.loop-tree-init
loop-tree-init c = nothing_made _

pub loop-tree-preserved : goal.loop-tree-preserved
loop-tree-preserved c = each_more (λ (p : Part). p.members) c.args.list.now c.loop-tree.tree-index _ _ _ _ (omega arith) c.tree-item.is c.loop-tree.invariant c.in_ok-rewrite.ensures

pub returns : goal.returns
returns c = each_done (λ (p : Part). p.members) c.args.list.now c.args.list.now c.loop-tree.tree-index _ _ refl (omega arith) c.loop-tree.invariant
