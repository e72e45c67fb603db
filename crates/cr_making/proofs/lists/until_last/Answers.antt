use Rattle.std.proofs.Common.{arith}
use Rattle.cr_making.proofs.Loops.{until_none, until_more, until_done}
use Rattle.cr_making.proofs.lists.until_last.Goals as goal

pub loop-i-init : goal.loop-i-init
loop-i-init c = until_none c.args.view c.args.list.now

pub loop-i-preserved : goal.loop-i-preserved
loop-i-preserved c = until_more c.args.view c.args.list.now c.loop-i.i c.loop-i.count c.if_said-count.result _ c.said.result c.said.ensures c.if_said-count.ensures (omega arith) c.index-list-i.is c.loop-i.invariant

pub returns : goal.returns
returns c = until_done c.args.view c.args.list.now c.loop-i.i c.loop-i.count (omega arith) (omega arith) c.loop-i.invariant
