use Rattle.std.proofs.Common.{arith}
use Rattle.cr_making.proofs.Done.{nests_none}
use Rattle.cr_constructs.proofs.Elements.{kept_more, kept_done}
use Rattle.cr_constructs.proofs.constructs.Constructs.keep_indexes.Goals as goal

pub loop-i-init : goal.loop-i-init
loop-i-init g c = nests_none _

pub loop-i-preserved : goal.loop-i-preserved
loop-i-preserved g c = kept_more c.args.mark c.args.local c.as_slice-indexes.result.now c.loop-i.i _ c.in_ok-kept.kept (omega arith) c.index-indexes-i.is c.in_ok-kept.ensures c.loop-i.invariant c.in_ok-open.ensures c.in_ok-open-2.ensures c.in_ok-one.ensures c.in_ok-close.ensures

pub returns : goal.returns
returns g c = kept_done c.args.mark c.args.local c.as_slice-indexes.result.now _ c.loop-i.i _ _ c.as_slice-indexes.ensures (omega arith) c.loop-i.invariant
