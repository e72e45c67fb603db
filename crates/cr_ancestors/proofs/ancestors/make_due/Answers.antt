use Rattle.std.proofs.Common.{get_or}
use Rattle.cr_ancestors.proofs.Made.{partial_once, round_step}
use Rattle.cr_ancestors.proofs.ancestors.make_due.Goals as goal

pub make_at-requires-clause-once : goal.make_at-requires-clause-once
make_at-requires-clause-once c = partial_once c.args.hierarchy.now c.loop-n.lists c.loop-n.invariant.partial

pub loop-n-preserved : goal.loop-n-preserved
loop-n-preserved c = round_step c.args.hierarchy.now c.args.lists.now c.loop-n.n c.loop-n.lists c.make_at.new.lists c.ups.result.now c.loop-n.invariant c.ups.ensures c.in_ok-make_at.ensures
