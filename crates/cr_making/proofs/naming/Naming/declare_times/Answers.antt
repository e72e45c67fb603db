use Rattle.std.proofs.Common.{◌+◌, ◌-◌, arith}
use Rattle.cr_making.proofs.Found.{times_step}
use Rattle.cr_making.proofs.naming.Naming.declare_times.Goals as goal

pub loop-i-preserved : goal.loop-i-preserved
loop-i-preserved c = times_step (c.args.count - c.loop-i.i) (c.args.count - (c.loop-i.i + 1)) _ _ _ (omega arith) c.in_ok-declare.ensures.after c.loop-i.invariant
