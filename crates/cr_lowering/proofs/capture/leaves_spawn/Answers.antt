use Rattle.std.proofs.Common.{◌+◌, ◌-◌, Some, arith}
use Rattle.cr_core.specs.Tree.{leaves_spawn}
use Rattle.cr_lowering.proofs.Marked.{left_more, left_here}
use Rattle.cr_lowering.proofs.capture.leaves_spawn.Goals as goal

pub loop-i-preserved : goal.loop-i-preserved
loop-i-preserved c =
    left_more c.args.scopes.now (c.args.up - c.loop-i.i) (c.args.up - (c.loop-i.i + 1)) c.loop-i.at c.home_of-at.result c.is_spawn.result (leaves_spawn c.args.scopes.now c.args.up (Some c.args.from)) (omega (arith, c.loop-i-test.true))
    c.is_spawn.ensures c.if-is_spawn.false c.home_of-at.ensures c.loop-i.invariant

pub returns-then-is_spawn : goal.returns-then-is_spawn
returns-then-is_spawn c =
    left_here c.args.scopes.now (c.args.up - c.loop-i.i) (c.args.up - (c.loop-i.i + 1)) c.loop-i.at c.is_spawn.result (leaves_spawn c.args.scopes.now c.args.up (Some c.args.from)) (omega (arith, c.loop-i-test.true))
    c.is_spawn.ensures c.if-is_spawn.true c.loop-i.invariant
