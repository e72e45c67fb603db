use Rattle.std.proofs.Common.{◌≤◌, ◌-◌, length}
use Rattle.cr_flow.proofs.steps.step_before.Given as goal

abbrev pub invariant-halves : goal.invariant-halves
invariant-halves l = l.high ≤ length l.steps

abbrev pub decreases-halves : goal.decreases-halves
decreases-halves l = l.high - l.low
