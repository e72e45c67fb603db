use Rattle.std.proofs.Common.{◌≤◌, length, drop}
use Rattle.cr_stack.specs.Jumps.{AllLet}
use Rattle.cr_stack.proofs.jumping.catcher.Given as goal

abbrev pub invariant-loop-at : goal.invariant-loop-at
invariant-loop-at l = record { within : l.at ≤ length l.around; none : AllLet l.exit (drop l.at l.around) }

abbrev pub decreases-loop-at : goal.decreases-loop-at
decreases-loop-at l = l.at
