use Rattle.cr_shapes.specs.Leading.{IsLeastBelow}
use Rattle.cr_shapes.proofs.least.first_offence.Given as goal

abbrev pub invariant-loop-number : goal.invariant-loop-number
invariant-loop-number l = IsLeastBelow l.core l.number l.best
