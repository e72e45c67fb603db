use Rattle.cr_names.specs.Leading.{IsLeastBelow}
use Rattle.cr_names.proofs.lookup.Lookup.first_offence.Given as goal

abbrev pub invariant-loop-number : goal.invariant-loop-number
invariant-loop-number l = IsLeastBelow l.self.core.now l.number l.best
