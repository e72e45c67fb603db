use Rattle.cr_lookup.specs.Choice.{IsLeastIfAny}
use Rattle.cr_lookup.proofs.choice.least.Given as goal

abbrev pub invariant-loop-n : goal.invariant-loop-n
invariant-loop-n l = IsLeastIfAny l.classes l.methods l.sought l.args l.n l.best
