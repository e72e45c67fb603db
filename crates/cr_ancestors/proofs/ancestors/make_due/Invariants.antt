use Rattle.cr_ancestors.specs.Making.{IsRound}
use Rattle.cr_ancestors.proofs.ancestors.make_due.Given as goal

abbrev pub invariant-loop-n : goal.invariant-loop-n
invariant-loop-n l = IsRound l.hierarchy l.fn.lists l.n l.lists
