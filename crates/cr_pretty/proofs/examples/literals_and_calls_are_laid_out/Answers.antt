use Rattle.cr_pretty.proofs.Laid.{constructs}
use Rattle.cr_pretty.proofs.Digits.{one_is, two_is}
use Rattle.cr_pretty.proofs.examples.literals_and_calls_are_laid_out.Goals as goal

pub returns-clause-texts : goal.returns-clause-texts
returns-clause-texts c = simp (constructs, one_is, two_is)

pub returns-clause-hash : goal.returns-clause-hash
returns-clause-hash c = simp (constructs, one_is, two_is)

pub returns-clause-new : goal.returns-clause-new
returns-clause-new c = simp (constructs, one_is, two_is)

pub returns-clause-empty : goal.returns-clause-empty
returns-clause-empty c = simp (constructs, one_is, two_is)
