use Rattle.cr_pretty.proofs.Laid.{constructs}
use Rattle.cr_pretty.proofs.Digits.{one_is, two_is}
use Rattle.cr_pretty.proofs.examples.classes_are_laid_out.Goals as goal

pub returns : goal.returns
returns c = simp (constructs, one_is, two_is)
