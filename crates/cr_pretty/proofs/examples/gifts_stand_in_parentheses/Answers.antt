use Rattle.cr_pretty.proofs.Laid.{constructs}
use Rattle.cr_pretty.proofs.Digits.{one_is, two_is}
use Rattle.cr_pretty.proofs.examples.gifts_stand_in_parentheses.Goals as goal

pub returns-clause-conditional : goal.returns-clause-conditional
returns-clause-conditional c = simp (constructs, one_is, two_is)

pub returns-clause-looping : goal.returns-clause-looping
returns-clause-looping c = simp (constructs, one_is, two_is)
