use Rattle.cr_pretty.proofs.Laid.{constructs}
use Rattle.cr_pretty.proofs.Digits.{one_is, two_is}
use Rattle.cr_pretty.proofs.examples.signs_stand_in_parentheses.Goals as goal

pub returns-clause-digit : goal.returns-clause-digit
returns-clause-digit c = simp (constructs, one_is, two_is)

pub returns-clause-sign : goal.returns-clause-sign
returns-clause-sign c = simp (constructs, one_is, two_is)
