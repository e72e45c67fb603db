use Rattle.cr_pretty.proofs.Laid.{constructs}
use Rattle.cr_pretty.proofs.Digits.{one_is, two_is}
use Rattle.cr_pretty.proofs.examples.operands_stand_in_parentheses.Goals as goal

pub returns-clause-operand : goal.returns-clause-operand
returns-clause-operand c = simp (constructs, one_is, two_is)

pub returns-clause-receiver : goal.returns-clause-receiver
returns-clause-receiver c = simp (constructs, one_is, two_is)

pub returns-clause-argument : goal.returns-clause-argument
returns-clause-argument c = simp (constructs, one_is, two_is)

pub returns-clause-twice : goal.returns-clause-twice
returns-clause-twice c = simp (constructs, one_is, two_is)
