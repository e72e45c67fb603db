use Rattle.cr_pretty.proofs.Laid.{constructs}
use Rattle.cr_pretty.proofs.Digits.{one_is, two_is}
use Rattle.cr_pretty.proofs.examples.lines_stand_below_their_statement.Goals as goal

pub returns-clause-nothing : goal.returns-clause-nothing
returns-clause-nothing c = simp (constructs, one_is, two_is)

pub returns-clause-otherwise : goal.returns-clause-otherwise
returns-clause-otherwise c = simp (constructs, one_is, two_is)

pub returns-clause-elsif : goal.returns-clause-elsif
returns-clause-elsif c = simp (constructs, one_is, two_is)

pub returns-clause-inner : goal.returns-clause-inner
returns-clause-inner c = simp (constructs, one_is, two_is)
