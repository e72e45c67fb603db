use Rattle.cr_pretty.proofs.Laid.{constructs}
use Rattle.cr_pretty.proofs.Digits.{one_is, two_is}
use Rattle.cr_pretty.proofs.examples.blocks_and_clauses_are_indented.Goals as goal

pub returns-clause-block : goal.returns-clause-block
returns-clause-block c = simp (constructs, one_is, two_is)

pub returns-clause-case : goal.returns-clause-case
returns-clause-case c = simp (constructs, one_is, two_is)

pub returns-clause-select : goal.returns-clause-select
returns-clause-select c = simp (constructs, one_is, two_is)
