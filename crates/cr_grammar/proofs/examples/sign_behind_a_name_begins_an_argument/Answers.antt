use Rattle.cr_grammar.proofs.Spelled as spelled
use Rattle.cr_grammar.proofs.examples.sign_behind_a_name_begins_an_argument.Goals as goal

pub returns-clause-sign : goal.returns-clause-sign
returns-clause-sign c = spelled.sign_behind_name

pub returns-clause-number : goal.returns-clause-number
returns-clause-number c = spelled.number_behind_name

pub returns-clause-difference : goal.returns-clause-difference
returns-clause-difference c = spelled.difference
