use Rattle.cr_grammar.proofs.Spelled as spelled
use Rattle.cr_grammar.proofs.examples.operators_group_to_the_left.Goals as goal

pub returns : goal.returns
returns c = spelled.groups_left
