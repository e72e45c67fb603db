use Rattle.cr_grammar.proofs.Spelled as spelled
use Rattle.cr_grammar.proofs.examples.modifier_takes_the_statement.Goals as goal

pub returns : goal.returns
returns c = spelled.modifier_takes_statement
