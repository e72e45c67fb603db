use Rattle.cr_grammar.proofs.Spelled as spelled
use Rattle.cr_grammar.proofs.examples.setter_stands_in_a_class.Goals as goal

pub returns : goal.returns
returns c = spelled.setter_in_class
