use Rattle.cr_grammar.proofs.Spelled as spelled
use Rattle.cr_grammar.proofs.examples.text_has_an_insertion.Goals as goal

pub returns : goal.returns
returns c = spelled.text_with_insertion
