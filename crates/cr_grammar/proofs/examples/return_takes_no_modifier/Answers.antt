use Rattle.cr_grammar.proofs.Spelled as spelled
use Rattle.cr_grammar.proofs.examples.return_takes_no_modifier.Goals as goal

pub returns : goal.returns
returns c = spelled.return_before_modifier
