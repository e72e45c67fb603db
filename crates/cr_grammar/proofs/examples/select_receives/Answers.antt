use Rattle.cr_grammar.proofs.Spelled as spelled
use Rattle.cr_grammar.proofs.examples.select_receives.Goals as goal

pub returns : goal.returns
returns c = spelled.select_receives
