use Rattle.cr_grammar.proofs.Spelled as spelled
use Rattle.cr_grammar.proofs.examples.conditional_has_both_branches.Goals as goal

pub returns : goal.returns
returns c = spelled.both_branches
