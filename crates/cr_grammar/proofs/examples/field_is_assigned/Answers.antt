use Rattle.cr_grammar.proofs.Spelled as spelled
use Rattle.cr_grammar.proofs.examples.field_is_assigned.Goals as goal

pub returns : goal.returns
returns c = spelled.field_is_assigned
