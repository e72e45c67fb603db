use Rattle.cr_grammar.proofs.Spelled as spelled
use Rattle.cr_grammar.proofs.examples.question_in_a_type_is_nil.Goals as goal

pub returns : goal.returns
returns c = spelled.question_is_nil
