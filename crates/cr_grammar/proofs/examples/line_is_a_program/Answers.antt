use Rattle.cr_grammar.proofs.Spelled as spelled
use Rattle.cr_grammar.proofs.examples.line_is_a_program.Goals as goal

pub returns : goal.returns
returns c = spelled.one_line
