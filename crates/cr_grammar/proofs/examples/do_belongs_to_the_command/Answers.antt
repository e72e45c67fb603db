use Rattle.cr_grammar.proofs.Spelled as spelled
use Rattle.cr_grammar.proofs.examples.do_belongs_to_the_command.Goals as goal

pub returns : goal.returns
returns c = spelled.do_belongs_to_command
