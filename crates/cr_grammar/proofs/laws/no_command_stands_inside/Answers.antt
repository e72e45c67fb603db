use Rattle.cr_grammar.proofs.Passing as passing
use Rattle.cr_grammar.proofs.laws.no_command_stands_inside.Goals as goal

pub returns : goal.returns
returns c = passing.no_command_inside
