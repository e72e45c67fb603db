use Rattle.cr_grammar.proofs.Passing as passing
use Rattle.cr_grammar.proofs.laws.do_is_not_the_arguments.Goals as goal

pub returns : goal.returns
returns c = passing.do_is_not_theirs
