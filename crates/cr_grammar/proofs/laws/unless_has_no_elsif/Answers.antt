use Rattle.cr_grammar.proofs.Unless as unless
use Rattle.cr_grammar.proofs.laws.unless_has_no_elsif.Goals as goal

pub returns : goal.returns
returns c = unless.unless_has_no_elsif
