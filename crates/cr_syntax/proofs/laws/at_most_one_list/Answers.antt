use Rattle.cr_syntax.proofs.Unique.{at_most_one_list}
use Rattle.cr_syntax.proofs.laws.at_most_one_list.Goals as goal

pub returns : goal.returns
returns c = at_most_one_list
