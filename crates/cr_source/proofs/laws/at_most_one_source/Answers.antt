use Rattle.cr_source.proofs.Refusals.{one_source}
use Rattle.cr_source.proofs.laws.at_most_one_source.Goals as goal

pub returns : goal.returns
returns c = one_source c.at_most_one_list.ensures c.one_tree.ensures
