use Rattle.cr_descent.proofs.Computed as computed
use Rattle.cr_descent.proofs.examples.another_tree_is_not_spelled.Goals as goal

pub returns : goal.returns
returns c = computed.groups_not_right
