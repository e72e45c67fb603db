use Rattle.cr_descent.proofs.Consequences as consequences
use Rattle.cr_descent.proofs.laws.one_tree.Goals as goal

pub returns : goal.returns
returns c = consequences.one_tree
