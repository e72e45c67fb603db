use Rattle.cr_core.proofs.Standing.{rows_stand}
use Rattle.cr_core.proofs.laws.rows_are_the_trees.Goals as goal

pub returns : goal.returns
returns c = rows_stand
