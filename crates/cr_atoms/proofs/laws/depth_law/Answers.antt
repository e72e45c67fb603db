use Rattle.std.proofs.Common.{[]}
use Rattle.cr_atoms.proofs.Fronts.{depth_is}
use Rattle.cr_atoms.proofs.laws.depth_law.Goals as goal

pub returns-clause-with_arguments : goal.returns-clause-with_arguments
returns-clause-with_arguments c = depth_is

pub returns-clause-without_arguments : goal.returns-clause-without_arguments
returns-clause-without_arguments c = λ atoms atom before none. depth_is atoms atom [] before none
