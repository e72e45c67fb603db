use Rattle.cr_descent.proofs.Consequences as consequences
use Rattle.cr_descent.proofs.Accepted as accepted
use Rattle.cr_descent.proofs.limits.program_is_accepted.Goals as goal

pub returns : goal.returns
returns c = accepted.program_is_accepted consequences.one_tree
