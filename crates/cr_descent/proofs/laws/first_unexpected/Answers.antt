use Rattle.cr_descent.proofs.Consequences as consequences
use Rattle.cr_descent.proofs.laws.first_unexpected.Goals as goal

pub returns : goal.returns
returns c = consequences.first_unexpected
