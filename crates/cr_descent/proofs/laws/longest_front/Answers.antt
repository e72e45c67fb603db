use Rattle.cr_descent.proofs.Consequences as consequences
use Rattle.cr_descent.proofs.laws.longest_front.Goals as goal

pub returns : goal.returns
returns c = consequences.longest_front
