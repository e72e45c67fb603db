use Rattle.cr_descent.proofs.Consequences as consequences
use Rattle.cr_descent.proofs.laws.spelled_is_found.Goals as goal

pub returns : goal.returns
returns c = consequences.spelled_is_found
