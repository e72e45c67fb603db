use Rattle.cr_descent.proofs.Accepted as accepted
use Rattle.cr_descent.proofs.limits.one_token_is_unexpected.Goals as goal

pub returns : goal.returns
returns c = accepted.one_unexpected
