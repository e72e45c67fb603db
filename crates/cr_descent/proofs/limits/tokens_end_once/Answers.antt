use Rattle.cr_descent.proofs.Ends.{tokens_end_once}
use Rattle.cr_descent.proofs.limits.tokens_end_once.Goals as goal

pub returns : goal.returns
returns c = tokens_end_once
