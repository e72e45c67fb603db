use Rattle.cr_descent.proofs.LimitKnot as knot
use Rattle.cr_descent.proofs.limits.within_is_found.Goals as goal

pub returns : goal.returns
returns c = knot.within_is_found
