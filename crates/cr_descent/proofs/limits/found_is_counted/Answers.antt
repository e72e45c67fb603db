use Rattle.cr_descent.proofs.LimitKnot as knot
use Rattle.cr_descent.proofs.limits.found_is_counted.Goals as goal

pub returns : goal.returns
returns c = knot.found_is_counted
