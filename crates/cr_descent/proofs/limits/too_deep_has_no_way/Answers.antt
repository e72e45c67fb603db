use Rattle.cr_descent.proofs.LimitKnot as knot
use Rattle.cr_descent.proofs.limits.too_deep_has_no_way.Goals as goal

pub returns : goal.returns
returns c = knot.too_deep_has_no_way
