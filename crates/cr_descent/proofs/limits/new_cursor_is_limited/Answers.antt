use Rattle.cr_descent.proofs.LimitKnot as knot
use Rattle.cr_descent.proofs.limits.new_cursor_is_limited.Goals as goal

pub returns : goal.returns
returns c = knot.new_cursor_is_limited
