use Rattle.cr_descent.proofs.LimitKnot as knot
use Rattle.cr_descent.proofs.limits.each_reader_counts.Goals as goal

pub returns : goal.returns
returns c = knot.counts_read
