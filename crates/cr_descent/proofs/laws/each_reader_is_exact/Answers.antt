use Rattle.cr_descent.proofs.Knot as knot
use Rattle.cr_descent.proofs.laws.each_reader_is_exact.Goals as goal

pub returns : goal.returns
returns c = knot.exact_read
