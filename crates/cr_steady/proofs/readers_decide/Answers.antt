use Rattle.cr_steady.proofs.Knot as knot
use Rattle.cr_steady.proofs.readers_decide.Goals as goal

pub returns : goal.returns
returns c = knot.readers_decide
