use Rattle.cr_steady.proofs.Knot as knot
use Rattle.cr_steady.proofs.program_is_decided.Goals as goal

pub returns : goal.returns
returns c = knot.program_is_decided c.program_is_answered.ensures
