use Rattle.cr_pieces.proofs.Standing as standing
use Rattle.cr_pieces.proofs.laws.pieces_are_read.Goals as goal

pub returns : goal.returns
returns c = standing.pieces_are_read
