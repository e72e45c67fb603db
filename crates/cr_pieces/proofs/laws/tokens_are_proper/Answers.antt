use Rattle.cr_pieces.proofs.Properly as properly
use Rattle.cr_pieces.proofs.laws.tokens_are_proper.Goals as goal

pub returns : goal.returns
returns c = properly.tokens_are_proper
