use Rattle.cr_meaning.proofs.Runs.{nothing_after}
use Rattle.cr_meaning.proofs.histories.nothing_after_the_end.Goals as goal

pub returns : goal.returns
returns c = nothing_after
