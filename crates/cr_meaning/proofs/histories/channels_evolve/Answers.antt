use Rattle.cr_meaning.proofs.Runs.{channels_evolve}
use Rattle.cr_meaning.proofs.histories.channels_evolve.Goals as goal

pub returns : goal.returns
returns c = channels_evolve
