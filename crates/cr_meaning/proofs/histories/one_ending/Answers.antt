use Rattle.cr_meaning.proofs.Runs.{one_ending}
use Rattle.cr_meaning.proofs.histories.one_ending.Goals as goal

pub returns : goal.returns
returns c = one_ending
