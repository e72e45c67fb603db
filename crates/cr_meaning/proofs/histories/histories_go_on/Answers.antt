use Rattle.cr_meaning.proofs.Runs.{histories_go_on}
use Rattle.cr_meaning.proofs.histories.histories_go_on.Goals as goal

pub returns : goal.returns
returns c = histories_go_on
