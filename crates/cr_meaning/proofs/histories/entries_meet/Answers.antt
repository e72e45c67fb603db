use Rattle.cr_meaning.proofs.Passing.{entry_meets}
use Rattle.cr_meaning.proofs.histories.entries_meet.Goals as goal

pub returns : goal.returns
returns c = entry_meets
