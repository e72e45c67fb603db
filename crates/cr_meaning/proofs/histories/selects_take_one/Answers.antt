use Rattle.cr_meaning.proofs.Choices.{selects_take_one}
use Rattle.cr_meaning.proofs.histories.selects_take_one.Goals as goal

pub returns : goal.returns
returns c = selects_take_one
