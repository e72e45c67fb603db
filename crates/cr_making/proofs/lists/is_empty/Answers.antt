use Rattle.cr_making.proofs.Loops.{empty_is}
use Rattle.cr_making.proofs.lists.is_empty.Goals as goal

pub returns : goal.returns
returns c = empty_is _ _ c.is_empty.ensures
