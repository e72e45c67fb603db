use Rattle.cr_items.proofs.Lawful.{closed_stays}
use Rattle.cr_items.proofs.laws.close_law.Goals as goal

pub returns : goal.returns
returns c = closed_stays
