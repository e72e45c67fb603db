use Rattle.cr_atoms.proofs.Members.{one_set}
use Rattle.cr_atoms.proofs.laws.set_law.Goals as goal

pub returns : goal.returns
returns c = one_set
