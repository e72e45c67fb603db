use Rattle.cr_atoms.proofs.Fronts.{one_number, one_atom}
use Rattle.cr_atoms.proofs.laws.number_law.Goals as goal

pub returns : goal.returns
returns c = λ old new m n a b front apart p q. (one_atom old new m n a b front p q, one_number old new m n a b front apart p q)
