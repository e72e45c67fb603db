use Rattle.cr_instances.proofs.Fronts.{one_number, one_key}
use Rattle.cr_instances.proofs.laws.number_law.Goals as goal

pub returns : goal.returns
returns c = λ old new m n a b front apart p q. (one_key old new m n a b front p q, one_number old new m n a b front apart p q)
