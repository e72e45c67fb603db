use Rattle.cr_lowering.proofs.Borne.{declared_there}
use Rattle.cr_lowering.proofs.laws.found_locals_are_declared.Goals as goal

pub returns : goal.returns
returns c = λ name s l is. declared_there name s l is
