use Rattle.cr_lowering.proofs.Once.{in_range}
use Rattle.cr_lowering.proofs.laws.locals_are_in_range.Goals as goal

pub returns : goal.returns
returns c = λ t core. in_range t core
