use Rattle.cr_lowering.proofs.Lowered.{named_told}
use Rattle.cr_lowering.proofs.laws.named_locals_are_told.Goals as goal

pub returns : goal.returns
returns c = λ prelude tree t h. named_told prelude tree t h
