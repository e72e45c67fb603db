use Rattle.cr_syntax.proofs.Total.{always_one}
use Rattle.cr_syntax.proofs.laws.tokens_or_fault.Goals as goal

pub returns : goal.returns
returns c = always_one
