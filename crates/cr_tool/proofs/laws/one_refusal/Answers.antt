use Rattle.cr_tool.proofs.Exactness.{one_place}
use Rattle.cr_tool.proofs.laws.one_refusal.Goals as goal

pub returns : goal.returns
returns c = one_place
