use Rattle.cr_tool.proofs.CommandLines.{one_saying}
use Rattle.cr_tool.proofs.laws.one_saying.Goals as goal

pub returns : goal.returns
returns c = one_saying
