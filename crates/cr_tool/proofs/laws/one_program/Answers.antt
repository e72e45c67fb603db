use Rattle.cr_tool.proofs.OneProgram.{one_program}
use Rattle.cr_tool.proofs.laws.one_program.Goals as goal

pub returns : goal.returns
returns c = one_program
