use Rattle.cr_tool.proofs.Deciding.{taken_or_not}
use Rattle.cr_tool.proofs.Lines.{not_both}
use Rattle.cr_tool.proofs.laws.program_or_refusal.Goals as goal

pub returns-clause-either : goal.returns-clause-either
returns-clause-either c = taken_or_not

pub returns-clause-never_both : goal.returns-clause-never_both
returns-clause-never_both c = not_both
