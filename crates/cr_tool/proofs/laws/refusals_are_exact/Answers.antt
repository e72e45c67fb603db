use Rattle.cr_tool.proofs.Refusals.{refusals_are_exact}
use Rattle.cr_tool.proofs.laws.refusals_are_exact.Goals as goal

pub returns : goal.returns
returns c = refusals_are_exact c.each_source_is_answered.ensures c.fault_of_tokens_comes.ensures c.never_program_and_refusal.ensures c.never_tokens_and_fault.ensures
