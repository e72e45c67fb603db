use Rattle.cr_source.proofs.Refusals.{never_both}
use Rattle.cr_source.proofs.laws.never_program_and_refusal.Goals as goal

pub returns : goal.returns
returns c = never_both c.at_most_one_list.ensures c.never_tokens_and_fault.ensures c.program_is_accepted.ensures
