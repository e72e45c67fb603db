use Rattle.cr_source.proofs.Answered.{each_answered}
use Rattle.cr_source.proofs.laws.each_source_is_answered.Goals as goal

pub returns : goal.returns
returns c = each_answered c.tokens_or_fault.ensures c.tokens_end_once.ensures c.program_is_decided.ensures
