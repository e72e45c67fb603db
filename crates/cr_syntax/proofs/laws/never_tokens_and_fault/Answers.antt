use Rattle.cr_syntax.proofs.Unique.{never_both_at_all}
use Rattle.cr_syntax.proofs.laws.never_tokens_and_fault.Goals as goal

pub returns : goal.returns
returns c = never_both_at_all
