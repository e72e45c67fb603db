use Rattle.cr_source.proofs.Refusals.{fault_comes}
use Rattle.cr_source.proofs.laws.fault_of_tokens_comes.Goals as goal

pub returns : goal.returns
returns c = fault_comes c.at_most_one_fault.ensures c.never_tokens_and_fault.ensures
