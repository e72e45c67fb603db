use Rattle.cr_source.proofs.Refusals.{accepted_by, lexical_by}
use Rattle.cr_source.proofs.program.program_of.Goals as goal

pub returns-clause-accepted : goal.returns-clause-accepted
returns-clause-accepted c = λ x is. accepted_by c.at_most_one_source.ensures c.never_program_and_refusal.ensures c.args.bytes.now c.answered.result c.answered.ensures x is

pub returns-clause-lexical : goal.returns-clause-lexical
returns-clause-lexical c = λ f fault. lexical_by c.fault_of_tokens_comes.ensures c.never_tokens_and_fault.ensures c.args.bytes.now c.answered.result c.answered.ensures f fault
