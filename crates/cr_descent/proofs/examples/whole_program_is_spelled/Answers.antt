use Rattle.cr_descent.proofs.Computed as computed
use Rattle.cr_descent.proofs.examples.whole_program_is_spelled.Goals as goal

pub returns : goal.returns
returns c = computed.workers_are_spelled
