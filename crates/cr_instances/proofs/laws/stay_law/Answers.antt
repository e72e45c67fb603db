use Rattle.cr_instances.proofs.Fronts.{stays_at, front_further}
use Rattle.cr_instances.proofs.laws.stay_law.Goals as goal

pub returns-clause-key : goal.returns-clause-key
returns-clause-key c = stays_at

pub returns-clause-further : goal.returns-clause-further
returns-clause-further c = front_further
