use Rattle.cr_making.proofs.Done.{nothing_made}
use Rattle.cr_constructs.proofs.constructs.Constructs.parameter_fields.Goals as goal

pub returns-else-instance : goal.returns-else-instance
returns-else-instance g c = rw c.if-instance.false (nothing_made _)
