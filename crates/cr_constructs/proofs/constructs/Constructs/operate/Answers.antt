use Rattle.cr_making.proofs.Done.{nothing_made}
use Rattle.cr_constructs.proofs.constructs.Constructs.operate.Goals as goal

pub returns-in-NoOperation : goal.returns-in-NoOperation
returns-in-NoOperation g c = rw c.in-NoOperation.is (nothing_made _)
