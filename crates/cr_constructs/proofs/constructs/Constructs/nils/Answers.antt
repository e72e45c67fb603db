use Rattle.cr_making.proofs.Done.{join_made}
use Rattle.cr_constructs.proofs.constructs.Constructs.nils.Goals as goal

pub returns : goal.returns
returns g c = join_made c.in_ok-leaf.ensures c.in_ok-leaf-2.ensures
