use Rattle.cr_making.proofs.Done.{wrap_made, join_made}
use Rattle.cr_making.specs.Control.{arm}
use Rattle.cr_constructs.proofs.constructs.Constructs.arm.Goals as goal

pub returns : goal.returns
unfolding arm
returns g c = join_made (wrap_made c.in_ok-open.ensures (join_made c.in_ok-leaf.ensures c.in_ok-each.ensures) c.in_ok-close.ensures) c.in_ok-statements.ensures
