use Rattle.cr_making.proofs.Done.{wrap_made, join_made, using_made}
use Rattle.cr_making.specs.Control.{receive_name}
use Rattle.cr_constructs.proofs.constructs.Constructs.receive_name.Goals as goal

pub returns : goal.returns
unfolding receive_name
returns g c = using_made _ c.in_ok-name.ensures (using_made _ c.in_ok-local.ensures (wrap_made c.in_ok-open.ensures (join_made c.in_ok-term.ensures (wrap_made c.in_ok-open-2.ensures (join_made (wrap_made c.in_ok-open-3.ensures c.in_ok-leaf.ensures c.in_ok-close.ensures) c.in_ok-statements.ensures) c.in_ok-close-2.ensures)) c.in_ok-close-3.ensures))
