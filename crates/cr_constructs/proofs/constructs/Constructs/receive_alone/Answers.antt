use Rattle.cr_making.proofs.Done.{wrap_made, join_made}
use Rattle.cr_making.specs.Control.{receive_alone}
use Rattle.cr_constructs.proofs.constructs.Constructs.receive_alone.Goals as goal

pub returns : goal.returns
unfolding receive_alone
returns g c = wrap_made c.in_ok-open.ensures (join_made c.in_ok-term.ensures c.in_ok-statements.ensures) c.in_ok-close.ensures
