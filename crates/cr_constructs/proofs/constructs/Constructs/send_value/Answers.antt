use Rattle.cr_making.proofs.Done.{wrap_made, join_made}
use Rattle.cr_making.specs.Control.{send_value}
use Rattle.cr_constructs.proofs.constructs.Constructs.send_value.Goals as goal

pub returns : goal.returns
unfolding send_value
returns g c = wrap_made c.in_ok-open.ensures (join_made c.in_ok-term.ensures (join_made c.in_ok-one.ensures c.in_ok-statements.ensures)) c.in_ok-close.ensures
