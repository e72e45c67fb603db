use Rattle.cr_making.proofs.Done.{wrap_made, join_made}
use Rattle.cr_making.specs.Control.{conditional}
use Rattle.cr_constructs.proofs.constructs.Constructs.conditional.Goals as goal

pub returns : goal.returns
unfolding conditional
returns g c = wrap_made c.in_ok-open.ensures (join_made c.in_ok-term.ensures c.in_ok-sides.ensures) c.in_ok-close.ensures
