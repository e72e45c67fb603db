use Rattle.cr_making.proofs.Done.{wrap_made}
use Rattle.cr_making.specs.Control.{jump}
use Rattle.cr_constructs.proofs.constructs.Constructs.jump.Goals as goal

pub returns : goal.returns
unfolding jump
returns g c = wrap_made c.in_ok-open.ensures c.in_ok-own_or_nil.ensures c.in_ok-close.ensures
