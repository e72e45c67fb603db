use Rattle.cr_making.proofs.Done.{wrap_made}
use Rattle.cr_making.specs.Control.{select_alone}
use Rattle.cr_constructs.proofs.constructs.Constructs.select_alone.Goals as goal

pub returns : goal.returns
unfolding select_alone
returns g c = wrap_made c.in_ok-open.ensures c.in_ok-each.ensures c.in_ok-close.ensures
