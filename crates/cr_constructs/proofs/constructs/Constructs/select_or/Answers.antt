use Rattle.cr_making.proofs.Done.{wrap_made, join_made}
use Rattle.cr_making.specs.Control.{select_or}
use Rattle.cr_constructs.proofs.constructs.Constructs.select_or.Goals as goal

pub returns : goal.returns
unfolding select_or
returns g c = wrap_made c.in_ok-open.ensures (join_made c.in_ok-each.ensures c.in_ok-statements.ensures) c.in_ok-close.ensures
