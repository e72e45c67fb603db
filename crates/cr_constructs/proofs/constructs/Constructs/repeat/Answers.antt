use Rattle.cr_making.proofs.Done.{wrap_made, join_made}
use Rattle.cr_making.specs.Control.{loop}
use Rattle.cr_constructs.proofs.constructs.Constructs.repeat.Goals as goal

pub returns : goal.returns
unfolding loop
returns g c = wrap_made c.in_ok-open.ensures (wrap_made c.in_ok-open-2.ensures (join_made c.in_ok-test.ensures (join_made (wrap_made c.in_ok-open-3.ensures (join_made c.in_ok-statements.ensures c.in_ok-leaf.ensures) c.in_ok-close.ensures) c.in_ok-leaf-2.ensures)) c.in_ok-close-2.ensures) c.in_ok-close-3.ensures
