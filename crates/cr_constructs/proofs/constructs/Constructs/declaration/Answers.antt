use Rattle.cr_making.proofs.Done.{wrap_made, using_made}
use Rattle.cr_making.specs.Declaring.{declaration}
use Rattle.cr_constructs.proofs.constructs.Constructs.declaration.Goals as goal

pub returns : goal.returns
unfolding declaration
returns g c = using_made _ c.in_ok-name.ensures (wrap_made c.in_ok-open.ensures c.in_ok-boxed.ensures c.in_ok-close.ensures)
