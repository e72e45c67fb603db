use Rattle.cr_making.proofs.Done.{using_made}
use Rattle.cr_making.specs.Declaring.{include}
use Rattle.cr_constructs.proofs.constructs.Constructs.include.Goals as goal

pub returns : goal.returns
unfolding include
returns g c = using_made _ c.in_ok-name.ensures c.in_ok-leaf.ensures
