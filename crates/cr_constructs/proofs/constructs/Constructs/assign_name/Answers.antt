use Rattle.cr_making.proofs.Done.{using_made}
use Rattle.cr_making.specs.Assigning.{assign_name}
use Rattle.cr_constructs.proofs.constructs.Constructs.assign_name.Goals as goal

pub returns : goal.returns
unfolding assign_name
returns g c = using_made _ c.in_ok-name.ensures (using_made _ c.in_ok-local.ensures c.in_ok-assigned.ensures)
