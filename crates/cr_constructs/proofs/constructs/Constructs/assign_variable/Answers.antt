use Rattle.cr_making.proofs.Done.{using_made}
use Rattle.cr_making.specs.Assigning.{assign_variable}
use Rattle.cr_constructs.proofs.constructs.Constructs.assign_variable.Goals as goal

pub returns : goal.returns
unfolding assign_variable
returns g c = using_made _ c.in_ok-name.ensures c.in_ok-assigned.ensures
