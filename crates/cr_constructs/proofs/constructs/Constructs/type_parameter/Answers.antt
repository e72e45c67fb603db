use Rattle.cr_making.proofs.Done.{using_made}
use Rattle.cr_making.specs.Declaring.{type_parameter}
use Rattle.cr_constructs.proofs.constructs.Constructs.type_parameter.Goals as goal

pub returns : goal.returns
unfolding type_parameter
returns g c = using_made _ c.in_ok-name.ensures c.in_ok-leaf.ensures
