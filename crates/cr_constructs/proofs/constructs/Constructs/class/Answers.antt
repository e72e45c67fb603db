use Rattle.cr_making.proofs.Done.{using_made}
use Rattle.cr_making.specs.Declaring.{class}
use Rattle.cr_constructs.proofs.constructs.Constructs.class.Goals as goal

pub returns : goal.returns
unfolding class
returns g c = using_made _ c.in_ok-id.ensures c.in_ok-class_by.ensures
