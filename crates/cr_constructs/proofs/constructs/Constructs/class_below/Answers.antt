use Rattle.cr_making.proofs.Done.{using_made}
use Rattle.cr_making.specs.Declaring.{class_below}
use Rattle.cr_constructs.proofs.constructs.Constructs.class_below.Goals as goal

pub returns : goal.returns
unfolding class_below
returns g c = using_made _ c.in_ok-above.ensures c.in_ok-class_with.ensures
