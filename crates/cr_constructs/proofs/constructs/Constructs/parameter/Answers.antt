use Rattle.cr_making.proofs.Done.{wrap_made, using_made, begins_as}
use Rattle.cr_making.specs.Declaring.{parameter}
use Rattle.cr_constructs.proofs.constructs.Constructs.parameter.Goals as goal

pub returns : goal.returns
unfolding parameter
returns g c = using_made _ c.in_ok-name.ensures (using_made _ c.in_ok-local.ensures (wrap_made (begins_as c.parameter_form.ensures c.in_ok-open.ensures) c.in_ok-maybe.ensures c.in_ok-close.ensures))
