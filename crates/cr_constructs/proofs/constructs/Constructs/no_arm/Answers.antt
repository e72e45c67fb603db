use Rattle.cr_making.proofs.Done.{wrap_made, using_made, begins_as}
use Rattle.cr_making.specs.Terms.{called}
use Rattle.cr_constructs.proofs.constructs.Constructs.no_arm.Goals as goal

pub returns : goal.returns
unfolding called
returns g c = using_made _ c.in_ok-name.ensures (wrap_made (begins_as c.sent_form.ensures c.in_ok-open.ensures) c.in_ok-leaf.ensures c.in_ok-close.ensures)
