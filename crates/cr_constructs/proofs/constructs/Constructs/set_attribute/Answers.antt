use Rattle.cr_making.proofs.Done.{wrap_made, join_made, using_made, begins_as}
use Rattle.cr_making.specs.Assigning.{set_attribute}
use Rattle.cr_making.specs.Terms.{called}
use Rattle.cr_constructs.proofs.constructs.Constructs.set_attribute.Goals as goal

pub returns : goal.returns
unfolding set_attribute called
returns g c = using_made _ c.in_ok-setter.ensures (wrap_made (begins_as c.sent_form.ensures c.in_ok-open.ensures) (join_made c.in_ok-term.ensures c.in_ok-term-2.ensures) c.in_ok-close.ensures)
