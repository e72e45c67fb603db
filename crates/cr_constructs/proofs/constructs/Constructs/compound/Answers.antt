use Rattle.cr_making.proofs.Done.{wrap_made, join_made, using_made, begins_as}
use Rattle.cr_making.specs.Assigning.{compound}
use Rattle.cr_making.specs.Terms.{called}
use Rattle.cr_constructs.proofs.constructs.Constructs.compound.Goals as goal

pub returns : goal.returns
unfolding compound called
returns g c = wrap_made c.in_ok-open.ensures (using_made _ c.in_ok-name.ensures (wrap_made (begins_as c.sent_form.ensures c.in_ok-open-2.ensures) (join_made c.in_ok-leaf.ensures c.in_ok-term.ensures) c.in_ok-close.ensures)) c.in_ok-close-2.ensures
