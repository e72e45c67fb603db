use Rattle.cr_making.proofs.Done.{wrap_made, join_made, using_made, begins_as}
use Rattle.cr_making.specs.Assigning.{change_attribute}
use Rattle.cr_making.specs.Terms.{called}
use Rattle.cr_constructs.proofs.constructs.Constructs.change_attribute.Goals as goal

pub returns : goal.returns
unfolding change_attribute called
returns g c = using_made _ c.in_ok-local.ensures (wrap_made c.in_ok-open.ensures (join_made (wrap_made c.in_ok-open-2.ensures c.in_ok-term.ensures c.in_ok-close.ensures) (using_made _ c.in_ok-setter.ensures (wrap_made (begins_as c.sent_form.ensures c.in_ok-open-3.ensures) (join_made c.in_ok-leaf.ensures (using_made _ c.in_ok-called.ensures (wrap_made (begins_as c.sent_form-2.ensures c.in_ok-open-4.ensures) (join_made (using_made _ c.in_ok-getter.ensures (wrap_made (begins_as c.sent_form-3.ensures c.in_ok-open-5.ensures) c.in_ok-leaf-2.ensures c.in_ok-close-2.ensures)) c.in_ok-term-2.ensures) c.in_ok-close-3.ensures))) c.in_ok-close-4.ensures))) c.in_ok-close-5.ensures)
