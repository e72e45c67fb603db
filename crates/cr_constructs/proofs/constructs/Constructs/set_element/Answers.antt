use Rattle.cr_making.proofs.Done.{wrap_made, join_made, using_made, begins_as}
use Rattle.cr_making.specs.Assigning.{set_element}
use Rattle.cr_making.specs.Terms.{called}
use Rattle.cr_constructs.proofs.constructs.Constructs.set_element.Goals as goal

pub returns : goal.returns
unfolding set_element called
returns g c = using_made _ c.in_ok-name.ensures (wrap_made (begins_as c.sent_form.ensures c.in_ok-open.ensures) (join_made c.in_ok-term.ensures (join_made c.in_ok-each.ensures c.in_ok-term-2.ensures)) c.in_ok-close.ensures)
