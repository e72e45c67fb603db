use Rattle.cr_making.proofs.Done.{wrap_made, using_made, begins_as}
use Rattle.cr_making.specs.Terms.{negate, called}
use Rattle.cr_rewrite.proofs.terms.Terms.negate.Goals as goal

pub returns : goal.returns
unfolding negate called
returns g c = using_made _ c.in_ok-name.ensures (wrap_made (begins_as c.sent_form.ensures c.in_ok-open.ensures) c.in_ok-term.ensures c.in_ok-close.ensures)
