use Rattle.cr_making.proofs.Done.{wrap_made, join_made, using_made, begins_as}
use Rattle.cr_making.specs.Terms.{operation, called}
use Rattle.cr_rewrite.proofs.terms.Terms.operation.Goals as goal

pub returns : goal.returns
unfolding operation called
returns g c = using_made _ c.in_ok-name.ensures (wrap_made (begins_as c.sent_form.ensures c.in_ok-open.ensures) (join_made c.in_ok-term.ensures c.in_ok-term-2.ensures) c.in_ok-close.ensures)
