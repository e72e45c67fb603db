use Rattle.cr_making.proofs.Done.{wrap_made, join_made, using_made, begins_as}
use Rattle.cr_making.specs.Terms.{full_call, called}
use Rattle.cr_rewrite.proofs.terms.Terms.with_block.Goals as goal

pub returns : goal.returns
unfolding full_call called
returns g c = using_made _ c.in_ok-name.ensures (wrap_made (begins_as c.call_form.ensures c.in_ok-open.ensures) (join_made c.in_ok-maybe.ensures (join_made c.in_ok-each.ensures c.in_ok-maybe-2.ensures)) c.in_ok-close.ensures)
