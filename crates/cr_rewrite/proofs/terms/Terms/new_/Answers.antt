use Rattle.cr_making.proofs.Done.{wrap_made, join_made, begins_as}
use Rattle.cr_making.specs.Terms.{new}
use Rattle.cr_rewrite.proofs.terms.Terms.new_.Goals as goal

pub returns : goal.returns
unfolding new
returns g c = wrap_made (begins_as c.new_form.ensures c.in_ok-open.ensures) (join_made c.in_ok-boxed.ensures (join_made c.in_ok-each.ensures c.in_ok-maybe.ensures)) c.in_ok-close.ensures
