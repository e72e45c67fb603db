use Rattle.cr_making.proofs.Done.{wrap_made, join_made, begins_as}
use Rattle.cr_making.specs.Terms.{array}
use Rattle.cr_rewrite.proofs.terms.Terms.array.Goals as goal

pub returns : goal.returns
unfolding array
returns g c = wrap_made (begins_as c.array_form.ensures c.in_ok-open.ensures) (join_made c.in_ok-each.ensures c.in_ok-maybe.ensures) c.in_ok-close.ensures
