use Rattle.cr_making.proofs.Done.{wrap_made, begins_as}
use Rattle.cr_making.specs.Terms.{insertion}
use Rattle.cr_rewrite.proofs.terms.Terms.insertion.Goals as goal

pub returns : goal.returns
unfolding insertion
returns g c = wrap_made (begins_as c.sent_form.ensures c.in_ok-open.ensures) c.in_ok-one.ensures c.in_ok-close.ensures
