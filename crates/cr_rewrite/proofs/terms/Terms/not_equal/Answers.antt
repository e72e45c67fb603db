use Rattle.cr_making.proofs.Done.{wrap_made}
use Rattle.cr_making.specs.Terms.{not_equal}
use Rattle.cr_rewrite.proofs.terms.Terms.not_equal.Goals as goal

pub returns : goal.returns
unfolding not_equal
returns g c = wrap_made c.in_ok-open.ensures c.in_ok-operation.ensures c.in_ok-close.ensures
