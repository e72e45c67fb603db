use Rattle.cr_making.proofs.Done.{wrap_made}
use Rattle.cr_making.specs.Terms.{around}
use Rattle.cr_rewrite.proofs.terms.Terms.around.Goals as goal

pub returns : goal.returns
unfolding around
returns g c = wrap_made c.in_ok-open.ensures c.in_ok-one.ensures c.in_ok-close.ensures
