use Rattle.cr_making.proofs.Done.{wrap_made}
use Rattle.cr_making.specs.Terms.{super}
use Rattle.cr_rewrite.proofs.terms.Terms.super_.Goals as goal

pub returns : goal.returns
unfolding super
returns g c = wrap_made c.in_ok-open.ensures c.in_ok-each.ensures c.in_ok-close.ensures
