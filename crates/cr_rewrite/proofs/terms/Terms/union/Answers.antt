use Rattle.cr_making.proofs.Done.{wrap_made}
use Rattle.cr_rewrite.proofs.terms.Terms.union.Goals as goal

pub returns : goal.returns
returns g c = wrap_made c.in_ok-open.ensures c.in_ok-atoms.ensures c.in_ok-close.ensures
