use Rattle.cr_making.proofs.Done.{wrap_made, join_made}
use Rattle.cr_making.specs.Terms.{both}
use Rattle.cr_rewrite.proofs.terms.Terms.both.Goals as goal

pub returns : goal.returns
unfolding both
returns g c = wrap_made c.in_ok-open.ensures (join_made c.in_ok-term.ensures c.in_ok-term-2.ensures) c.in_ok-close.ensures
