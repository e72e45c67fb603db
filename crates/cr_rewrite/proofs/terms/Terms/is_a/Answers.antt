use Rattle.cr_making.proofs.Done.{wrap_made, join_made}
use Rattle.cr_making.specs.Terms.{is_a}
use Rattle.cr_rewrite.proofs.terms.Terms.is_a.Goals as goal

pub returns : goal.returns
unfolding is_a
returns g c = wrap_made c.in_ok-open.ensures (join_made c.in_ok-term.ensures c.in_ok-boxed.ensures) c.in_ok-close.ensures
