use Rattle.cr_making.proofs.Done.{wrap_made, join_made, scoped_made}
use Rattle.cr_making.specs.Terms.{block}
use Rattle.cr_rewrite.proofs.terms.Terms.block.Goals as goal

pub returns : goal.returns
unfolding block
returns g c = scoped_made _ c.in_ok-scope.ensures (wrap_made c.in_ok-open.ensures (join_made c.in_ok-each.ensures c.in_ok-statements.ensures) c.in_ok-close.ensures) c.leave.ensures
