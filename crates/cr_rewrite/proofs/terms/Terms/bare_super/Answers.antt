use Rattle.cr_making.proofs.Done.{wrap_made, using_made}
use Rattle.cr_making.specs.Terms.{bare_super}
use Rattle.cr_rewrite.proofs.terms.Terms.bare_super.Goals as goal

pub returns : goal.returns
unfolding bare_super
returns g c = using_made _ c.in_ok-passed.ensures (wrap_made c.in_ok-open.ensures c.in_ok-locals.ensures c.in_ok-close.ensures)
