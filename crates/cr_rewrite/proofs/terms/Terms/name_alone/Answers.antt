use Rattle.cr_making.proofs.Done.{using_made}
use Rattle.cr_making.specs.Terms.{name_alone}
use Rattle.cr_rewrite.proofs.terms.Terms.name_alone.Goals as goal

pub returns : goal.returns
unfolding name_alone
returns g c = using_made _ c.in_ok-id.ensures (using_made _ c.in_ok-local.ensures c.in_ok-local_or_alone.ensures)
