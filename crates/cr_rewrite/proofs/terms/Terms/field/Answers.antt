use Rattle.cr_making.proofs.Done.{using_made}
use Rattle.cr_making.specs.Terms.{field}
use Rattle.cr_rewrite.proofs.terms.Terms.field.Goals as goal

pub returns : goal.returns
unfolding field
returns g c = using_made _ c.in_ok-name.ensures c.in_ok-leaf.ensures
