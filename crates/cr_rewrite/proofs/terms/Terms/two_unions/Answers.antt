use Rattle.cr_making.proofs.Done.{join_made}
use Rattle.cr_making.specs.Terms.{two_unions}
use Rattle.cr_rewrite.proofs.terms.Terms.two_unions.Goals as goal

pub returns : goal.returns
unfolding two_unions
returns g c = join_made c.in_ok-boxed.ensures c.in_ok-boxed-2.ensures
