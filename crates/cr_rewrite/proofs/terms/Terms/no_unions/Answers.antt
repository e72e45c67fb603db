use Rattle.cr_making.proofs.Done.{join_made}
use Rattle.cr_making.specs.Terms.{no_unions}
use Rattle.cr_rewrite.proofs.terms.Terms.no_unions.Goals as goal

pub returns : goal.returns
unfolding no_unions
returns g c = join_made c.in_ok-leaf.ensures c.in_ok-leaf-2.ensures
