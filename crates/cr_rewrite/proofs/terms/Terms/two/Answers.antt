use Rattle.cr_making.proofs.Done.{join_made}
use Rattle.cr_making.specs.Terms.{two}
use Rattle.cr_rewrite.proofs.terms.Terms.two.Goals as goal

pub returns : goal.returns
unfolding two
returns g c = join_made c.in_ok-term.ensures c.in_ok-term-2.ensures
