use Rattle.cr_making.proofs.Done.{using_made}
use Rattle.cr_making.specs.Terms.{nil_atom}
use Rattle.cr_rewrite.proofs.terms.Terms.nil_atom.Goals as goal

pub returns : goal.returns
unfolding nil_atom
returns g c = using_made _ c.in_ok-name.ensures c.in_ok-leaf.ensures
