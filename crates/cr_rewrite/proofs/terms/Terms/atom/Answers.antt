use Rattle.cr_making.proofs.Done.{wrap_made, using_made}
use Rattle.cr_making.specs.Terms.{atom}
use Rattle.cr_rewrite.proofs.terms.Terms.atom.Goals as goal

pub returns : goal.returns
unfolding atom
returns g c = using_made _ c.in_ok-name.ensures (wrap_made c.in_ok-open.ensures c.in_ok-each.ensures c.in_ok-close.ensures)
