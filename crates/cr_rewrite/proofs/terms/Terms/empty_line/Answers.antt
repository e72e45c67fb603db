use Rattle.cr_making.proofs.Done.{wrap_made}
use Rattle.cr_making.specs.Terms.{empty_line}
use Rattle.cr_rewrite.proofs.terms.Terms.empty_line.Goals as goal

pub returns : goal.returns
unfolding empty_line
returns g c = wrap_made c.in_ok-open.ensures c.in_ok-text_of.ensures c.in_ok-close.ensures
