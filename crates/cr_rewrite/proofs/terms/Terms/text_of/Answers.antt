use Rattle.cr_making.proofs.Done.{using_made}
use Rattle.cr_making.specs.Terms.{text}
use Rattle.cr_rewrite.proofs.terms.Terms.text_of.Goals as goal

pub returns : goal.returns
unfolding text
returns g c = using_made _ c.in_ok-text.ensures c.in_ok-leaf.ensures
