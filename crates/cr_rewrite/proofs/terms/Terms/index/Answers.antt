use Rattle.cr_making.proofs.Done.{wrap_made, join_made, using_made, begins_as}
use Rattle.cr_making.proofs.Names.{named_as}
use Rattle.cr_making.specs.Terms.{index, called}
use Rattle.cr_rewrite.proofs.terms.Terms.index.Goals as goal

pub returns : goal.returns
unfolding index called
returns g c = using_made _ (named_as c.index_text.ensures c.in_ok-name.ensures) (wrap_made (begins_as c.sent_form.ensures c.in_ok-open.ensures) (join_made c.in_ok-term.ensures c.in_ok-each.ensures) c.in_ok-close.ensures)
