use Rattle.cr_making.proofs.Done.{wrap_made, join_made, begins_as}
use Rattle.cr_making.specs.Terms.{spawn}
use Rattle.cr_rewrite.proofs.terms.Terms.spawn.Goals as goal

pub returns : goal.returns
unfolding spawn
returns g c = wrap_made (begins_as c.spawn_form.ensures c.in_ok-open.ensures) (join_made c.in_ok-maybe.ensures c.in_ok-plain_block.ensures) c.in_ok-close.ensures
