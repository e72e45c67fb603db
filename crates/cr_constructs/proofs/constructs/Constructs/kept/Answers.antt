use Rattle.cr_making.proofs.Done.{wrap_made, using_made, leaf_as}
use Rattle.cr_making.specs.Declaring.{kept}
use Rattle.cr_constructs.proofs.constructs.Constructs.kept.Goals as goal

pub returns : goal.returns
unfolding kept
returns g c = using_made _ c.in_ok-id.ensures (using_made _ c.in_ok-local.ensures (using_made _ c.in_ok-field.ensures (wrap_made c.in_ok-open.ensures (leaf_as _ c.local_form.ensures c.in_ok-leaf.ensures) c.in_ok-close.ensures)))
