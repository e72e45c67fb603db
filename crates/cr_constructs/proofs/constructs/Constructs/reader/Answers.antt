use Rattle.cr_making.proofs.Done.{wrap_made, using_made, apart_made, begins_as}
use Rattle.cr_making.specs.Declaring.{reader}
use Rattle.cr_constructs.proofs.constructs.Constructs.reader.Goals as goal

pub returns : goal.returns
unfolding reader
returns g c = using_made _ c.in_ok-id.ensures (apart_made c.in_ok-apart.apart _ c.in_ok-apart.ensures (wrap_made (begins_as c.made_form.ensures c.in_ok-open.ensures) (using_made _ c.in_ok-field.ensures c.in_ok-leaf.ensures) c.in_ok-close.ensures) c.rejoin.ensures)
