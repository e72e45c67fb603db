use Rattle.cr_making.proofs.Done.{wrap_made, join_made, using_made, apart_made, begins_as}
use Rattle.cr_making.specs.Declaring.{writer}
use Rattle.cr_constructs.proofs.constructs.Constructs.writer.Goals as goal

pub returns : goal.returns
unfolding writer
returns g c = using_made _ c.in_ok-id.ensures (apart_made c.in_ok-apart.apart _ c.in_ok-apart.ensures (wrap_made (begins_as c.made_form.ensures c.in_ok-open.ensures) (join_made c.in_ok-parameter.ensures (using_made _ c.with_parameters.ensures c.in_ok-kept.ensures)) c.in_ok-close.ensures) c.rejoin.ensures)
