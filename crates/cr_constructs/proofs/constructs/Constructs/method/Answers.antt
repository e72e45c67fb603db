use Rattle.cr_making.proofs.Done.{wrap_made, join_made, using_made, apart_made, begins_as}
use Rattle.cr_making.specs.Declaring.{method}
use Rattle.cr_constructs.proofs.constructs.Constructs.method.Goals as goal

pub returns : goal.returns
unfolding method
returns g c = using_made _ c.in_ok-name.ensures (apart_made c.in_ok-apart.apart _ c.in_ok-apart.ensures (wrap_made (begins_as c.def_form.ensures c.in_ok-open.ensures) (join_made c.in_ok-each.ensures (using_made _ c.with_parameters.ensures (join_made c.in_ok-maybe.ensures c.in_ok-body.ensures))) c.in_ok-close.ensures) c.rejoin.ensures)
