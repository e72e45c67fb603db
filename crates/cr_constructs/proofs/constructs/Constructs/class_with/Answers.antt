use Rattle.cr_making.proofs.Done.{wrap_made, join_made}
use Rattle.cr_making.specs.Declaring.{class_with}
use Rattle.cr_constructs.proofs.constructs.Constructs.class_with.Goals as goal

pub returns : goal.returns
unfolding class_with
returns g c = wrap_made c.in_ok-open.ensures (join_made c.in_ok-type_parameters.ensures c.in_ok-each.ensures) c.in_ok-close.ensures
