use Rattle.cr_making.proofs.Done.{join_made}
use Rattle.cr_making.specs.Declaring.{getter}
use Rattle.cr_constructs.proofs.constructs.Constructs.getter.Goals as goal

pub returns : goal.returns
unfolding getter
returns g c = join_made c.in_ok-maybe_declaration.ensures c.in_ok-reader.ensures
