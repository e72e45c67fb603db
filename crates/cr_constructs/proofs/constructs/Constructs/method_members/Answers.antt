use Rattle.cr_making.proofs.Done.{join_made}
use Rattle.cr_making.specs.Declaring.{method_members}
use Rattle.cr_constructs.proofs.constructs.Constructs.method_members.Goals as goal

pub returns : goal.returns
unfolding method_members
returns g c = join_made c.in_ok-each.ensures c.in_ok-method.ensures
