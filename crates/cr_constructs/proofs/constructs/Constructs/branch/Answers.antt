use Rattle.cr_making.proofs.Done.{join_made}
use Rattle.cr_making.specs.Control.{branch}
use Rattle.cr_constructs.proofs.constructs.Constructs.branch.Goals as goal

pub returns : goal.returns
unfolding branch
returns g c = join_made c.in_ok-term.ensures c.in_ok-statements.ensures
