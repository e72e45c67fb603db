use Rattle.cr_making.proofs.Done.{using_made}
use Rattle.cr_making.specs.Control.{case_name}
use Rattle.cr_constructs.proofs.constructs.Constructs.case_name.Goals as goal

pub returns : goal.returns
unfolding case_name
returns g c = using_made _ c.in_ok-id.ensures (using_made _ c.in_ok-local.ensures c.in_ok-case_by.ensures)
