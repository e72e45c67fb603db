use Rattle.cr_making.proofs.Done.{wrap_made, join_made, using_made}
use Rattle.cr_making.specs.Control.{case_fresh}
use Rattle.cr_constructs.proofs.constructs.Constructs.case_fresh.Goals as goal

pub returns : goal.returns
unfolding case_fresh
returns g c = using_made _ c.in_ok-local.ensures (wrap_made c.in_ok-open.ensures (join_made (wrap_made c.in_ok-open-2.ensures c.in_ok-term.ensures c.in_ok-close.ensures) c.in_ok-arms.ensures) c.in_ok-close-2.ensures)
