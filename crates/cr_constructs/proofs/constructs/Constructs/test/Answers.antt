use Rattle.cr_making.proofs.Done.{wrap_made}
use Rattle.cr_constructs.proofs.constructs.Constructs.test.Goals as goal

pub returns-then-until : goal.returns-then-until
returns-then-until g c = rw c.if-until.true (wrap_made c.in_ok-open.ensures c.in_ok-term.ensures c.in_ok-close.ensures)
