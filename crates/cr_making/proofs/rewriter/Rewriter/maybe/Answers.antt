use Rattle.cr_making.proofs.Done.{nothing_made}
use Rattle.cr_making.proofs.rewriter.Rewriter.maybe.Goals as goal

pub returns-in-None : goal.returns-in-None
returns-in-None g c = rw c.in-None.is (nothing_made _)
