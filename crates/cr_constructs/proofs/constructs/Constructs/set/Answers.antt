use Rattle.cr_making.proofs.Done.{wrap_made}
use Rattle.cr_making.specs.Assigning.{put}
use Rattle.cr_constructs.proofs.constructs.Constructs.set.Goals as goal

pub returns : goal.returns
unfolding put
returns g c = wrap_made c.in_ok-open.ensures c.in_ok-term.ensures c.in_ok-close.ensures
