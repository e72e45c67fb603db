use Rattle.cr_making.proofs.Done.{wrap_made, join_made}
use Rattle.cr_making.specs.Assigning.{put_or}
use Rattle.cr_constructs.proofs.constructs.Constructs.set_or.Goals as goal

pub returns : goal.returns
unfolding put_or
returns g c = wrap_made c.in_ok-open.ensures (join_made c.in_ok-leaf.ensures c.in_ok-set.ensures) c.in_ok-close.ensures
