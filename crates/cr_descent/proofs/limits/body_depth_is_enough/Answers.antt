use Rattle.cr_descent.proofs.WholeBodies as bodies
use Rattle.cr_descent.proofs.limits.body_depth_is_enough.Goals as goal

pub returns : goal.returns
returns c = bodies.body_depth_is_enough
