use Rattle.cr_descent.proofs.Programs as programs
use Rattle.cr_descent.proofs.limits.depth_is_enough.Goals as goal

pub returns : goal.returns
returns c = programs.depth_is_enough
