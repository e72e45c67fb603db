use Rattle.cr_descent.proofs.Answered.{readers_answer}
use Rattle.cr_descent.proofs.WholeBodies as bodies
use Rattle.cr_descent.proofs.limits.body_is_answered.Goals as goal

pub returns : goal.returns
returns c = bodies.body_is_answered readers_answer
