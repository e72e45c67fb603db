use Rattle.cr_descent.proofs.Answered.{readers_answer}
use Rattle.cr_descent.proofs.limits.readers_answer.Goals as goal

pub returns : goal.returns
returns c = readers_answer
