use Rattle.cr_descent.proofs.Answered.{readers_answer}
use Rattle.cr_descent.proofs.Programs as programs
use Rattle.cr_descent.proofs.limits.program_is_answered.Goals as goal

pub returns : goal.returns
returns c = programs.program_is_answered readers_answer
