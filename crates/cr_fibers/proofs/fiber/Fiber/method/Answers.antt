use Rattle.std.proofs.Common.{ap}
use Rattle.cr_meaning.specs.Calls.{method_in}
use Rattle.cr_fibers.proofs.fiber.Fiber.method.Goals as goal

pub returns-in-Some : goal.returns-in-Some
returns-in-Some c = λ P. ap method_in (c.in-Some.ensures P)

pub returns-in-None : goal.returns-in-None
returns-in-None c = λ P. ap method_in (c.in-None.ensures P)
