use Rattle.std.proofs.Common.{◌∙◌, ap}
use Rattle.cr_meaning.specs.Calls.{receiver_in}
use Rattle.cr_fibers.proofs.fiber.Fiber.receiver.Goals as goal

pub returns-in-Some : goal.returns-in-Some
returns-in-Some c = λ P. c.as_ref.ensures.value ∙ ap receiver_in (c.in-Some.ensures P)

pub returns-in-None : goal.returns-in-None
returns-in-None c = λ P. ap receiver_in (c.in-None.ensures P)
