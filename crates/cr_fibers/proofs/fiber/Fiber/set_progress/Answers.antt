use Rattle.std.proofs.Common.{ap}
use Rattle.cr_fibers.specs.Held.{Held, with_status, status_of}
use Rattle.cr_fibers.proofs.fiber.Fiber.set_progress.Goals as goal

pub returns : goal.returns
returns c = ap (λ (f : Held). with_status f (status_of c.args.progress)) c.self.view_is
