use Rattle.cr_fibers.proofs.Reducing.{neat_inside}
use Rattle.cr_fibers.proofs.fiber.Fiber.redex.Goals as goal

pub returns-clause-whole : goal.returns-clause-whole
returns-clause-whole c = λ rows h. c.redex.ensures.whole rows (neat_inside rows _ c.args.self.now c.self.view_is h)
