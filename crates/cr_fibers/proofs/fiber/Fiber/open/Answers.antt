use Rattle.std.proofs.Common.{◌<◌}
use Rattle.std.proofs.lemmas.Result.{on_ok_weaker}
use Rattle.cr_stack.specs.Steps.{IsOpen}
use Rattle.cr_fibers.proofs.Reducing.{opened_same, opened_rest, neat_inside}
use Rattle.cr_fibers.proofs.fiber.Fiber.open.Goals as goal

pub open-requires : goal.open-requires
open-requires c = neat_inside c.args.tree.now.rows _ c.args.self.now c.self.view_is c.requires

pub returns-clause-same : goal.returns-clause-same
returns-clause-same c = λ P of. opened_same P _ c.args.self.now c.open.new.self c.self.view_is (c.open.ensures.same P of)

pub returns-clause-rest : goal.returns-clause-rest
returns-clause-rest c = opened_rest _ c.args.self.now c.open.new.self c.self.view_is

pub returns-clause-ok : goal.returns-clause-ok
returns-clause-ok c = on_ok_weaker c.open.result (λ (h : IsOpen c.open.new.self × (0 < c.open.new.self.room)). record { neat = c.open.ensures.neat; stands = h.0; room = h.1 }) c.open.ensures.ok
