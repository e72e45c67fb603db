use Rattle.std.proofs.Common.{sym, subst}
use Rattle.cr_stack.specs.Steps.{IsReduced}
use Rattle.cr_fibers.specs.Held.{Held}
use Rattle.cr_fibers.proofs.Reducing.{jumped, neat_inside}
use Rattle.cr_fibers.proofs.fiber.Fiber.jump.Goals as goal

pub jump-told-requires : goal.jump-told-requires
jump-told-requires c = subst (λ (f : Held). IsReduced f.layers.focus) (sym c.self.view_is) c.requires.reduced

pub settle_jump-requires : goal.settle_jump-requires
settle_jump-requires c = c.jump-told.ensures.neat c.args.rows.now (neat_inside c.args.rows.now _ c.args.self.now c.self.view_is c.requires.opened.neat)

pub returns-clause-step : goal.returns-clause-step
returns-clause-step c = λ P same.
    jumped P c.args.rows.now c.args.exit _ c.args.self.now c.jump-told.result c.jump-told.new.self _ c.has_left.result _ same c.self.view_is c.requires.opened.neat
    (c.jump-told.ensures.step P) c.has_left.ensures c.leave.ensures (c.settle_jump.ensures P same)

pub returns-clause-neat : goal.returns-clause-neat
returns-clause-neat c = c.jump-told.ensures.neat c.args.rows.now (neat_inside c.args.rows.now _ c.args.self.now c.self.view_is c.requires.opened.neat)
