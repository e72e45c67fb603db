use Rattle.std.proofs.Common.{sym, subst}
use Rattle.cr_stack.specs.Steps.{IsOpen, Ends}
use Rattle.cr_fibers.specs.Held.{Held}
use Rattle.cr_fibers.proofs.Reducing.{closed, neat_inside}
use Rattle.cr_fibers.proofs.fiber.Fiber.close.Goals as goal

pub redex-requires : goal.redex-requires
redex-requires c = subst (λ (f : Held). IsOpen f.layers) (sym c.self.view_is) c.requires.opened.stands

pub close-requires : goal.close-requires
close-requires c = subst (λ (f : Held). Ends f.layers) (sym c.self.view_is) c.requires.ends

pub settle-requires : goal.settle-requires
settle-requires c = c.close.ensures.neat c.args.rows.now (neat_inside c.args.rows.now _ c.args.self.now c.self.view_is c.requires.opened.neat)

pub returns-clause-step : goal.returns-clause-step
returns-clause-step c = λ P same.
    closed P c.args.rows.now _ c.args.self.now c.close.new.self _ c.redex.result c.leaves_locals-leaves.result _ same c.self.view_is c.requires.opened.neat
    (c.close.ensures.step P) (c.redex.ensures.shown P) c.leaves_locals-leaves.ensures c.leave.ensures (c.settle.ensures P same)

pub returns-clause-neat : goal.returns-clause-neat
returns-clause-neat c = c.close.ensures.neat c.args.rows.now (neat_inside c.args.rows.now _ c.args.self.now c.self.view_is c.requires.opened.neat)
