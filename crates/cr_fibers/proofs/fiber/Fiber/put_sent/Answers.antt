use Rattle.std.proofs.Common.{sym, subst}
use Rattle.cr_stack.specs.Steps.{IsReduced}
use Rattle.cr_fibers.specs.Held.{Held}
use Rattle.cr_fibers.proofs.Reducing.{becomes, neat_inside}
use Rattle.cr_fibers.proofs.fiber.Fiber.put_sent.Goals as goal

pub put_sent-requires : goal.put_sent-requires
put_sent-requires c = subst (λ (f : Held). IsReduced f.layers.focus) (sym c.self.view_is) c.requires.reduced

pub settle-requires : goal.settle-requires
settle-requires c = c.put_sent.ensures.neat c.args.rows.now (neat_inside c.args.rows.now _ c.args.self.now c.self.view_is c.requires.opened.neat)

pub returns-clause-step : goal.returns-clause-step
returns-clause-step c = becomes c.args.rows.now _ c.args.self.now _ c.put_sent.new.self _ c.self.view_is c.requires.opened.neat c.put_sent.ensures.step c.settle.ensures

pub returns-clause-neat : goal.returns-clause-neat
returns-clause-neat c = c.put_sent.ensures.neat c.args.rows.now (neat_inside c.args.rows.now _ c.args.self.now c.self.view_is c.requires.opened.neat)
