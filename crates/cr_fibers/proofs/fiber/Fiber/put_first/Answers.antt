use Rattle.std.proofs.Common.{◌<◌, sym, subst}
use Rattle.cr_stack.specs.Steps.{IsReduced}
use Rattle.cr_fibers.specs.Held.{Held}
use Rattle.cr_fibers.proofs.Reducing.{becomes, neat_inside}
use Rattle.cr_fibers.proofs.fiber.Fiber.put_first.Goals as goal

pub put_first-requires : goal.put_first-requires
put_first-requires c = record {
  reduced = subst (λ (f : Held). IsReduced f.layers.focus) (sym c.self.view_is) c.requires.reduced;
  room = subst (λ (f : Held). 0 < f.layers.room) (sym c.self.view_is) c.requires.opened.room;
}

pub settle-requires : goal.settle-requires
settle-requires c = c.put_first.ensures.neat c.args.rows.now c.requires.lacks c.requires.all (neat_inside c.args.rows.now _ c.args.self.now c.self.view_is c.requires.opened.neat)

pub returns-clause-step : goal.returns-clause-step
returns-clause-step c = becomes c.args.rows.now _ c.args.self.now _ c.put_first.new.self _ c.self.view_is c.requires.opened.neat c.put_first.ensures.step c.settle.ensures

pub returns-clause-neat : goal.returns-clause-neat
returns-clause-neat c = c.put_first.ensures.neat c.args.rows.now c.requires.lacks c.requires.all (neat_inside c.args.rows.now _ c.args.self.now c.self.view_is c.requires.opened.neat)
