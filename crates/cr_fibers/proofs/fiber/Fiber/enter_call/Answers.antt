use Rattle.std.proofs.Common.{◌<◌, sym, subst}
use Rattle.cr_stack.specs.Steps.{IsReduced}
use Rattle.cr_fibers.specs.Held.{Held}
use Rattle.cr_fibers.proofs.Entered.{in_call_is, pushed}
use Rattle.cr_fibers.proofs.Reducing.{neat_inside}
use Rattle.cr_fibers.proofs.fiber.Fiber.enter_call.Goals as goal

pub put_call-requires : goal.put_call-requires
put_call-requires c = record {
  reduced = subst (λ (f : Held). IsReduced f.layers.focus) (sym c.self.view_is) c.requires.reduced;
  room = subst (λ (f : Held). 0 < f.layers.room) (sym c.self.view_is) c.requires.opened.room;
}

pub settle-requires : goal.settle-requires
settle-requires c = c.put_call.ensures.neat c.args.rows.now c.requires.term (neat_inside c.args.rows.now _ c.args.self.now c.self.view_is c.requires.opened.neat)

pub returns-clause-neat : goal.returns-clause-neat
returns-clause-neat c = c.put_call.ensures.neat c.args.rows.now c.requires.term (neat_inside c.args.rows.now _ c.args.self.now c.self.view_is c.requires.opened.neat)

pub returns-clause-ok : goal.returns-clause-ok
returns-clause-ok c = λ P same.
    in_call_is P c.args.rows.now _ c.args.self.now c.put_call.new.self _ _ _ c.args.call c.args.begun c.args.body same c.self.view_is c.requires.opened.neat c.put_call.ensures.step
    (pushed _ _ _ c.in_ok-enter.ensures.ok.0) c.in_ok-enter.ensures.ok.1 (c.settle.ensures P same)
