use Rattle.std.proofs.Common.{◌≡◌, ap, sym, subst, ◌∙◌}
use Rattle.cr_meaning.specs.Term.{Val}
use Rattle.cr_stack.specs.Layers.{Layers}
use Rattle.cr_stack.specs.Steps.{IsReduced}
use Rattle.cr_fibers.specs.Held.{Held, fiber_of}
use Rattle.cr_fibers.specs.Steps.{reduced_to}
use Rattle.cr_steps.proofs.Held.{opened_as}
use Rattle.cr_steps.proofs.acting.set_own.Goals as goal

pub put_value-requires : goal.put_value-requires
put_value-requires c =
    let same : c.set_slot.new.self.layers ≡ c.args.fiber.now.layers = ap (λ (f : Held). f.layers) c.set_slot.ensures in
    record {
      opened = opened_as c.args.rows.now c.args.fiber.now c.set_slot.new.self same c.requires.opened;
      reduced = subst (λ (l : Layers). IsReduced l.focus) (sym same) c.requires.reduced;
    }

pub returns-clause-step : goal.returns-clause-step
returns-clause-step c = λ P same. c.put_value.ensures.step.is P same ∙ ap (λ (f : Held). reduced_to (fiber_of P f) (Val c.args.shown)) c.set_slot.ensures
