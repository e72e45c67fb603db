use Rattle.std.proofs.Common.{refl, sym, ap, ◌∙◌, Some}
use Rattle.cr_fibers.specs.declared.locals.Slot.{Slot}
use Rattle.cr_fibers.specs.Held.{fiber_of, slot_of, variable_of}
use Rattle.cr_steps.proofs.Assigned.{set_none_is, set_own_is, set_shared_is}
use Rattle.cr_steps.proofs.locals.set.Goals as goal

pub returns-in_default-clause-step : goal.returns-in_default-clause-step
returns-in_default-clause-step c = (refl, λ P s i. set_none_is s i (fiber_of P c.args.fiber.now) c.args.named c.args.value.now _ (sym (c.in_default.ensures P)))

pub returns-in-Own-clause-step : goal.returns-in-Own-clause-step
returns-in-Own-clause-step c = (
  refl,
  λ P s i.
      set_own_is s i (fiber_of P c.args.fiber.now) c.args.named c.args.value.now c.in_ok-stored.stored c.in_ok-shown.shown c.in-Own.field-0 _
      (sym (c.in-Some.ensures P) ∙ ap (λ (it : Slot). Some (slot_of it)) c.in-Own.is) c.in_ok-stored.ensures c.in_ok-shown.ensures,
)

pub returns-in-Shared-clause-step : goal.returns-in-Shared-clause-step
returns-in-Shared-clause-step c = (
  refl,
  λ P s i.
      set_shared_is s i (fiber_of P c.args.fiber.now) c.args.named c.args.value.now c.in_ok-stored.stored c.in_ok-shown.shown (variable_of c.in-Shared.variable) _
      (sym (c.in-Some.ensures P) ∙ ap (λ (it : Slot). Some (slot_of it)) c.in-Shared.is) c.in_ok-stored.ensures c.in_ok-shown.ensures,
)
