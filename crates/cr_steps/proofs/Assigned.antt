-- What an assignment to a name comes to, by what its slot holds.
use Rattle.std.proofs.Common.{◌≡◌, ℕ, Option, Some, None, sym, ap, ◌∙◌}
use Rattle.std.specs.Prelude.{slice_get}
use Rattle.cr_value.specs.declared.value.Value.{Value}
use Rattle.cr_core.specs.declared.form.Local.{Local}
use Rattle.cr_meaning.specs.State.{State, set_fiber}
use Rattle.cr_meaning.specs.State as m
use Rattle.cr_meaning.specs.Act.{Act, Stuck, gives, or_stuck}
use Rattle.cr_meaning.specs.Locals.{set_variable, written}
use Rattle.cr_steps.specs.Step.{with_own}

module _ (s : State) (i : ℕ) (fiber : m.Fiber) (x : Local) (v : Value) where
  abbrev assigned : Option m.Slot → Act
  assigned o = or_stuck (λ (s' : State). gives s' v) (written s i fiber x v o)

  pub set_none_is : (o : Option m.Slot) → o ≡ None → assigned o ≡ Stuck
  set_none_is o e = ap assigned e

  pub set_own_is : (stored shown old : Value) (o : Option m.Slot) → o ≡ Some (m.Own old) → stored ≡ v → shown ≡ v → assigned o ≡ gives (set_fiber s i (with_own fiber x stored)) shown
  set_own_is stored shown old o e is shows =
      ap assigned e ∙ ap (λ (u : Value). gives (set_fiber s i (with_own fiber x u)) v) (sym is) ∙ ap (gives (set_fiber s i (with_own fiber x stored))) (sym shows)

  pub set_shared_is : (stored shown : Value) (y : m.Variable) (o : Option m.Slot) → o ≡ Some (m.Shared y) → stored ≡ v → shown ≡ v
      → assigned o ≡ gives (set_variable s y stored (slice_get s.fibers y.fiber)) shown
  set_shared_is stored shown y o e is shows =
      ap assigned e ∙ ap (λ (u : Value). gives (set_variable s y u (slice_get s.fibers y.fiber)) v) (sym is)
      ∙ ap (gives (set_variable s y stored (slice_get s.fibers y.fiber))) (sym shows)
