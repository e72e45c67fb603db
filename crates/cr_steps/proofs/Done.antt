-- A step that was done, as its caller tells it.
use Rattle.std.proofs.Common.{◌≡◌, ◌≤◌, ℕ, true, false, List, length, Some, refl, sym, ap, ◌∙◌}
use Rattle.std.specs.Prelude.{slice_get, slice_set}
use Rattle.std.proofs.lemmas.Option.{slice_get_past, same_Some}
use Rattle.cr_value.specs.declared.value.Value.{Value}
use Rattle.cr_core.specs.declared.row.Row.{Row}
use Rattle.cr_meaning.specs.World.{World}
use Rattle.cr_meaning.specs.State.{State, set_fiber}
use Rattle.cr_meaning.specs.Act.{gives}
use Rattle.cr_meaning.specs.Locals.{set_variable}
use Rattle.cr_meaning.specs.Reduce.{reduced_by, Reduced, Went}
use Rattle.cr_fibers.specs.declared.locals.Variable.{Variable}
use Rattle.cr_fibers.specs.Held.{Held, fiber_of, variable_of, with_variables}
use Rattle.cr_steps.specs.declared.control.Control.{Control}
use Rattle.cr_steps.specs.declared.control.Control.TheVariants as control
use Rattle.cr_steps.specs.declared.step.Step.{Step}
use Rattle.cr_steps.specs.declared.step.Step.TheVariants as step
use Rattle.cr_steps.specs.Control.{fibers_of, with_fibers}
use Rattle.cr_steps.specs.Control as told
use Rattle.cr_steps.specs.Step.{act_of, alone, captured_in, with_captured}
use Rattle.cr_steps.proofs.Acted.{captured_is, captured_kept, with_is}

pub went_is : (x : Reduced) (to : Control) (s : State) → to ≡ control.Went → x ≡ Went s → x ≡ told.reduced_to to s
went_is x to s e is = is ∙ ap (λ (t : Control). told.reduced_to t s) (sym e)

pub went_not : (to : Control) → to ≡ control.Went → told.is_went to ≡ false → ⊥
went_not to e clear = let x : told.is_went to ≡ true = ap told.is_went e in absurd cc

-- where the step is known
pub by_step : (P : World) (s : State) (i : ℕ) (f : Held) (it known : Step) (x : Reduced) → it ≡ known → reduced_by s i (fiber_of P f) (act_of P s i (fiber_of P f) (alone known)) ≡ x → reduced_by s i (fiber_of P f) (act_of P s i (fiber_of P f) (alone it)) ≡ x
by_step P s i f it known x e is = ap (λ (u : Step). reduced_by s i (fiber_of P f) (act_of P s i (fiber_of P f) (alone u))) e ∙ is

pub captured_there : (fs : List Held) (y : Variable) (v : Value) (f g : Held) → slice_get fs y.fiber.0 ≡ Some f → g ≡ with_variables f (slice_set f.variables y.number v) → slice_set fs y.fiber.0 g ≡ captured_in fs y v
captured_there fs y v f g at is = ap (slice_set fs y.fiber.0) is ∙ ap (with_captured fs y v) (sym at)

pub captured_past : (fs : List Held) (y : Variable) (v : Value) → length fs ≤ y.fiber.0 → fs ≡ captured_in fs y v
captured_past fs y v past = ap (with_captured fs y v) (sym (slice_get_past fs y.fiber.0 past))

-- what was done to the fiber at a place, of all fibers
pub there_is : (P : World) (s : State) (fs : List Held) (i : ℕ) (f x g : Held) (it : Step) (to : Control) → s.fibers ≡ fibers_of P fs → slice_get fs i ≡ Some f → slice_get fs i ≡ Some x
    → reduced_by s i (fiber_of P x) (act_of P s i (fiber_of P x) it) ≡ told.reduced_to to (set_fiber s i (fiber_of P g))
    → reduced_by s i (fiber_of P f) (act_of P s i (fiber_of P f) it) ≡ told.reduced_to to (with_fibers s (fibers_of P (slice_set fs i g)))
there_is P s fs i f x g it to fibers at read is =
    ap (λ (h : Held). reduced_by s i (fiber_of P h) (act_of P s i (fiber_of P h) it)) (same_Some f x (sym at ∙ read)) ∙ is ∙ ap (told.reduced_to to) (with_is P s fs i g fibers)

-- what was done after a captured local got a value
pub shared_is : (P : World) (rows : List Row) (s : State) (fs mid new : List Held) (i : ℕ) (f : Held) (y : Variable) (v shown : Value) (it : Step) (to : Control) → it ≡ step.SetsShared y v shown → P.rows ≡ rows → s.fibers ≡ fibers_of P fs → slice_get fs i ≡ Some f → mid ≡ captured_in fs y v
    → ((r : State) (h : Held) → r.fibers ≡ fibers_of P mid → slice_get mid i ≡ Some h → reduced_by r i (fiber_of P h) (gives r shown) ≡ told.reduced_to to (with_fibers r (fibers_of P new)))
    → reduced_by s i (fiber_of P f) (act_of P s i (fiber_of P f) it) ≡ told.reduced_to to (with_fibers s (fibers_of P new))
shared_is P rows s fs mid new i f y v shown it to known same fibers at mid_is done =
    let kept = captured_kept fs y v i f at in
    let r : State = with_fibers s (fibers_of P mid) in
    let there : set_variable s (variable_of y) v (slice_get s.fibers y.fiber.0) ≡ r = captured_is P s fs y v fibers ∙ ap (λ (hs : List Held). with_fibers s (fibers_of P hs)) (sym mid_is) in
    ap (λ (u : Step). reduced_by s i (fiber_of P f) (act_of P s i (fiber_of P f) u)) known
    ∙ ap (λ (q : State). reduced_by s i (fiber_of P f) (gives q shown)) there
    ∙ done r kept.0 refl (ap (λ (hs : List Held). slice_get hs i) mid_is ∙ kept.1)
