-- The fiber to which a step is done.
use Rattle.std.proofs.Common.{◌≡◌, ◌<◌, ℕ, List, Option, Some, None, refl, sym, subst, ◌∙◌}
use Rattle.std.specs.Prelude.{get_or, length, slice_get, slice_set}
use Rattle.std.proofs.lemmas.List.Elements.{All-set}
use Rattle.std.proofs.lemmas.Option.{same_Some, slice_get_read, slice_get_within}
use Rattle.cr_value.specs.declared.value.Value.{Value}
use Rattle.cr_core.specs.declared.row.Row.{Row}
use Rattle.cr_stack.specs.Layers.{Layers}
use Rattle.cr_stack.specs.Neat.{IsNeat}
use Rattle.cr_stack.specs.Steps.{IsOpen, IsReduced}
use Rattle.cr_fibers.specs.declared.locals.Variable.{Variable}
use Rattle.cr_fibers.specs.Held.{Held, with_variables}
use Rattle.cr_fibers.specs.Steps.{IsOpened}
use Rattle.cr_steps.specs.declared.step.Step.{Step}
use Rattle.cr_steps.specs.declared.step.Step.TheVariants as step
use Rattle.cr_steps.specs.Control.{AreNeat}
use Rattle.cr_steps.specs.Step.{captured_in, with_captured, CanAct, Fits}
use Rattle.cr_steps.proofs.Acted.{captured_kept}
use Rattle.cr_steps.proofs.Lists.{at_place}

-- ---- where it stands

-- what is read at its place is there
pub can_read : (rows : List Row) (fs : List Held) (i : ℕ) (it : Step) (x : Held) → CanAct rows fs i it → x ≡ get_or fs i x → slice_get fs i ≡ Some x
can_read rows fs i it x can is = slice_get_read fs (length fs) i x refl (slice_get_within fs i can.held can.stands) is

pub can_opened : (rows : List Row) (fs : List Held) (i : ℕ) (it : Step) (x : Held) → CanAct rows fs i it → slice_get fs i ≡ Some x → IsOpened rows x
can_opened rows fs i it x can at = subst (IsOpened rows) (same_Some can.held x (sym can.stands ∙ at)) can.opened

pub can_fit : (rows : List Row) (fs : List Held) (i : ℕ) (it : Step) (x : Held) → CanAct rows fs i it → slice_get fs i ≡ Some x → Fits rows x.layers it
can_fit rows fs i it x can at = subst (λ (f : Held). Fits rows f.layers it) (same_Some can.held x (sym can.stands ∙ at)) can.fits

pub opened_as : (rows : List Row) (f g : Held) → g.layers ≡ f.layers → IsOpened rows f → IsOpened rows g
opened_as rows f g e o = record {
  neat = subst (IsNeat rows) (sym e) o.neat;
  stands = subst IsOpen (sym e) o.stands;
  room = subst (λ (l : Layers). 0 < l.room) (sym e) o.room;
}

-- ---- after a captured local was written

captured_can : (rows : List Row) (fs : List Held) (i : ℕ) (y : Variable) (v w : Value) → CanAct rows fs i (step.SetsShared y v w) → CanAct rows (captured_in fs y v) i (step.Gives w)
captured_can rows fs i y v w can =
    let kept = captured_kept fs y v i can.held can.stands in
    record {
      held = kept.0;
      stands = kept.1;
      opened = opened_as rows can.held kept.0 kept.2 can.opened;
      fits = subst (λ (l : Layers). IsReduced l.focus) (sym kept.2) can.fits;
    }

-- with the fibers that it left, where the step is known
pub captured_can_as : (rows : List Row) (fs mid : List Held) (i : ℕ) (y : Variable) (v w : Value) (it : Step) → it ≡ step.SetsShared y v w → mid ≡ captured_in fs y v → CanAct rows fs i it → CanAct rows mid i (step.Gives w)
captured_can_as rows fs mid i y v w it known is can =
    subst (λ (hs : List Held). CanAct rows hs i (step.Gives w)) (sym is) (captured_can rows fs i y v w (subst (CanAct rows fs i) known can))

captured_neat_by : (rows : List Row) (fs : List Held) (y : Variable) (v : Value) (o : Option Held) → slice_get fs y.fiber.0 ≡ o → AreNeat rows fs → AreNeat rows (with_captured fs y v o)
captured_neat_by rows fs y v None at h = h
captured_neat_by rows fs y v (Some f) at h =
    All-set (λ (g : Held). IsNeat rows g.layers) fs y.fiber.0 (with_variables f (slice_set f.variables y.number v)) (at_place (λ (g : Held). IsNeat rows g.layers) fs y.fiber.0 f h at) h

pub captured_neat : (rows : List Row) (fs mid : List Held) (y : Variable) (v : Value) → mid ≡ captured_in fs y v → AreNeat rows fs → AreNeat rows mid
captured_neat rows fs mid y v is h = subst (AreNeat rows) (sym is) (captured_neat_by rows fs y v (slice_get fs y.fiber.0) refl h)

pub set_neat : (rows : List Row) (fs : List Held) (i : ℕ) (g : Held) → IsNeat rows g.layers → AreNeat rows fs → AreNeat rows (slice_set fs i g)
set_neat rows fs i g n h = All-set (λ (f : Held). IsNeat rows f.layers) fs i g n h
