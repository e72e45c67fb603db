-- A whole reduction at a place among fibers, once it is decided what the redex there comes to.
use Rattle.std.proofs.Common.{◌≡◌, ◌<◌, ℕ, Bool, true, false, List, [], length, Some, Result, Ok, Err, OnErr, refl, sym, ap, subst, ◌∙◌}
use Rattle.std.specs.Prelude.{◌&&◌, get_or, slice_get, slice_set}
use Rattle.std.proofs.lemmas.Option.{slice_get_read, slice_get_within, same_Some}
use Rattle.cr_core.specs.declared.row.Row.{Row}
use Rattle.cr_core.specs.Tree.{Contents}
use Rattle.cr_meaning.specs.World.{World}
use Rattle.cr_meaning.specs.State.{State}
use Rattle.cr_meaning.specs.Act.{Choice, no_choice}
use Rattle.cr_meaning.specs.Redex.{redex}
use Rattle.cr_meaning.specs.Reduce.{reduce, reduced_by, Is_bad}
use Rattle.cr_stack.specs.Layers.{IsWorldOf}
use Rattle.cr_fibers.specs.Held.{Held, fiber_of}
use Rattle.cr_fibers.specs.Steps.{IsOpened}
use Rattle.cr_steps.specs.declared.control.Control.{Control}
use Rattle.cr_steps.specs.declared.step.Step.{Step}
use Rattle.cr_steps.specs.Control.{fibers_of, is_chosen, is_left_in, is_went, reduced_to, with_fibers}
use Rattle.cr_steps.specs.Control as told
use Rattle.cr_steps.specs.Step.{act_of, is_deed, is_other, CanAct, Decides, Fits}
use Rattle.cr_steps.proofs.Acted.{get_is}
use Rattle.cr_steps.proofs.Controlled.{opened_same, barred_is, done_is, deed_is}
use Rattle.cr_steps.proofs.Controlled as c
use Rattle.cr_steps.proofs.Lists.{set_here}

-- what holds anyway holds on an error
pub on_error : {T E A : Type 0} (r : Result T E) → A → OnErr r A
on_error (Ok x) a = tt
on_error (Err e) a = a

-- f stood at the place, g stands there since it went on to its redex, and x was read there, of which the step was decided.
pub record WentOn (t : Contents) (old : List Held) (i : ℕ) (f g x : Held) (it : Step) : Type 0 where
  pub at : slice_get old i ≡ Some f
  pub same : (P : World) → IsWorldOf P t → fiber_of P g ≡ fiber_of P f
  pub read : slice_get (slice_set old i g) i ≡ Some x
  pub decides : (P : World) (s : State) (j : ℕ) (choice : Choice) → P.rows ≡ t.rows → s.fibers ≡ fibers_of P (slice_set old i g) → slice_get s.fibers j ≡ Some (fiber_of P x)
      → Decides P s j (fiber_of P x) choice (redex (fiber_of P x).term) it

module _ (t : Contents) (old : List Held) (i : ℕ) (f g x : Held) (it : Step) where
  -- by what its calls told
  pub went_on : (n : ℕ) → n ≡ length old → i < n → f ≡ get_or old i f → ((P : World) → IsWorldOf P t → fiber_of P g ≡ fiber_of P f) → x ≡ get_or (slice_set old i g) i x
      → (list : List Held) → list ≡ slice_set old i g
      → ((P : World) (s : State) (j : ℕ) (choice : Choice) → P.rows ≡ t.rows → s.fibers ≡ fibers_of P list → slice_get s.fibers j ≡ Some (fiber_of P x)
      → Decides P s j (fiber_of P x) choice (redex (fiber_of P x).term) it)
      → WentOn t old i f g x it
  went_on n many inside first same second list is decides =
      let at : slice_get old i ≡ Some f = slice_get_read old n i f many inside first in
      let here : slice_get (slice_set old i g) i ≡ Some g = set_here old i f g at in
      record {
        at = at;
        same = same;
        read = slice_get_read (slice_set old i g) (length (slice_set old i g)) i x refl (slice_get_within (slice_set old i g) i g here) second;
        decides = λ P s j choice rows fibers there. decides P s j choice rows (fibers ∙ ap (fibers_of P) (sym is)) there;
      }

  module _ (w : WentOn t old i f g x it) where
    -- what is read there is it
    read_is : g ≡ x
    read_is = same_Some g x (sym (set_here old i f g w.at) ∙ w.read)

    pub kept : (P : World) → IsWorldOf P t → fibers_of P (slice_set old i g) ≡ fibers_of P old
    kept P of = opened_same P old i f g w.at (w.same P of)

    decided : (P : World) (s : State) (choice : Choice) → IsWorldOf P t → s.fibers ≡ fibers_of P old → Decides P s i (fiber_of P g) choice (redex (fiber_of P g).term) it
    decided P s choice of fibers =
        let opened : s.fibers ≡ fibers_of P (slice_set old i g) = fibers ∙ sym (kept P of) in
        subst (λ (h : Held). Decides P s i (fiber_of P h) choice (redex (fiber_of P h).term) it) (sym read_is)
        (w.decides P s i choice of.rows opened (get_is P s (slice_set old i g) i x opened w.read))

    pub can_is : (rows : List Row) → rows ≡ t.rows → IsOpened t.rows g → Fits t.rows x.layers it → CanAct rows (slice_set old i g) i it
    can_is rows same opened fits =
        record { held = x; stands = w.read; opened = subst (λ (of : List Row). IsOpened of x) (sym same) (subst (IsOpened t.rows) read_is opened); fits = subst (λ (of : List Row). Fits of x.layers it) (sym same) fits }

    pub barred : (chosen bars : Bool) → bars ≡ (chosen && is_deed it) → bars ≡ true → (P : World) (s : State) (choice : Choice) → IsWorldOf P t → s.fibers ≡ fibers_of P old → is_chosen choice ≡ chosen → reduce P s i choice ≡ Is_bad
    barred chosen bars is stops P s choice of fibers chooses =
        barred_is P old i f g w.at (w.same P of) s choice it chosen fibers chooses (sym is ∙ stops) (decided P s choice of fibers)

    pub left : (P : World) → IsWorldOf P t → is_other it ≡ is_left_in (slice_get (fibers_of P old) i)
    left P of =
        let s : State = record { fibers = fibers_of P old; cells = []; contexts = []; output = []; errors = [] } in
        c.other_is P old i f g w.at (w.same P of) s no_choice it refl (decided P s no_choice of refl)

    pub barred_left : (chosen bars : Bool) → bars ≡ (chosen && is_deed it) → bars ≡ true → (P : World) → IsWorldOf P t → false ≡ is_left_in (slice_get (fibers_of P old) i)
    barred_left chosen bars is stops P of = sym (deed_is P old i f g w.at (w.same P of) it chosen (sym is ∙ stops)) ∙ left P of

    -- once it was done
    module _ (rows : List Row) (of_tree : rows ≡ t.rows) (new : List Held) (to : Control) where
      pub done : (chosen bars : Bool) → bars ≡ (chosen && is_deed it) → bars ≡ false → told.is_other to ≡ is_other it
          → ((P : World) (s : State) (h : Held) → P.rows ≡ rows → s.fibers ≡ fibers_of P (slice_set old i g) → slice_get (slice_set old i g) i ≡ Some h
          → reduced_by s i (fiber_of P h) (act_of P s i (fiber_of P h) it) ≡ reduced_to to (with_fibers s (fibers_of P new)))
          → told.is_other to ≡ false → (P : World) (s : State) (choice : Choice) → IsWorldOf P t → s.fibers ≡ fibers_of P old → is_chosen choice ≡ chosen
          → reduce P s i choice ≡ reduced_to to (with_fibers s (fibers_of P new))
      done chosen bars is goes other acts clear P s choice of fibers chooses =
          done_is P old i f g w.at (w.same P of) s choice it chosen to new fibers chooses (sym is ∙ goes) other clear (decided P s choice of fibers)
          (acts P s g (of.rows ∙ sym of_tree) (fibers ∙ sym (kept P of)) (set_here old i f g w.at))

      pub done_same : (is_went to ≡ false → (P : World) → P.rows ≡ rows → fibers_of P new ≡ fibers_of P (slice_set old i g)) → is_went to ≡ false → (P : World) → IsWorldOf P t → fibers_of P new ≡ fibers_of P old
      done_same acts clear P of = acts clear P (of.rows ∙ sym of_tree) ∙ kept P of
