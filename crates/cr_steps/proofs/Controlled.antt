-- A whole reduction: the fiber goes on to its redex, it is known what that comes to, and that is done.
use Rattle.std.proofs.Common.{◌≡◌, ◌≤◌, ℕ, Bool, true, false, List, length, Some, refl, sym, ap, ◌∙◌}
use Rattle.std.specs.Prelude.{◌&&◌, slice_get, slice_set}
use Rattle.std.specs.Option.{option_map}
use Rattle.std.proofs.lemmas.Option.{slice_get-map, slice_get_past}
use Rattle.cr_meaning.specs.World.{World}
use Rattle.cr_meaning.specs.State.{State}
use Rattle.cr_meaning.specs.State as m
use Rattle.cr_meaning.specs.Act.{Choice}
use Rattle.cr_meaning.specs.Redex.{redex}
use Rattle.cr_meaning.specs.Reduce.{reduce, reduced_of, reduced_by, Is_stuck, Is_bad}
use Rattle.cr_fibers.specs.Held.{Held, fiber_of}
use Rattle.cr_steps.specs.declared.control.Control.{Control}
use Rattle.cr_steps.specs.declared.step.Step.{Step}
use Rattle.cr_steps.specs.Control.{fibers_of, is_chosen, is_left_in, reduced_to, with_fibers}
use Rattle.cr_steps.specs.Control as told
use Rattle.cr_steps.specs.Step.{act_of, is_deed, is_other, Decides}
use Rattle.cr_steps.proofs.Acted.{get_is, same_there}
use Rattle.cr_steps.proofs.Reduced.{plain_is, bad_is, stuck_is, left_is, deed_not_other}

both_true : (a b : Bool) → (a && b) ≡ true → (a ≡ true) × (b ≡ true)
both_true true b e = (refl, e)
both_true false b e = absurd cc

-- ---- no fiber there

pub nothing_there : (P : World) (s : State) (fs : List Held) (i : ℕ) (choice : Choice) → s.fibers ≡ fibers_of P fs → length fs ≤ i → reduce P s i choice ≡ Is_stuck
unfolding reduce
nothing_there P s fs i choice same past =
    ap (λ (xs : List m.Fiber). reduced_of P s i choice (slice_get xs i)) same
    ∙ ap (reduced_of P s i choice) (slice_get-map (fiber_of P) fs i ∙ ap (option_map (fiber_of P)) (slice_get_past fs i past))

pub nothing_left : (P : World) (fs : List Held) (i : ℕ) → length fs ≤ i → false ≡ is_left_in (slice_get (fibers_of P fs) i)
nothing_left P fs i past = ap is_left_in (sym (slice_get-map (fiber_of P) fs i ∙ ap (option_map (fiber_of P)) (slice_get_past fs i past)))

-- ---- a fiber there, which went on to its redex

module _ (P : World) (old : List Held) (i : ℕ) (f g : Held) (at : slice_get old i ≡ Some f) (goes_on : fiber_of P g ≡ fiber_of P f) where
  abbrev opened_list : List Held
  opened_list = slice_set old i g

  pub opened_same : fibers_of P opened_list ≡ fibers_of P old
  opened_same = same_there P old i f g at goes_on

  stands_with : (s : State) → s.fibers ≡ fibers_of P old → slice_get s.fibers i ≡ Some (fiber_of P g)
  stands_with s same = get_is P s old i f same at ∙ ap Some (sym goes_on)

  -- what is told where a choice bars it
  pub barred_is : (s : State) (choice : Choice) (it : Step) (chosen : Bool) → s.fibers ≡ fibers_of P old → is_chosen choice ≡ chosen → (chosen && is_deed it) ≡ true
      → Decides P s i (fiber_of P g) choice (redex (fiber_of P g).term) it → reduce P s i choice ≡ Is_bad
  barred_is s choice it chosen same is bars d =
      let both = both_true chosen (is_deed it) bars in
      bad_is P s i (fiber_of P g) choice it (stands_with s same) d (deed_not_other it both.1) both.1 (is ∙ both.0)

  by_choice : (s : State) (choice : Choice) (it : Step) (chosen : Bool) → s.fibers ≡ fibers_of P old → is_chosen choice ≡ chosen → (chosen && is_deed it) ≡ false → is_other it ≡ false
      → Decides P s i (fiber_of P g) choice (redex (fiber_of P g).term) it → reduce P s i choice ≡ reduced_by s i (fiber_of P g) (act_of P s i (fiber_of P g) it)
  by_choice s choice it true same is bars clear d = stuck_is P s i (fiber_of P g) choice it (stands_with s same) d clear bars
  by_choice s choice it false same is bars clear d = plain_is P s i (fiber_of P g) choice it (stands_with s same) d clear is

  -- what is told once it is done
  pub done_is : (s : State) (choice : Choice) (it : Step) (chosen : Bool) (to : Control) (new : List Held) → s.fibers ≡ fibers_of P old → is_chosen choice ≡ chosen → (chosen && is_deed it) ≡ false
      → told.is_other to ≡ is_other it → told.is_other to ≡ false
      → Decides P s i (fiber_of P g) choice (redex (fiber_of P g).term) it
      → reduced_by s i (fiber_of P g) (act_of P s i (fiber_of P g) it) ≡ reduced_to to (with_fibers s (fibers_of P new))
      → reduce P s i choice ≡ reduced_to to (with_fibers s (fibers_of P new))
  done_is s choice it chosen to new same is bars other clear d acts = by_choice s choice it chosen same is bars (sym other ∙ clear) d ∙ acts

  -- which is left
  pub other_is : (s : State) (choice : Choice) (it : Step) → s.fibers ≡ fibers_of P old → Decides P s i (fiber_of P g) choice (redex (fiber_of P g).term) it → is_other it ≡ is_left_in (slice_get (fibers_of P old) i)
  other_is s choice it same d =
      sym (left_is P s i (fiber_of P g) choice it (redex (fiber_of P g).term) d)
      ∙ ap is_left_in (sym (ap (λ (xs : List m.Fiber). slice_get xs i) (sym same) ∙ stands_with s same))

  pub deed_is : (it : Step) (chosen : Bool) → (chosen && is_deed it) ≡ true → is_other it ≡ false
  deed_is it chosen bars = deed_not_other it (both_true chosen (is_deed it) bars).1
