-- A reduction whose step is known.
use Rattle.std.proofs.Common.{◌≡◌, ℕ, Bool, true, false, Option, Some, None, refl, sym, ap, ◌∙◌}
use Rattle.std.specs.Prelude.{◌||◌, not, is_some, slice_get}
use Rattle.cr_base.specs.declared.ids.NodeId.{NodeId}
use Rattle.cr_core.specs.declared.form.Form.{Form}
use Rattle.cr_core.specs.declared.form.Form.TheVariants as f
use Rattle.cr_meaning.specs.World.{World}
use Rattle.cr_meaning.specs.Term.{Term, Terms, Val, Node, Turn, Frame, Body, Sent}
use Rattle.cr_meaning.specs.State.{State}
use Rattle.cr_meaning.specs.State as m
use Rattle.cr_meaning.specs.Act.{Act, Becomes, Jumps, Raises, Stuck, Blocked, BadChoice, Choice, without_clause}
use Rattle.cr_meaning.specs.Channels.{waits_in, elsewhere}
use Rattle.cr_meaning.specs.Redex.{redex}
use Rattle.cr_meaning.specs.Reduce.{reduce, reduced_of, reduced_at, reduced_by, with_choice, Is_stuck, Is_bad}
use Rattle.cr_steps.specs.declared.step.Step.{Step}
use Rattle.cr_steps.specs.declared.step.Step.TheVariants as step
use Rattle.cr_steps.specs.Control.{is_chosen, is_control, is_control_form, is_left}
use Rattle.cr_steps.specs.Step.{act_of, ended, is_deed, is_other, Decides, DecidesTerm}

-- ---- choices

or_left : (a b : Bool) → (a || b) ≡ false → a ≡ false
or_left true b e = absurd cc
or_left false b e = refl

or_right : (a b : Bool) → (a || b) ≡ false → b ≡ false
or_right true b e = absurd cc
or_right false b e = e

without_none : (o : Option ℕ) (a : Act) → is_some o ≡ false → without_clause o a ≡ a
without_none None a e = refl
without_none (Some n) a e = absurd cc

without_bad : (o : Option ℕ) → without_clause o BadChoice ≡ BadChoice
without_bad None = refl
without_bad (Some n) = refl

without_some : (o : Option ℕ) (a : Act) → is_some o ≡ true → without_clause o a ≡ BadChoice
without_some None a e = absurd cc
without_some (Some n) a e = refl

-- whether something comes of it
abbrev is_done : Act → Bool
is_done (Becomes s t) = true
is_done (Jumps e) = true
is_done (Raises t) = true
is_done Stuck = false
is_done Blocked = false
is_done BadChoice = true

module _ (choice : Choice) where
  abbrev all_without : Act → Act
  all_without a = without_clause choice.clause (without_clause choice.partner (without_clause choice.partner_clause a))

  none_chosen : (a : Act) → is_chosen choice ≡ false → all_without a ≡ a
  none_chosen a e =
      let rest : (is_some choice.partner || is_some choice.partner_clause) ≡ false = or_right (is_some choice.clause) _ e in
      without_none choice.clause _ (or_left (is_some choice.clause) _ e)
      ∙ without_none choice.partner _ (or_left (is_some choice.partner) _ rest)
      ∙ without_none choice.partner_clause a (or_right (is_some choice.partner) _ rest)

  last_chosen : (b : Bool) (a : Act) → (b || is_some choice.partner_clause) ≡ true → b ≡ is_some choice.partner → without_clause choice.partner (without_clause choice.partner_clause a) ≡ BadChoice
  last_chosen true a e is = without_some choice.partner _ (sym is)
  last_chosen false a e is = ap (without_clause choice.partner) (without_some choice.partner_clause a e) ∙ without_bad choice.partner

  some_chosen : (b : Bool) (a : Act) → (b || (is_some choice.partner || is_some choice.partner_clause)) ≡ true → b ≡ is_some choice.clause → all_without a ≡ BadChoice
  some_chosen true a e is = without_some choice.clause _ (sym is)
  some_chosen false a e is = ap (without_clause choice.clause) (last_chosen (is_some choice.partner) a e refl) ∙ without_bad choice.clause

  unchosen : (a : Act) → is_chosen choice ≡ false → with_choice choice elsewhere a ≡ a
  unchosen (Becomes s t) e = none_chosen (Becomes s t) e
  unchosen (Jumps x) e = none_chosen (Jumps x) e
  unchosen (Raises t) e = none_chosen (Raises t) e
  unchosen Stuck e = refl
  unchosen Blocked e = refl
  unchosen BadChoice e = none_chosen BadChoice e

  chosen : (a : Act) → is_done a ≡ true → is_chosen choice ≡ true → with_choice choice elsewhere a ≡ BadChoice
  chosen (Becomes s t) d e = some_chosen (is_some choice.clause) (Becomes s t) e refl
  chosen (Jumps x) d e = some_chosen (is_some choice.clause) (Jumps x) e refl
  chosen (Raises t) d e = some_chosen (is_some choice.clause) (Raises t) e refl
  chosen Stuck d e = absurd cc
  chosen Blocked d e = absurd cc
  chosen BadChoice d e = some_chosen (is_some choice.clause) BadChoice e refl

-- ---- what takes no choice

node_waits : (P : World) (s : State) (n : NodeId) (form : Form) (ps : Terms) → is_control_form form ≡ true → waits_in P s (Node n form ps) ≡ elsewhere
node_waits P s n (f.Local x) ps e = refl
node_waits P s n (f.Set x) ps e = refl
node_waits P s n f.KeywordSelf ps e = refl
node_waits P s n f.Seq ps e = refl
node_waits P s n f.If ps e = refl
node_waits P s n f.And ps e = refl
node_waits P s n f.Or ps e = refl
node_waits P s n f.Not ps e = refl
node_waits P s n f.While ps e = refl
node_waits P s n f.Again ps e = refl
node_waits P s n f.Break ps e = refl
node_waits P s n f.Next ps e = refl
node_waits P s n f.Return ps e = refl
node_waits P s n form ps e = absurd cc

control_waits : (P : World) (s : State) (t : Term) → is_control t ≡ true → waits_in P s t ≡ elsewhere
control_waits P s (Val v) e = absurd cc
control_waits P s (Node n form ps) e = node_waits P s n form ps e
control_waits P s (Turn fresh now) e = refl
control_waits P s (Frame gives t) e = refl
control_waits P s (Body t) e = refl
control_waits P s (Sent channel item) e = absurd cc

-- ---- the reduction

module _ (P : World) (s : State) (i : ℕ) (fiber : m.Fiber) (choice : Choice) (it : Step) where
  deed_done : (t : Term) → redex fiber.term ≡ Some t → is_deed it ≡ true → is_done (act_of P s i fiber it) ≡ true
  deed_done t at d = done it d
    where
      done : (it : Step) → is_deed it ≡ true → is_done (act_of P s i fiber it) ≡ true
      done (step.Gives v) d = refl
      done (step.Goes n) d = refl
      done (step.Turns n) d = refl
      done (step.SetsOwn x v w) d = refl
      done (step.SetsShared y v w) d = refl
      done (step.Jumps e) d = refl
      done step.Ends d = ap (λ (o : Option Term). is_done (ended s i fiber o)) at
      done step.Stuck d = absurd cc
      done step.Nothing d = absurd cc
      done step.Other d = absurd cc

  not_other : (a b : Bool) → a ≡ not b → b ≡ false → a ≡ true
  not_other a b e is = e ∙ ap not is

  -- a redex, without a choice
  term_plain : (t : Term) → DecidesTerm P s i fiber choice t it → is_other it ≡ false → is_chosen choice ≡ false → reduced_at P s i fiber choice (Some t) ≡ reduced_by s i fiber (act_of P s i fiber it)
  term_plain t d clear e =
      ap (λ (a : Act). reduced_by s i fiber (with_choice choice (waits_in P s t) a)) (d.comes clear)
      ∙ ap (λ (w : _). reduced_by s i fiber (with_choice choice w (act_of P s i fiber it))) (control_waits P s t (not_other _ _ d.control clear))
      ∙ ap (reduced_by s i fiber) (unchosen choice (act_of P s i fiber it) e)

  -- a redex of which something comes, with a choice
  term_bad : (t : Term) → redex fiber.term ≡ Some t → DecidesTerm P s i fiber choice t it → is_other it ≡ false → is_deed it ≡ true → is_chosen choice ≡ true → reduced_at P s i fiber choice (Some t) ≡ Is_bad
  term_bad t at d clear deed e =
      ap (λ (a : Act). reduced_by s i fiber (with_choice choice (waits_in P s t) a)) (d.comes clear)
      ∙ ap (λ (w : _). reduced_by s i fiber (with_choice choice w (act_of P s i fiber it))) (control_waits P s t (not_other _ _ d.control clear))
      ∙ ap (reduced_by s i fiber) (chosen choice (act_of P s i fiber it) (deed_done t at deed) e)

  -- a redex of which nothing comes, with a choice or without
  term_stuck : (t : Term) → DecidesTerm P s i fiber choice t it → is_other it ≡ false → act_of P s i fiber it ≡ Stuck → reduced_at P s i fiber choice (Some t) ≡ reduced_by s i fiber (act_of P s i fiber it)
  term_stuck t d clear is =
      ap (λ (a : Act). reduced_by s i fiber (with_choice choice (waits_in P s t) a)) (d.comes clear ∙ is)
      ∙ ap (reduced_by s i fiber) (sym is)

  nothing_stuck : it ≡ step.Nothing → Is_stuck ≡ reduced_by s i fiber (act_of P s i fiber it)
  nothing_stuck is = ap (λ (u : Step). reduced_by s i fiber (act_of P s i fiber u)) (sym is)

  at_plain : (o : Option Term) → Decides P s i fiber choice o it → is_other it ≡ false → is_chosen choice ≡ false → reduced_at P s i fiber choice o ≡ reduced_by s i fiber (act_of P s i fiber it)
  at_plain None d clear e = nothing_stuck d
  at_plain (Some t) d clear e = term_plain t d clear e

  at_bad : (o : Option Term) → redex fiber.term ≡ o → Decides P s i fiber choice o it → is_other it ≡ false → is_deed it ≡ true → is_chosen choice ≡ true → reduced_at P s i fiber choice o ≡ Is_bad
  at_bad None at d clear deed e = absurd (let x : is_deed it ≡ false = ap is_deed d in cc)
  at_bad (Some t) at d clear deed e = term_bad t at d clear deed e

  at_stuck : (o : Option Term) → Decides P s i fiber choice o it → is_other it ≡ false → act_of P s i fiber it ≡ Stuck → reduced_at P s i fiber choice o ≡ reduced_by s i fiber (act_of P s i fiber it)
  at_stuck None d clear is = nothing_stuck d
  at_stuck (Some t) d clear is = term_stuck t d clear is

  pub undone_stuck : is_deed it ≡ false → act_of P s i fiber it ≡ Stuck
  undone_stuck clear = none it clear
    where
      none : (it : Step) → is_deed it ≡ false → act_of P s i fiber it ≡ Stuck
      none step.Stuck d = refl
      none step.Nothing d = refl
      none step.Other d = refl
      none it d = absurd cc

  module _ (stands : slice_get s.fibers i ≡ Some fiber) (d : Decides P s i fiber choice (redex fiber.term) it) (clear : is_other it ≡ false) where
    unfolded : reduce P s i choice ≡ reduced_at P s i fiber choice (redex fiber.term)
    unfolding reduce
    unfolded = ap (reduced_of P s i choice) stands

    pub plain_is : is_chosen choice ≡ false → reduce P s i choice ≡ reduced_by s i fiber (act_of P s i fiber it)
    plain_is e = unfolded ∙ at_plain (redex fiber.term) d clear e

    pub bad_is : is_deed it ≡ true → is_chosen choice ≡ true → reduce P s i choice ≡ Is_bad
    bad_is deed e = unfolded ∙ at_bad (redex fiber.term) refl d clear deed e

    pub stuck_is : is_deed it ≡ false → reduce P s i choice ≡ reduced_by s i fiber (act_of P s i fiber it)
    stuck_is deed = unfolded ∙ at_stuck (redex fiber.term) d clear (undone_stuck deed)

-- ---- which is left

not_not : (a b : Bool) → a ≡ not b → not a ≡ b
not_not a true e = ap not e
not_not a false e = ap not e

pub left_is : (P : World) (s : State) (i : ℕ) (fiber : m.Fiber) (choice : Choice) (it : Step) (o : Option Term) → Decides P s i fiber choice o it → is_left o ≡ is_other it
left_is P s i fiber choice it None d = sym (ap is_other d)
left_is P s i fiber choice it (Some t) d = not_not (is_control t) (is_other it) d.control

pub deed_not_other : (it : Step) → is_deed it ≡ true → is_other it ≡ false
deed_not_other step.Other d = absurd cc
deed_not_other it d = refl
