-- One statement more: what went before it leads to the same for all instance variables that it does not name.
use Rattle.std.proofs.Common.{◌≡◌, ℕ, zero, suc, ◌-◌, ◌<◌, ◌≤◌, ◌⊎◌, inl, inr, ⊎_elim, Bool, true, false, List, [], ◌∷◌, ◌++◌, length, Option, Some, None, refl, sym, ap, ◌∙◌, subst, arith}
use Rattle.std.specs.Prelude.{All, slice_get, take, get_or, not, ◌==◌, nat_lt, ◌||◌, if◌then◌else◌}
use Rattle.std.proofs.lemmas.Bool.{eqb-true, ltb-false, le-ltb}
use Rattle.std.proofs.lemmas.Option.{slice_get_within}
use Rattle.std.proofs.lemmas.List.Elements.{All-push}
use Rattle.cr_base.specs.declared.ids.NameId.{NameId}
use Rattle.cr_base.specs.declared.ids.NodeId.{NodeId}
use Rattle.cr_core.specs.declared.form.Form.{Form}
use Rattle.cr_core.specs.declared.form.Form.TheVariants as f
use Rattle.cr_core.specs.declared.row.Row.{Row}
use Rattle.cr_flow.specs.declared.variable.Variable.{Variable}
use Rattle.cr_flow.specs.declared.variable.Variable.TheVariants.{Field}
use Rattle.cr_flow.specs.declared.chain.Trail.{Trail}
use Rattle.cr_flow.specs.declared.outs.Outs.{Outs}
use Rattle.cr_flow.specs.declared.steps.Step.{Step}
use Rattle.cr_flow.specs.Control.{assigns, ends_apart, heads, last}
use Rattle.cr_flow.specs.Ways.{IsRow, IsHead, IsLast}
use Rattle.cr_flow.specs.Chain.{statement_of, trail_of, trail_in, IsBehind, IsForward}
use Rattle.cr_flow.specs.Uses.{reads_other, rank_of, asked}
use Rattle.cr_flow.specs.Outs.{none, join, goes_on, decided, led, leads_on, finished, reach}
use Rattle.cr_flow.specs.Under.{higher, past, ArePasts, named, IsClearFrom}
use Rattle.cr_flow.specs.Steps.{field_reach, IsStep, is_plain, advanced}
use Rattle.cr_flow.proofs.Parts.{front_get}
use Rattle.cr_flow.proofs.Reaching.{trail_on, trail_later}
use Rattle.cr_flow.proofs.Untouched.{AreAlike, alike}
use Rattle.cr_flow.proofs.Below.{higher_left, higher_right, name_same, clear_less}

not_named : (a k : NameId) → ¬ (◌≡◌ {A = Option NameId} (Some a) (Some k)) → (a.0 == k.0) ≡ false
not_named a k off = by (a.0 == k.0) refl
  where
    by : (b : Bool) → (a.0 == k.0) ≡ b → b ≡ false
    by false e = refl
    by true e = absurd (off (ap Some (name_same a k (eqb-true a.0 k.0 e))))

sets_none : (form : Form) (k : NameId) → ¬ (named form ≡ Some k) → assigns form (Field k) ≡ false
sets_none (f.SetField name) k off = not_named name k off
sets_none form k off = refl

reads_same : (form : Form) (k j : NameId) → ¬ (named form ≡ Some k) → ¬ (named form ≡ Some j) → reads_other (Field k) form ≡ reads_other (Field j) form
reads_same (f.Field name) k j off other = ap not (not_named name k off) ∙ sym (ap not (not_named name j other))
reads_same form k j off other = refl

rank_same : (x y : Variable) (v : Option (Option ℕ)) (o : Option Row) → ((r : Row) → o ≡ Some r → reads_other x r.form ≡ reads_other y r.form) → rank_of x v o ≡ rank_of y v o
rank_same x y None o h = refl
rank_same x y (Some None) o h = refl
rank_same x y (Some (Some k)) None h = refl
rank_same x y (Some (Some k)) (Some r) h = ap (λ (b : Bool). if b then None else Some k) (h r refl)

head_part : (r : Row) (i : ℕ) (c : NodeId) → IsHead r i c → slice_get r.parts i ≡ Some c
head_part r i c h = by (ends_apart r.form) h
  where
    by : (b : Bool) → slice_get (if b then take (length r.parts - 1) r.parts else r.parts) i ≡ Some c → slice_get r.parts i ≡ Some c
    by true h = (front_get r.parts (length r.parts - 1) i c h).0
    by false h = h

trail_unnamed : (r : Row) (w : Trail) (k : NameId) → trail_of r.form r.parts ≡ Some w → ¬ (named r.form ≡ Some k)
trail_unnamed r w k e = by r.form e
  where
    by : (form : Form) → trail_of form r.parts ≡ Some w → ¬ (named form ≡ Some k)
    by f.Seq e g = absurd (cc)
    by f.If e g = absurd (cc)
    by form e g = absurd (cc)

module _ (rows : List Row) (ranks : List (Option ℕ)) (end : ℕ) (pasts : List ℕ) (fw : IsForward rows) (p : ArePasts rows end pasts) where
  asked_same : (k j : NameId) (n : NodeId) → ((r : Row) → slice_get rows n.0 ≡ Some r → ¬ (named r.form ≡ Some k)) → ((r : Row) → slice_get rows n.0 ≡ Some r → ¬ (named r.form ≡ Some j)) → asked rows None ranks (Field k) n ≡ asked rows None ranks (Field j) n
  asked_same k j n a b = rank_same (Field k) (Field j) (slice_get ranks n.0) (slice_get rows n.0) (λ r is. reads_same r.form k j (a r is) (b r is))

  module _ (k j : NameId) (low m : ℕ) (a : IsClearFrom rows k low m) (b : IsClearFrom rows j low m) where
    abbrev touched : NodeId → Bool
    touched n = nat_lt n.0 low || nat_lt m (past (length rows) end pasts n.0)

    reaches : (n : NodeId) → touched n ≡ false → (low ≤ n.0) × (past (length rows) end pasts n.0 ≤ m)
    reaches n off = by (nat_lt n.0 low) refl off
      where
        by : (t : Bool) → nat_lt n.0 low ≡ t → (t || nat_lt m (past (length rows) end pasts n.0)) ≡ false → (low ≤ n.0) × (past (length rows) end pasts n.0 ≤ m)
        by true e h = absurd (cc)
        by false e h = (ltb-false n.0 low e, ltb-false m (past (length rows) end pasts n.0) h)

    untouched : (n : NodeId) → low ≤ n.0 → past (length rows) end pasts n.0 ≤ m → touched n ≡ false
    untouched n from le = ap (λ (t : Bool). t || nat_lt m (past (length rows) end pasts n.0)) (le-ltb n.0 low from) ∙ le-ltb m (past (length rows) end pasts n.0) le

    off_at : (v : NameId) → IsClearFrom rows v low m → (n : NodeId) (r : Row) → IsRow rows n r → touched n ≡ false → ¬ (named r.form ≡ Some v)
    off_at v c n r is off = let w = reaches n off in let u = p.own n.0 (slice_get_within rows n.0 r is) in let le = w.1 in c n.0 r w.0 (omega (arith, u, le)) is

    part_off : (n c : NodeId) (i : ℕ) (r : Row) → IsRow rows n r → slice_get r.parts i ≡ Some c → touched n ≡ false → touched c ≡ false
    part_off n c i r is e off =
        let w = reaches n off in let from = w.0 in let le = w.1 in let u = p.parts n c i r is e in let later = (fw.parts n c i r is e).later in
        untouched c (omega (arith, from, later)) (omega (arith, u, le))

    are_alike : AreAlike rows touched (asked rows None ranks (Field k)) (asked rows None ranks (Field j)) (Field k) (Field j)
    are_alike = record {
      heads = λ n c i r is h off. part_off n c i r is (head_part r i c h) off;
      lasts = λ n c r is h off. part_off n c (length r.parts - 1) r is h off;
      ranks = λ n off. asked_same k j n (λ r is. off_at k a n r is off) (λ r is. off_at j b n r is off);
      assigned = λ n r is off. sets_none r.form k (off_at k a n r is off) ∙ sym (sets_none r.form j (off_at j b n r is off));
    }

    pub same_reach : (n : NodeId) → low ≤ n.0 → past (length rows) end pasts n.0 ≤ m → field_reach rows ranks k n ≡ field_reach rows ranks j n
    same_reach n from le = alike rows touched (asked rows None ranks (Field k)) (asked rows None ranks (Field j)) (Field k) (Field j) are_alike n (untouched n from le)

  at_trail : (n : NodeId) (w : Trail) (k : NameId) → trail_in (slice_get rows n.0) ≡ Some w → (r : Row) → slice_get rows n.0 ≡ Some r → ¬ (named r.form ≡ Some k)
  at_trail n w k e r is = trail_unnamed r w k (ap trail_in (sym is) ∙ e)

  pub advances : (z : NameId) (body : NodeId) (s : Step) (w : Trail) (first : Outs) → trail_in (slice_get rows s.at.0) ≡ Some w → w.branch ≡ None → first ≡ field_reach rows ranks z w.first → goes_on first ≡ true → IsStep rows ranks z body s → IsStep rows ranks z body (advanced rows end pasts ranks z s w first)
  advances z body s w first e plain is on h = record { later = omega (arith, from, rest); plain = λ g. absurd (cc); same = same }
    where
      bound : ℕ
      bound = higher s.past (past (length rows) end pasts w.first.0)

      from : body.0 ≤ s.at.0
      from = h.later

      far : IsBehind rows s.at w.first × IsBehind rows s.at w.rest × ((a : NodeId) → w.branch ≡ Some a → IsBehind rows s.at a)
      far = trail_later rows (asked rows None ranks (Field z)) (Field z) fw s.at w e

      rest : s.at.0 < w.rest.0
      rest = far.1.later

      begin : s.at.0 < w.first.0
      begin = far.0.later

      same : (k : NameId) → IsClearFrom rows k body.0 bound → IsClearFrom rows z body.0 bound → field_reach rows ranks k body ≡ finished true (join s.all (decided (asked rows None ranks (Field z) s.at) first)) (field_reach rows ranks k w.rest)
      same k a b =
          let one : first ≡ field_reach rows ranks k w.first = is ∙ sym (same_reach k z body.0 bound a b w.first (omega (arith, from, begin)) (higher_right s.past (past (length rows) end pasts w.first.0))) in
          let less = higher_left s.past (past (length rows) end pasts w.first.0) in
          let rank = asked_same z k s.at (at_trail s.at w z e) (at_trail s.at w k e) in
          let l = ap (λ (v : Option ℕ). decided v first) rank ∙ sym (ap (λ (v : Option NodeId). led (asked rows None ranks (Field k) s.at) (field_reach rows ranks k) first v) plain) in
          trail_on rows (asked rows None ranks (Field k)) (Field k) fw s.inside s.all first (field_reach rows ranks k body)
          (decided (asked rows None ranks (Field z) s.at) first) (join s.all (decided (asked rows None ranks (Field z) s.at) first)) s.at w
          e one (h.same k (clear_less rows k body.0 s.past bound less a) (clear_less rows z body.0 s.past bound less b)) (ap (leads_on first) plain ∙ on) h.plain l refl

pub plain_none : (b : Option NodeId) → is_plain b ≡ true → b ≡ None
plain_none None e = refl
plain_none (Some a) e = absurd (cc)

pub all_more : (P : Step → Type 0) (xs ys : List Step) (s : Step) → xs ≡ ys ++ s ∷ [] → All P ys → P s → All P xs
all_more P xs ys s e h is = subst (All P) (sym e) (All-push P ys s h is)

pub first_step : (rows : List Row) (ranks : List (Option ℕ)) (z : NameId) (body : NodeId) (s : Step) → s.at ≡ body → s.all ≡ none → s.inside ≡ false → IsStep rows ranks z body s
first_step rows ranks z body s at all inside = record {
  later = let e = ap (λ (n : NodeId). n.0) at in omega (arith, e);
  plain = λ g. all;
  same = λ k a b. ap (field_reach rows ranks k) (sym at) ∙ sym (ap (λ (v : Bool). finished v s.all (field_reach rows ranks k s.at)) inside);
}
