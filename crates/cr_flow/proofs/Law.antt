-- The answer is exact.
use Rattle.std.proofs.Common.{◌≡◌, ◌↔◌, ◌⊎◌, inl, inr, ⊎_elim, ℕ, ◌<◌, ◌≤◌, arith, List, [], Bool, true, false, IsTrue, Option, Some, None, refl, sym, ap, ◌∙◌, subst, rules}
use Rattle.std.specs.Prelude.{not, slice_get, ◌==◌, if◌then◌else◌}
use Rattle.std.proofs.lemmas.Option.{same_Some}
use Rattle.std.proofs.lemmas.Bool.{eq-eqb, eqb-true}
use Rattle.cr_base.specs.declared.ids.NodeId.{NodeId}
use Rattle.cr_core.specs.declared.form.ScopeId.{ScopeId}
use Rattle.cr_core.specs.declared.scope.Scope.{Scope}
use Rattle.cr_core.specs.Tree.{Contents, IsCore}
use Rattle.cr_flow.specs.declared.variable.Variable.{Variable}
use Rattle.cr_flow.specs.Ways.{Point, Acts, End, IsSetBefore}
use Rattle.cr_flow.specs.Assigned.{is_parameter, IsAssigned}
use Rattle.cr_flow.specs.Uses.{rank, asked, IsFirstUse}
use Rattle.cr_flow.specs.Outs.{reach, reaches_end}
use Rattle.cr_flow.proofs.Exits.{within, within_own, within_off, within_on}
use Rattle.cr_flow.proofs.Parts.{lt-or-le, not_both, node_same}
use Rattle.cr_flow.proofs.Body.{body_of}
use Rattle.cr_flow.proofs.Visited.{no_way, no_way_end}
use Rattle.cr_flow.proofs.Walked.{found_bare, not_ended}

-- A test that is the negation of another.
pub exactly_not : (b : Bool) (A : Type 0) → (b ≡ false → A) → (A → b ≡ true → ⊥) → IsTrue (not b) ↔ A
exactly_not true A f g = ((λ h. search rules), λ a. absurd (g a refl))
exactly_not false A f g = ((λ h. f refl), λ a. search rules)

pub exactly_false : (b : Bool) (A : Type 0) → b ≡ false → ¬ A → IsTrue b ↔ A
exactly_false true A e n = absurd (cc)
exactly_false false A e n = ((λ h. search rules), λ a. absurd (n a))

pub exactly_end : (b : Bool) (A : Type 0) → IsTrue (not b) ↔ A → IsTrue b ↔ ¬ A
exactly_end true A h = ((λ i a. search (rules, h.1 a)), λ n. search rules)
exactly_end false A h = ((λ i. search rules), λ n. absurd (n (h.0 (search rules))))

pub exactly_true : (b : Bool) (A : Type 0) → b ≡ true → A → IsTrue b ↔ A
exactly_true true A e a = ((λ h. a), λ h. search rules)
exactly_true false A e a = absurd (cc)

module _ (t : Contents) (scope : ScopeId) (x : Variable) (s : Scope) (e : slice_get t.scopes scope.0 ≡ Some s) where
  of_scope : (p : Point) → (is_parameter scope s.parameters x ≡ true) ⊎ IsSetBefore t.rows scope s.body x p → IsAssigned t scope x p
  of_scope p h = λ v at. subst (λ (q : Scope). (is_parameter scope q.parameters x ≡ true) ⊎ IsSetBefore t.rows scope q.body x p) (same_Some s v (sym e ∙ at)) h

  pub of_parameter : (p : Point) → is_parameter scope s.parameters x ≡ true → IsAssigned t scope x p
  of_parameter p h = of_scope p (inl h)

  not_parameter : (p : Point) → is_parameter scope s.parameters x ≡ false → IsAssigned t scope x p → IsSetBefore t.rows scope s.body x p
  not_parameter p off all = ⊎_elim (λ (h : is_parameter scope s.parameters x ≡ true). absurd (not_both (is_parameter scope s.parameters x) h off)) (λ (h : IsSetBefore t.rows scope s.body x p). h) (all s e)

  module _ (core : IsCore t) (off : is_parameter scope s.parameters x ≡ false) where
    -- where no use of at most its rank is found, a node's variable is assigned before it
    unfound : (rank : NodeId → Option ℕ) (n : NodeId) (j : ℕ) → rank n ≡ Some j → within j (reach t.rows rank x s.body).found ≡ false → IsAssigned t scope x (Acts n)
    unfound rank n j g f = of_scope (Acts n) (inr (no_way t.rows core.arena rank x scope s.body (body_of t core scope s e) n j g f))

    found : (rank : NodeId → Option ℕ) (j : ℕ) → within j (reach t.rows rank x s.body).found ≡ true → (n : NodeId) × (within j (rank n) ≡ true) × ¬ (IsAssigned t scope x (Acts n))
    found rank j f = let w = found_bare t.rows core.arena rank x scope s.body (body_of t core scope s e) j f in (w.0, w.1, λ all. w.2 (not_parameter (Acts w.0) off all))

    pub before : (n : NodeId) → (reach t.rows (asked t.rows (Some n) [] x) x s.body).found ≡ None → IsAssigned t scope x (Acts n)
    before n f = unfound (asked t.rows (Some n) [] x) n 0 (is_own (n.0 == n.0) (eq-eqb n.0 n.0 refl)) (ap (within 0) f)
      where
        is_own : (b : Bool) → b ≡ true → (if b then Some 0 else rank t.rows [] x n) ≡ Some 0
        is_own true k = refl
        is_own false k = absurd (cc)

    pub not_before : (n : NodeId) (k : ℕ) → (reach t.rows (asked t.rows (Some n) [] x) x s.body).found ≡ Some k → ¬ (IsAssigned t scope x (Acts n))
    not_before n k f all =
        let w = found (asked t.rows (Some n) [] x) k (ap (within k) f ∙ within_own k) in
        let same : w.0 ≡ n = node_same w.0 n (by w.0 (w.0.0 == n.0) refl w.1) in
        w.2 (subst (λ (m : NodeId). IsAssigned t scope x (Acts m)) (sym same) all)
      where
        by : (m : NodeId) (b : Bool) → (m.0 == n.0) ≡ b → within k (if b then Some 0 else rank t.rows [] x m) ≡ true → m.0 ≡ n.0
        by m true g h = eqb-true m.0 n.0 g
        by m false g h = absurd (cc)

    pub first : (ranks : List (Option ℕ)) (o : Option ℕ) → o ≡ (reach t.rows (asked t.rows None ranks x) x s.body).found → IsFirstUse t scope x ranks o
    first ranks None k = λ n j g. unfound (asked t.rows None ranks x) n j g (ap (within j) (sym k))
    first ranks (Some v) k =
        let w = found (asked t.rows None ranks x) v (ap (within v) (sym k) ∙ within_own v) in
        record {
          node = w.0;
          ranked = by w.0 (rank t.rows ranks x w.0) refl w.1 w.2;
          bare = w.2;
          lower = lower;
        }
      where
        lower : (n : NodeId) (j : ℕ) → rank t.rows ranks x n ≡ Some j → j < v → IsAssigned t scope x (Acts n)
        lower n j g lt = unfound (asked t.rows None ranks x) n j g (ap (within j) (sym k) ∙ within_off j v lt)

        by : (n : NodeId) (r : Option ℕ) → rank t.rows ranks x n ≡ r → within v r ≡ true → ¬ (IsAssigned t scope x (Acts n)) → rank t.rows ranks x n ≡ Some v
        by n None g h bare = absurd (cc)
        by n (Some j) g h bare =
            ⊎_elim (λ (lt : j < v). absurd (bare (lower n j g lt)))
            (λ (le : v ≤ j). let u = within_on v j h in let same : j ≡ v = omega (arith, le, u) in g ∙ ap Some same)
            (lt-or-le j v)

  pub at_end : (rank : NodeId → Option ℕ) → IsCore t → is_parameter scope s.parameters x ≡ false → IsTrue (not (reaches_end (reach t.rows rank x s.body))) ↔ IsAssigned t scope x End
  at_end rank core off =
      exactly_not (reaches_end (reach t.rows rank x s.body)) (IsAssigned t scope x End)
      (λ f. of_scope End (inr (no_way_end t.rows core.arena rank x scope s.body (body_of t core scope s e) f)))
      (λ all f. not_ended t.rows core.arena rank x scope s.body (body_of t core scope s e) (not_parameter End off all) f)
