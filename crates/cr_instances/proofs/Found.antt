-- A key that is looked for in a list, by a test that only equal keys pass.
use Rattle.std.proofs.Common.{◌≡◌, ◌≢◌, ℕ, Bool, true, false, cond, List, [], ◌∷◌, ◌++◌, Some, slice_get, Contains, position, get_or, AllPairs, refl, sym, ap, subst, ◌∙◌, true≢false, arith}
use Rattle.std.specs.Cmp.{IsEquivalence}
use Rattle.std.specs.List.{list_any, IsDistinct}
use Rattle.std.proofs.lemmas.List.Elements.{All-weaker, All-from_recursion}
use Rattle.std.proofs.lemmas.List.Kept.{AllPairs-cons}
use Rattle.std.proofs.lemmas.List.Quantifiers.{position-Some}
use Rattle.std.proofs.lemmas.Map.Views.{list_any-from_Contains, Contains-from_any}
use Rattle.std.proofs.lemmas.Option.{slice_get-get_or}
use Rattle.indexmap.specs.IndexSet.{insert_key}

module _ {K : Type 0} {eq : K → K → Bool} (same : (x y : K) → eq x y ≡ true → x ≡ y) where
  pub found_at : (ks : List K) (k : K) (n : ℕ) → Some n ≡ position (eq k) ks → slice_get ks n ≡ Some k
  found_at ks k n e = let p = position-Some (eq k) ks n k (sym e) in slice_get-get_or ks n k p.0 ∙ ap Some (sym (same k (get_or ks n k) p.1))

  pub found : (ks : List K) (k : K) → true ≡ list_any (eq k) ks → Contains ks k
  found ks k e = Contains-from_any same k ks (sym e)

  pub stands : (ks : List K) (k : K) (n : ℕ) → (j : K) × (slice_get ks n ≡ Some j) × (eq k j ≡ true) → slice_get ks n ≡ Some k
  stands ks k n (j, is, e) = is ∙ ap Some (sym (same k j e))

module _ {K : Type 0} {eq : K → K → Bool} (laws : IsEquivalence eq) where
  pub absent : (ks : List K) (k : K) → false ≡ list_any (eq k) ks → Contains ks k → ⊥
  absent ks k e h = true≢false (sym (list_any-from_Contains laws k ks h) ∙ sym e)

module _ {K : Type 0} {eq : K → K → Bool} (same : (x y : K) → eq x y ≡ true → x ≡ y) where
  pub put_last : (ks : List K) (k : K) → (Contains ks k → ⊥) → insert_key eq ks k ≡ ks ++ k ∷ []
  put_last ks k none = by_test (list_any (eq k) ks) refl
    where
      by_test : (b : Bool) → list_any (eq k) ks ≡ b → cond b ks (ks ++ k ∷ []) ≡ ks ++ k ∷ []
      by_test true e = absurd (none (found same ks k (sym e)))
      by_test false e = refl

-- no two keys of a set are equal
module _ {K : Type 0} {eq : K → K → Bool} (laws : IsEquivalence eq) where
  other_key : (k j : K) → eq k j ≡ false → k ≢ j
  other_key k j e is = true≢false (sym (subst (λ (x : K). eq k x ≡ true) is (laws.refl k)) ∙ e)

  pub apart : (ks : List K) → IsDistinct eq ks → AllPairs (λ a b. a ≢ b) ks
  unfolding IsDistinct
  apart [] h = λ i j d lt within. absurd (omega arith)
  apart (k ∷ ks) h = AllPairs-cons (λ (a b : K). a ≢ b) k ks
      (All-weaker (λ b. eq k b ≡ false) (λ b. k ≢ b) (other_key k) ks (All-from_recursion (λ b. eq k b ≡ false) ks h.0)) (apart ks h.1)
