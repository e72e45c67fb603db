-- A key that is looked for in a list, by a test that only equal keys pass.
use Rattle.std.proofs.Common.{◌≡◌, ◌≢◌, ℕ, suc, ◌+◌, ◌<◌, ◌≤◌, Bool, true, false, cond, not, ◌||◌, nat_lt, List, [], ◌∷◌, ◌++◌, length, Option, Some, None, is_some, slice_get, Contains, position, get_or, AllPairs, refl, sym, ap, subst, ◌∙◌, true≢false, arith}
use Rattle.std.proofs.lemmas.Bool.Decides.{nat_tests}
use Rattle.std.specs.Cmp.{IsEquivalence}
use Rattle.std.specs.List.{list_any, position_or_len, IsDistinct}
use Rattle.std.proofs.lemmas.List.Elements.{All-weaker, All-from_recursion}
use Rattle.std.proofs.lemmas.List.Kept.{AllPairs-cons}
use Rattle.std.proofs.lemmas.List.Quantifiers.{position-Some}
use Rattle.std.proofs.lemmas.Map.Views.{list_any-from_Contains}
use Rattle.std.proofs.lemmas.Option.{slice_get-get_or}
use Rattle.indexmap.specs.IndexMap.{IndexMap, keys, get, insert_entry}
use Rattle.indexmap.proofs.CallerLemmas.{insert_entry-new}

module _ {K : Type 0} {eq : K → K → Bool} (same : (x y : K) → eq x y ≡ true → x ≡ y) where
  pub found_at : (ks : List K) (k : K) (n : ℕ) → Some n ≡ position (eq k) ks → slice_get ks n ≡ Some k
  found_at ks k n e = let p = position-Some (eq k) ks n k (sym e) in slice_get-get_or ks n k p.0 ∙ ap Some (sym (same k (get_or ks n k) p.1))

  pub contained : (ks : List K) (k : K) (n : ℕ) → Some n ≡ position (eq k) ks → Contains ks k
  contained ks k n e = let p = position-Some (eq k) ks n k (sym e) in (n, p.0, sym (same k (get_or ks n k) p.1))

below_none : {K : Type 0} (p : K → Bool) (ks : List K) → None ≡ position p ks → length ks ≤ position_or_len p ks
below_none p ks e = by_test (nat_lt (position_or_len p ks) (length ks)) refl (sym e)
  where
    by_test : (b : Bool) → nat_lt (position_or_len p ks) (length ks) ≡ b → cond b (Some (position_or_len p ks)) None ≡ None → length ks ≤ position_or_len p ks
    by_test true is none = absurd (true≢false (ap is_some none))
    by_test false is none = grind (arith, nat_tests)

none_passes : {K : Type 0} (p : K → Bool) (ks : List K) → length ks ≤ position_or_len p ks → false ≡ list_any p ks
none_passes p [] h = refl
none_passes p (k ∷ ks) h = by_test (p k) h (none_passes p ks)
  where
    by_test : (b : Bool) → suc (length ks) ≤ cond (not b) (1 + position_or_len p ks) 0 → (length ks ≤ position_or_len p ks → false ≡ list_any p ks) → false ≡ (b || list_any p ks)
    by_test true least rest = absurd (omega arith)
    by_test false least rest = rest (omega arith)

module _ {K : Type 0} {eq : K → K → Bool} (laws : IsEquivalence eq) where
  pub absent : (ks : List K) (k : K) → None ≡ position (eq k) ks → Contains ks k → ⊥
  absent ks k e h = true≢false (sym (list_any-from_Contains laws k ks h) ∙ sym (none_passes (eq k) ks (below_none (eq k) ks e)))

none_is : {X : Type 0} (o : Option X) → false ≡ is_some o → o ≡ None
none_is None e = refl
none_is (Some x) e = absurd (true≢false (sym e))

module _ {K X S : Type 0} (eq : K → K → Bool) where
  pub put_last : (old : IndexMap K X S) (new : List (K × X)) (k : K) (v : X) → new ≡ insert_entry eq old.entries k v → false ≡ is_some (get eq old k) → new ≡ old.entries ++ (k, v) ∷ []
  put_last old new k v e none = e ∙ insert_entry-new eq old k v (none_is (get eq old k) none)

  pub last_place : (old : IndexMap K X S) (k : K) (place : ℕ) → None ≡ position (eq k) (keys old) → place ≡ position_or_len (eq k) (keys old) → place < length (keys old) + 1 → place ≡ length (keys old)
  last_place old k place none is within = omega (arith, below_none (eq k) (keys old) none)

-- no two keys of a map are equal
module _ {K : Type 0} {eq : K → K → Bool} (laws : IsEquivalence eq) where
  other_key : (k j : K) → eq k j ≡ false → k ≢ j
  other_key k j e is = true≢false (sym (subst (λ (x : K). eq k x ≡ true) is (laws.refl k)) ∙ e)

  pub apart : (ks : List K) → IsDistinct eq ks → AllPairs (λ a b. a ≢ b) ks
  unfolding IsDistinct
  apart [] h = λ i j d lt within. absurd (omega arith)
  apart (k ∷ ks) h = AllPairs-cons (λ (a b : K). a ≢ b) k ks
      (All-weaker (λ b. eq k b ≡ false) (λ b. k ≢ b) (other_key k) ks (All-from_recursion (λ b. eq k b ≡ false) ks h.0)) (apart ks h.1)
