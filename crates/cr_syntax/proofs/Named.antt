-- Names kept as other keys, by the bytes that each key shows.
use Rattle.std.proofs.Common.{◌≡◌, ℕ, ◌+◌, Bool, true, false, cond, not, ◌||◌, nat_lt, List, [], ◌∷◌, ◌++◌, length, Some, None, refl, sym, ap, ◌∙◌}
use Rattle.std.specs.Prelude.{map}
use Rattle.std.specs.List.{list_any, position, position_or_len, IsDistinct, AllByRecursion}
use Rattle.std.specs.Str.{bytes_eq}
use Rattle.cr_syntax.specs.Names.{name_place, with_name}

module _ {K : Type 0} (show : K → List ℕ) where
  any_of_keys : (p : List ℕ → Bool) (ks : List K) → list_any p (map show ks) ≡ list_any (λ k. p (show k)) ks
  any_of_keys p [] = refl
  any_of_keys p (k ∷ ks) = ap (λ (b : Bool). p (show k) || b) (any_of_keys p ks)

  place_of_key : (p : List ℕ → Bool) (ks : List K) → position_or_len p (map show ks) ≡ position_or_len (λ k. p (show k)) ks
  place_of_key p [] = refl
  place_of_key p (k ∷ ks) = ap (λ (n : ℕ). cond (not (p (show k))) (1 + n) 0) (place_of_key p ks)

  none_equal : (name : K) (ks : List K) → AllByRecursion (λ k. bytes_eq (show name) (show k) ≡ false) ks → AllByRecursion (λ text. bytes_eq (show name) text ≡ false) (map show ks)
  none_equal name [] h = h
  none_equal name (k ∷ ks) h = (h.0, none_equal name ks h.1)

  pub distinct_names : (ks : List K) → IsDistinct (λ j k. bytes_eq (show j) (show k)) ks → IsDistinct bytes_eq (map show ks)
  unfolding IsDistinct
  distinct_names [] h = h
  distinct_names (k ∷ ks) h = (none_equal k ks h.0, distinct_names ks h.1)

found_place : {K : Type 0} (p : K → Bool) (ks : List K) (n : ℕ) → position p ks ≡ Some n → position_or_len p ks ≡ n
found_place p ks n e = by_test (nat_lt (position_or_len p ks) (length ks)) e
  where
    by_test : (t : Bool) → cond t (Some (position_or_len p ks)) None ≡ Some n → position_or_len p ks ≡ n
    by_test true e = cc
    by_test false e = absurd cc

map_push : {K : Type 0} (show : K → List ℕ) (ks : List K) (key : K) → map show (ks ++ key ∷ []) ≡ map show ks ++ show key ∷ []
map_push show [] key = refl
map_push show (k ∷ ks) key = ap (λ (names : List (List ℕ)). show k ∷ names) (map_push show ks key)

-- a key that is there already
pub known_place : {K : Type 0} (show : K → List ℕ) (text : List ℕ) (ks : List K) (n : ℕ) → Some n ≡ position (λ k. bytes_eq text (show k)) ks → n ≡ name_place (map show ks) text
known_place show text ks n e = sym (place_of_key show (bytes_eq text) ks ∙ found_place (λ k. bytes_eq text (show k)) ks n (sym e))

pub known_names : {K : Type 0} (show : K → List ℕ) (text : List ℕ) (ks : List K) → true ≡ list_any (λ k. bytes_eq text (show k)) ks → map show ks ≡ with_name (map show ks) text
known_names show text ks e = let found : list_any (bytes_eq text) (map show ks) ≡ true = any_of_keys show (bytes_eq text) ks ∙ sym e in
    sym (ap (λ (b : Bool). cond b (map show ks) (map show ks ++ text ∷ [])) found)

-- a key that is put in
pub new_place : {K : Type 0} (show : K → List ℕ) (key : K) (text : List ℕ) (ks : List K) → show key ≡ text → position_or_len (λ k. bytes_eq (show key) (show k)) ks ≡ name_place (map show ks) text
new_place show key text ks is = sym (place_of_key show (bytes_eq (show key)) ks) ∙ ap (name_place (map show ks)) is

pub new_names : {K : Type 0} (show : K → List ℕ) (key : K) (text : List ℕ) (ks : List K) → show key ≡ text
    → map show (cond (list_any (λ k. bytes_eq (show key) (show k)) ks) ks (ks ++ key ∷ [])) ≡ with_name (map show ks) text
new_names show key text ks is = by_test (list_any (λ k. bytes_eq (show key) (show k)) ks) refl
    ∙ ap (λ (b : Bool). cond b (map show ks) (map show ks ++ show key ∷ [])) (sym (any_of_keys show (bytes_eq (show key)) ks))
    ∙ ap (with_name (map show ks)) is
  where
    by_test : (b : Bool) → list_any (λ k. bytes_eq (show key) (show k)) ks ≡ b → map show (cond b ks (ks ++ key ∷ [])) ≡ cond b (map show ks) (map show ks ++ show key ∷ [])
    by_test true e = refl
    by_test false e = map_push show ks key
