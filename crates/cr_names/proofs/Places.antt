-- First places in lists.
use Rattle.std.proofs.Common.{◌≡◌, ℕ, zero, suc, ◌+◌, ◌<◌, Bool, true, false, cond, ltb, List, [], ◌∷◌, ◌++◌, length, map, take, Option, Some, None, refl, ap, ◌∙◌, add-one, arith}
use Rattle.std.specs.Prelude.{not, slice_get}
use Rattle.std.specs.List.{position, position_or_len, prefix_len, position_from}
use borrow.Author.Tests.{ltb-true}
use Rattle.std.proofs.lemmas.List.{length-map, map-append}
use Rattle.std.proofs.lemmas.Option.{same_Some}

prefix_len_map : {A B : Type 0} (f : A → B) (q : B → Bool) (xs : List A) → prefix_len (λ x. q (f x)) xs ≡ prefix_len q (map f xs)
prefix_len_map f q [] = refl
prefix_len_map f q (x ∷ xs) = ap (λ (n : ℕ). cond (q (f x)) (1 + n) 0) (prefix_len_map f q xs)

-- where what is made of an item passes
pub position_map : {A B : Type 0} (f : A → B) (p : B → Bool) (xs : List A) → position (λ x. p (f x)) xs ≡ position p (map f xs)
position_map f p xs = cc (prefix_len_map f (λ y. not (p y)) xs, length-map xs f)

take_next : {A : Type 0} (xs : List A) (n : ℕ) (x : A) → slice_get xs n ≡ Some x → take (suc n) xs ≡ take n xs ++ x ∷ []
take_next [] n x e = absurd cc
take_next (y ∷ xs) zero x e = ap (λ z. z ∷ []) (same_Some y x e)
take_next (y ∷ xs) (suc n) x e = ap (λ zs. y ∷ zs) (take_next xs n x e)

-- what is made of one item more
pub map_next : {A B : Type 0} (f : A → B) (xs : List A) (n : ℕ) (x : A) → slice_get xs n ≡ Some x → map f (take (n + 1) xs) ≡ map f (take n xs) ++ f x ∷ []
map_next f xs n x e = ap (λ (k : ℕ). map f (take k xs)) (add-one n) ∙ ap (map f) (take_next xs n x e) ∙ map-append f (take n xs) (x ∷ [])

low_or : (b : Bool) (m n count : ℕ) → ltb m count ≡ b → cond b (Some m) None ≡ Some n → n < count
low_or true m n count low e = let same = same_Some m n e in let below = ltb-true m count low in omega (arith, same, below)
low_or false m n count low e = absurd cc

-- a first place is one of the list
pub position_low : {A : Type 0} (p : A → Bool) (xs : List A) (n : ℕ) → position p xs ≡ Some n → n < length xs
position_low p xs n e = low_or (ltb (position_or_len p xs) (length xs)) (position_or_len p xs) n (length xs) refl e

from_low : (b : Bool) (m n count : ℕ) (rest : Option ℕ) → (rest ≡ Some n → n < m + 1 + count) → cond b (Some m) rest ≡ Some n → n < m + suc count
from_low true m n count rest later e = let same = same_Some m n e in omega (arith, same)
from_low false m n count rest later e = let low = later e in omega (arith, low)

pub position_from_low : {A : Type 0} (p : A → Bool) (xs : List A) (m n : ℕ) → position_from p m xs ≡ Some n → n < m + length xs
position_from_low p [] m n e = absurd cc
position_from_low p (x ∷ xs) m n e = from_low (p x) m n (length xs) (position_from p (m + 1) xs) (position_from_low p xs (m + 1) n) e
