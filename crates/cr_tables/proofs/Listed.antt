-- Members of lists, and tests over them.
use Rattle.std.proofs.Common.{◌≡◌, ℕ, zero, suc, ◌+◌, ◌<◌, ◌≤◌, ◌⊎◌, inl, inr, Bool, true, false, not, ◌&&◌, cond, List, [], ◌∷◌, map, Some, refl, sym, ap, ◌∙◌, subst, arith}
use Rattle.std.specs.Prelude.{slice_get, filter, find, ◌||◌}
use Rattle.std.specs.List.{list_all, range_with_len}
use Rattle.std.proofs.lemmas.Bool.{cases_lt}
use Rattle.std.proofs.lemmas.Option.{same_Some}
use Rattle.cr_base.specs.declared.ids.ClassId.{ClassId}
use Rattle.cr_tables.specs.Numbers.{class_id, first_classes}

-- ---- tests

pub and_from : (a b : Bool) → (a && b) ≡ true → (a ≡ true) × (b ≡ true)
and_from true b e = (refl, e)
and_from false b e = absurd cc

pub and_both : (a b : Bool) → a ≡ true → b ≡ true → (a && b) ≡ true
and_both true b e f = f
and_both false b e f = absurd cc

pub not_false : (a : Bool) → a ≡ false → not a ≡ true
not_false true e = absurd cc
not_false false e = refl

pub from_not : (a : Bool) → not a ≡ true → a ≡ false
from_not true e = absurd cc
from_not false e = refl

pub implied : (a b : Bool) → (not a || b) ≡ true → a ≡ true → b ≡ true
implied true b e t = e
implied false b e t = absurd cc

pub implies : (a b : Bool) → (a ≡ true → b ≡ true) → (not a || b) ≡ true
implies true b h = h refl
implies false b h = refl

-- ---- members

abbrev pub In : {X : Type 0} → X → List X → Type 0
In x [] = ⊥
In x (y ∷ ys) = (y ≡ x) ⊎ In x ys

module _ {X : Type 0} where
  pub in_at : (xs : List X) (k : ℕ) (x : X) → slice_get xs k ≡ Some x → In x xs
  in_at [] k x e = absurd cc
  in_at (y ∷ xs) zero x e = inl (same_Some y x e)
  in_at (y ∷ xs) (suc k) x e = inr (in_at xs k x e)

  pub place_in : (xs : List X) (x : X) → In x xs → (k : ℕ) × (slice_get xs k ≡ Some x)
  place_in [] x m = absurd m
  place_in (y ∷ xs) x (inl e) = (zero, ap Some e)
  place_in (y ∷ xs) x (inr m) = let p = place_in xs x m in (suc p.0, p.1)

  pub in_filter : (p : X → Bool) (xs : List X) (x : X) → In x xs → p x ≡ true → In x (filter p xs)
  in_filter p [] x m h = absurd m
  in_filter p (y ∷ ys) x (inl e) h =
      let t : p y ≡ true = ap p e ∙ h in
      subst (λ (b : Bool). In x (cond b (y ∷ filter p ys) (filter p ys))) (sym t) (inl e)
  in_filter p (y ∷ ys) x (inr m) h = by (p y) (in_filter p ys x m h)
    where
      by : (b : Bool) → In x (filter p ys) → In x (cond b (y ∷ filter p ys) (filter p ys))
      by true more = inr more
      by false more = more

  pub from_filter : (p : X → Bool) (xs : List X) (x : X) → In x (filter p xs) → (p x ≡ true) × In x xs
  from_filter p [] x m = absurd m
  from_filter p (y ∷ ys) x m = by (p y) refl (λ l. from_filter p ys x l) m
    where
      by : (b : Bool) → p y ≡ b → (In x (filter p ys) → (p x ≡ true) × In x ys) → In x (cond b (y ∷ filter p ys) (filter p ys)) → (p x ≡ true) × In x (y ∷ ys)
      by true e more (inl s) = (ap p (sym s) ∙ e, inl s)
      by true e more (inr l) = let r = more l in (r.0, inr r.1)
      by false e more l = let r = more l in (r.0, inr r.1)

  pub all_in : (p : X → Bool) (xs : List X) → ((x : X) → In x xs → p x ≡ true) → list_all p xs ≡ true
  all_in p [] h = refl
  all_in p (y ∷ ys) h = and_both (p y) (list_all p ys) (h y (inl refl)) (all_in p ys (λ x m. h x (inr m)))

  pub all_at : (p : X → Bool) (xs : List X) (x : X) → list_all p xs ≡ true → In x xs → p x ≡ true
  all_at p [] x e m = absurd m
  all_at p (y ∷ ys) x e (inl s) = ap p (sym s) ∙ (and_from (p y) (list_all p ys) e).0
  all_at p (y ∷ ys) x e (inr m) = all_at p ys x (and_from (p y) (list_all p ys) e).1 m

  pub find_one : (p : X → Bool) (xs : List X) (x : X) → In x xs → p x ≡ true → ((y : X) → In y xs → p y ≡ true → y ≡ x) → find p xs ≡ Some x
  find_one p [] x m h only = absurd m
  find_one p (y ∷ ys) x m h only = by (p y) refl (λ l. find_one p ys x l h (λ z k f. only z (inr k) f)) m
    where
      by : (b : Bool) → p y ≡ b → (In x ys → find p ys ≡ Some x) → In x (y ∷ ys) → cond b (Some y) (find p ys) ≡ Some x
      by true e more l = ap Some (only y (inl refl) e)
      by false e more (inl s) = let t : p y ≡ true = ap p s ∙ h in absurd cc
      by false e more (inr l) = more l

  pub filter_none : (p : X → Bool) (xs : List X) → ((x : X) → In x xs → p x ≡ true → ⊥) → filter p xs ≡ []
  filter_none p [] h = refl
  filter_none p (y ∷ ys) h = by (p y) refl (filter_none p ys (λ x m f. h x (inr m) f))
    where
      by : (b : Bool) → p y ≡ b → filter p ys ≡ [] → cond b (y ∷ filter p ys) (filter p ys) ≡ []
      by true e more = absurd (h y (inl refl) e)
      by false e more = more

-- ---- so many classes

in_range : (n a : ℕ) (class : ClassId) → a ≤ class.0 → class.0 < a + n → In class (map class_id (range_with_len a n))
in_range zero a class low high = absurd (omega (arith, low, high))
in_range (suc n) a class low high =
    elim (cases_lt a class.0) [
      | inl less ↦ inr (in_range n (a + 1) class (omega (arith, less)) (omega (arith, high)))
      | inr same ↦ let e : a ≡ class.0 = omega (arith, low, same) in inl (λ i. record { 0 = e i })
    ]

pub in_first : (k : ℕ) (class : ClassId) → class.0 < k → In class (first_classes k)
in_first k class low = in_range k 0 class (omega arith) (omega (arith, low))

from_range : (n a : ℕ) (class : ClassId) → In class (map class_id (range_with_len a n)) → class.0 < a + n
from_range zero a class m = absurd m
from_range (suc n) a class (inl e) = let s : a ≡ class.0 = ap (λ (c : ClassId). c.0) e in omega (arith, s)
from_range (suc n) a class (inr m) = let l = from_range n (a + 1) class m in omega (arith, l)

pub from_first : (k : ℕ) (class : ClassId) → In class (first_classes k) → class.0 < k
from_first k class m = let l = from_range k 0 class m in omega (arith, l)
