-- Members of lists, and tests of them.
use Rattle.std.proofs.Common.{◌≡◌, ℕ, zero, suc, ◌+◌, ◌<◌, ◌≤◌, ◌⊎◌, inl, inr, Bool, true, false, eqb, List, [], ◌∷◌, ◌++◌, length, Option, Some, None, Contains, refl, sym, ap, ◌∙◌, subst, arith, eqb-true, eq-eqb, IsTrue, rules}
use Rattle.std.specs.Prelude.{slice_get, ◌||◌, ◌&&◌}
use Rattle.std.proofs.lemmas.Option.{slice_get_within, get_or_from_slice_get}
use Rattle.cr_base.specs.declared.ids.ClassId.{ClassId}
use Rattle.cr_ancestors.specs.Line.{has}

-- ---- tests

pub bool_cases : (b : Bool) → (b ≡ true) ⊎ (b ≡ false)
bool_cases true = inl refl
bool_cases false = inr refl

pub or_left : (a b : Bool) → a ≡ true → (a || b) ≡ true
or_left true b e = refl
or_left false b e = absurd cc

pub or_right : (a b : Bool) → b ≡ true → (a || b) ≡ true
or_right true b e = refl
or_right false b e = e

pub or_from : (a b : Bool) → (a || b) ≡ true → (a ≡ true) ⊎ (b ≡ true)
or_from true b e = inl refl
or_from false b e = inr e

pub or_none : (a b : Bool) → (a || b) ≡ false → (a ≡ false) × (b ≡ false)
or_none true b e = absurd cc
or_none false b e = (refl, e)

pub and_from : (a b : Bool) → (a && b) ≡ true → (a ≡ true) × (b ≡ true)
and_from true b e = (refl, e)
and_from false b e = absurd cc

pub and_none : (a b : Bool) → (a && b) ≡ false → a ≡ true → b ≡ false
and_none true b e t = e
and_none false b e t = absurd cc

-- ---- members

module _ {X : Type 0} where
  pub none_in : (x : X) → Contains [] x → ⊥
  none_in x (k, within, e) = omega arith

  pub in_head : (x : X) (xs : List X) → Contains (x ∷ xs) x
  in_head x xs = (0, omega arith, refl)

  pub in_tail : (x y : X) (xs : List X) → Contains xs y → Contains (x ∷ xs) y
  in_tail x y xs (k, within, e) = (suc k, omega arith, e)

  pub in_cases : (x y : X) (xs : List X) → Contains (x ∷ xs) y → (x ≡ y) ⊎ Contains xs y
  in_cases x y xs (zero, within, e) = inl e
  in_cases x y xs (suc k, within, e) = inr (k, omega arith, e)

  pub in_at : (xs : List X) (k : ℕ) (x : X) → slice_get xs k ≡ Some x → Contains xs x
  in_at xs k x e = (k, slice_get_within xs k x e, get_or_from_slice_get xs k x x e)

pub class_same : (a b : ClassId) → a.0 ≡ b.0 → a ≡ b
class_same a b e = λ i. record { 0 = e i }

pub has_from : (xs : List ClassId) (x : ClassId) → Contains xs x → has xs x ≡ true
has_from [] x h = absurd (none_in x h)
has_from (y ∷ xs) x h = elim (in_cases y x xs h) [
  | inl e ↦ or_left (eqb y.0 x.0) (has xs x) (eq-eqb y.0 x.0 (ap (λ (c : ClassId). c.0) e))
  | inr more ↦ or_right (eqb y.0 x.0) (has xs x) (has_from xs x more)
]

pub contains_from : (xs : List ClassId) (x : ClassId) → has xs x ≡ true → Contains xs x
contains_from [] x h = absurd cc
contains_from (y ∷ xs) x h = elim (or_from (eqb y.0 x.0) (has xs x) h) [
  | inl e ↦ subst (Contains (y ∷ xs)) (class_same y x (eqb-true y.0 x.0 e)) (in_head y xs)
  | inr more ↦ in_tail y x xs (contains_from xs x more)
]

pub is_true : (b : Bool) → b ≡ true → IsTrue b
is_true true e = search rules
is_true false e = absurd cc

pub from_true : (b : Bool) → IsTrue b → b ≡ true
from_true true h = refl
from_true false h = absurd (search rules)
