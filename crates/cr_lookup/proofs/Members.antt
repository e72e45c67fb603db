-- Listed classes by their places in the list, and what lists take.
use Rattle.std.proofs.Common.{◌≡◌, ℕ, zero, suc, ◌<◌, ◌≤◌, ◌⊎◌, inl, inr, Bool, true, false, eqb, nat_lt, List, [], ◌∷◌, length, get_or, Some, refl, sym, ap, ◌∙◌, subst, arith, eqb-true, eq-eqb, IsTrue, rules, ◌↔◌}
use Rattle.std.specs.Prelude.{slice_get, ◌||◌}
use Rattle.std.proofs.lemmas.Bool.Decides.{nat_tests}
use Rattle.std.proofs.lemmas.Option.{same_Some, get_or_from_slice_get}
use Rattle.cr_base.specs.declared.ids.ClassId.{ClassId}
use Rattle.cr_ancestors.specs.Line.{has}
use Rattle.cr_lookup.specs.declared.method.Takes.{Takes}
use Rattle.cr_lookup.specs.declared.method.Takes.TheVariants.{Any, Only}
use Rattle.cr_lookup.specs.Methods.{fits, IsWithin, Meets}

or_left : (a b : Bool) → a ≡ true → (a || b) ≡ true
or_left true b e = refl
or_left false b e = absurd cc

or_right : (a b : Bool) → b ≡ true → (a || b) ≡ true
or_right true b e = refl
or_right false b e = e

or_from : (a b : Bool) → (a || b) ≡ true → (a ≡ true) ⊎ (b ≡ true)
or_from true b e = inl refl
or_from false b e = inr e

pub class_same : (a b : ClassId) → a.0 ≡ b.0 → a ≡ b
class_same a b e = λ i. record { 0 = e i }

-- what stands in the list is listed
pub has_at : (xs : List ClassId) (k : ℕ) (x : ClassId) → slice_get xs k ≡ Some x → has xs x ≡ true
has_at [] k x e = absurd cc
has_at (y ∷ xs) zero x e = or_left (eqb y.0 x.0) (has xs x) (eq-eqb y.0 x.0 (ap (λ (c : ClassId). c.0) (same_Some y x e)))
has_at (y ∷ xs) (suc k) x e = or_right (eqb y.0 x.0) (has xs x) (has_at xs k x e)

pub record StandsAt (xs : List ClassId) (x : ClassId) : Type 0 where
  pub place : ℕ
  pub within : place < length xs
  pub there : slice_get xs place ≡ Some x

-- what is listed stands somewhere in the list
pub place_of : (xs : List ClassId) (x : ClassId) → has xs x ≡ true → StandsAt xs x
place_of [] x h = absurd cc
place_of (y ∷ xs) x h = elim (or_from (eqb y.0 x.0) (has xs x) h) [
  | inl e ↦ record { place = 0; within = omega arith; there = ap Some (class_same y x (eqb-true y.0 x.0 e)) }
  | inr more ↦
      let s = place_of xs x more in
      let low = s.within in
      record { place = suc s.place; within = omega (arith, low); there = s.there }
]

-- ---- tests

pub is_true : (b : Bool) → b ≡ true → IsTrue b
is_true true e = search rules
is_true false e = absurd cc

pub from_true : (b : Bool) → IsTrue b → b ≡ true
from_true true h = refl
from_true false h = absurd (search rules)

pub refuted : (b : Bool) → b ≡ false → IsTrue b → ⊥
refuted b e h = let t = from_true b h in cc

-- ---- what lists take

pub within_all : (k : ℕ) (list : List ClassId) (takes : Takes) →
    ((i : ℕ) (class : ClassId) → i < length list → slice_get list i ≡ Some class → class.0 < k → fits takes class ≡ true) →
    IsWithin k (Only list) takes
within_all k list takes h = λ class low q. let s = place_of list class q in h s.place class s.within s.there low

pub none_met : (k : ℕ) (list : List ClassId) (takes : Takes) →
    ((i : ℕ) (class : ClassId) → i < length list → slice_get list i ≡ Some class → class.0 < k → fits takes class ≡ true → ⊥) →
    Meets k (Only list) takes → ⊥
none_met k list takes h m = let s = place_of list m.class m.first in h s.place m.class s.within s.there m.within m.second

pub none_listed : (k : ℕ) (list : List ClassId) →
    ((i : ℕ) (class : ClassId) → i < length list → slice_get list i ≡ Some class → class.0 < k → ⊥) →
    Meets k Any (Only list) → ⊥
none_listed k list h m = let s = place_of list m.class m.second in h s.place m.class s.within s.there m.within

pub listed : (k : ℕ) (list : List ClassId) (i : ℕ) (class : ClassId) → slice_get list i ≡ Some class → class.0 < k → Meets k Any (Only list)
listed k list i class e low = record { class = class; within = low; first = refl; second = has_at list i class e }

-- the class that stands there is none of so many
pub past_class : (k : ℕ) (list : List ClassId) (i j : ℕ) (class none : ClassId) → i ≡ j → slice_get list i ≡ Some class → k ≤ (get_or list j none).0 → class.0 < k → ⊥
past_class k list i j class none at e high low =
    let same : get_or list j none ≡ class = get_or_from_slice_get list j class none (sym (ap (slice_get list) at) ∙ e) in
    let number : (get_or list j none).0 ≡ class.0 = ap (λ (c : ClassId). c.0) same in
    omega (arith, number, high, low)

pub some_class : (k : ℕ) (takes : Takes) → takes ≡ Any → IsTrue (nat_lt 0 k) ↔ Meets k Any takes
some_class k takes e = (
  λ t. let t' = from_true (nat_lt 0 k) t in record {
    class = record { 0 = 0 };
    within = grind (arith, nat_tests);
    first = refl;
    second = subst (λ (x : Takes). fits x (record { 0 = 0 }) ≡ true) (sym e) refl;
  },
  λ m. let low = m.within in is_true (nat_lt 0 k) (grind (arith, nat_tests)),
)
