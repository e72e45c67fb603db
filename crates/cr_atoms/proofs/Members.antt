-- The members of sets.
use Rattle.std.proofs.Common.{◌≡◌, zero, suc, ◌<◌, Bool, true, false, cond, nat_lt, ◌==◌, List, [], ◌∷◌, Contains, refl, sym, ap, ◌∙◌, subst, ◌⊎◌, inl, inr, arith, eqb-true}
use Rattle.std.proofs.lemmas.List.Elements.{All-contains}
use Rattle.cr_base.specs.declared.ids.AtomId.{AtomId}
use Rattle.cr_atoms.specs.Set.{IsAscending, IsWithin, with_member, joined}
use Rattle.cr_atoms.proofs.Sets.{atom_same, ascending_head, ascending_tail}

module _ {X : Type 0} where
  pub none_in : (x : X) → Contains [] x → ⊥
  none_in x (k, within, e) = omega arith

  pub in_head : (x : X) (xs : List X) → Contains (x ∷ xs) x
  in_head x xs = (0, omega arith, refl)

  pub in_tail : (x y : X) (xs : List X) → Contains xs y → Contains (x ∷ xs) y
  in_tail x y xs (k, within, e) = (suc k, omega arith, e)

  pub in_cases : (x y : X) (xs : List X) → Contains (x ∷ xs) y → (x ≡ y) ⊎ Contains xs y
  in_cases x y xs (zero, within, e) = inl e
  in_cases x y xs (suc k, within, e) = inr (k, omega arith, e)

-- a set with one more atom
pub from_with : (set : List AtomId) (atom other : AtomId) → Contains (with_member set atom) other → Contains set other ⊎ (other ≡ atom)
from_with [] atom other h = elim (in_cases atom other [] h) [ inl e ↦ inr (sym e) | inr more ↦ inl more ]
from_with (a ∷ set) atom other h = by_tests (nat_lt a.0 atom.0) (a.0 == atom.0) h (from_with set atom other)
  where
    by_tests : (s t : Bool) → Contains (cond s (a ∷ with_member set atom) (cond t (a ∷ set) (atom ∷ a ∷ set))) other
        → (Contains (with_member set atom) other → Contains set other ⊎ (other ≡ atom)) → Contains (a ∷ set) other ⊎ (other ≡ atom)
    by_tests true t is more = elim (in_cases a other (with_member set atom) is) [
      | inl e ↦ inl (subst (Contains (a ∷ set)) e (in_head a set))
      | inr deeper ↦ elim (more deeper) [ inl old ↦ inl (in_tail a other set old) | inr e ↦ inr e ]
    ]
    by_tests false true is more = inl is
    by_tests false false is more = elim (in_cases atom other (a ∷ set) is) [ inl e ↦ inr (sym e) | inr old ↦ inl old ]

pub with_old : (set : List AtomId) (atom other : AtomId) → Contains set other → Contains (with_member set atom) other
with_old [] atom other h = absurd (none_in other h)
with_old (a ∷ set) atom other h = by_tests (nat_lt a.0 atom.0) (a.0 == atom.0) (with_old set atom other)
  where
    by_tests : (s t : Bool) → (Contains set other → Contains (with_member set atom) other) → Contains (cond s (a ∷ with_member set atom) (cond t (a ∷ set) (atom ∷ a ∷ set))) other
    by_tests true t more = elim (in_cases a other set h) [
      | inl e ↦ subst (Contains (a ∷ with_member set atom)) e (in_head a (with_member set atom))
      | inr old ↦ in_tail a other (with_member set atom) (more old)
    ]
    by_tests false true more = h
    by_tests false false more = in_tail atom other (a ∷ set) h

pub with_new : (set : List AtomId) (atom : AtomId) → Contains (with_member set atom) atom
with_new [] atom = in_head atom []
with_new (a ∷ set) atom = by_tests (nat_lt a.0 atom.0) (a.0 == atom.0) refl (with_new set atom)
  where
    by_tests : (s t : Bool) → (a.0 == atom.0) ≡ t → Contains (with_member set atom) atom → Contains (cond s (a ∷ with_member set atom) (cond t (a ∷ set) (atom ∷ a ∷ set))) atom
    by_tests true t e more = in_tail a atom (with_member set atom) more
    by_tests false true e more = subst (Contains (a ∷ set)) (atom_same a atom (eqb-true a.0 atom.0 e)) (in_head a set)
    by_tests false false e more = in_head atom (a ∷ set)

pub with_members : (set : List AtomId) (atom other : AtomId) → Contains set other ⊎ (other ≡ atom) → Contains (with_member set atom) other
with_members set atom other (inl old) = with_old set atom other old
with_members set atom other (inr e) = subst (Contains (with_member set atom)) (sym e) (with_new set atom)

-- a join
pub from_joined : (a b : List AtomId) (atom : AtomId) → Contains (joined a b) atom → Contains a atom ⊎ Contains b atom
from_joined a [] atom h = inl h
from_joined a (x ∷ b) atom h = elim (from_joined (with_member a x) b atom h) [
  | inl old ↦ elim (from_with a x atom old) [ inl first ↦ inl first | inr e ↦ inr (subst (Contains (x ∷ b)) (sym e) (in_head x b)) ]
  | inr more ↦ inr (in_tail x atom b more)
]

pub joined_first : (a b : List AtomId) (atom : AtomId) → Contains a atom → Contains (joined a b) atom
joined_first a [] atom h = h
joined_first a (x ∷ b) atom h = joined_first (with_member a x) b atom (with_old a x atom h)

pub joined_second : (a b : List AtomId) (atom : AtomId) → Contains b atom → Contains (joined a b) atom
joined_second a [] atom h = absurd (none_in atom h)
joined_second a (x ∷ b) atom h = elim (in_cases x atom b h) [
  | inl e ↦ joined_first (with_member a x) b atom (subst (Contains (with_member a x)) e (with_new a x))
  | inr more ↦ joined_second (with_member a x) b atom more
]

pub joined_members : (a b : List AtomId) (atom : AtomId) → Contains a atom ⊎ Contains b atom → Contains (joined a b) atom
joined_members a b atom (inl h) = joined_first a b atom h
joined_members a b atom (inr h) = joined_second a b atom h

pub joined_least : (a b c : List AtomId) → IsWithin a c → IsWithin b c → IsWithin (joined a b) c
joined_least a b c p q atom h = elim (from_joined a b atom h) [ inl first ↦ p atom first | inr second ↦ q atom second ]

-- two sets with the same members
above_in : (a b : AtomId) (set : List AtomId) → IsAscending (a ∷ set) → Contains set b → a.0 < b.0
above_in a b set up h = All-contains (λ c. a.0 < c.0) set b (ascending_head a set up) h

same_first : (a b : AtomId) (more bs : List AtomId) → IsAscending (a ∷ more) → IsAscending (b ∷ bs) → Contains (b ∷ bs) a → Contains (a ∷ more) b → a ≡ b
same_first a b more bs p q in_b in_a = elim (in_cases b a bs in_b) [
  | inl e ↦ sym e
  | inr later ↦ elim (in_cases a b more in_a) [
    | inl e ↦ e
    | inr late ↦ absurd (let one : b.0 < a.0 = above_in b a bs q later in let other : a.0 < b.0 = above_in a b more p late in omega arith)
  ]
]

rest_within : (a b : AtomId) (more bs : List AtomId) → IsAscending (a ∷ more) → a ≡ b → IsWithin (a ∷ more) (b ∷ bs) → IsWithin more bs
rest_within a b more bs p e h atom inside = elim (in_cases b atom bs (h atom (in_tail a atom more inside))) [
  | inl is ↦ absurd (let same : a.0 ≡ atom.0 = ap (λ (c : AtomId). c.0) (e ∙ is) in let less : a.0 < atom.0 = above_in a atom more p inside in omega arith)
  | inr later ↦ later
]

pub one_set : (a b : List AtomId) → IsAscending a → IsAscending b → IsWithin a b → IsWithin b a → a ≡ b
one_set [] [] p q f g = refl
one_set [] (y ∷ ys) p q f g = absurd (none_in y (g y (in_head y ys)))
one_set (x ∷ xs) [] p q f g = absurd (none_in x (f x (in_head x xs)))
one_set (x ∷ xs) (y ∷ ys) p q f g =
    let first : x ≡ y = same_first x y xs ys p q (f x (in_head x xs)) (g y (in_head y ys)) in
    let rest : xs ≡ ys = one_set xs ys (ascending_tail x xs p) (ascending_tail y ys q) (rest_within x y xs ys p first f) (rest_within y x ys xs q (sym first) g) in
    cc
