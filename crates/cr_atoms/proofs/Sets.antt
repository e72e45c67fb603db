-- A set with one more atom, and what a binary search in a set finds.
use Rattle.std.proofs.Common.{◌≡◌, ℕ, zero, suc, ◌+◌, ◌<◌, ◌≤◌, Bool, true, false, cond, nat_lt, ◌==◌, List, [], ◌∷◌, length, get_or, All, insert, refl, sym, ap, ◌∙◌, subst, arith}
use Rattle.std.proofs.lemmas.Bool.Decides.{nat_tests}
use Rattle.std.specs.List.{AllWithin}
use Rattle.std.specs.List.Sorted.{IsNonDecreasingBy, IsPartitionPoint}
use Rattle.std.specs.Ordering.{nat_cmp, ordering_index, is_lt}
use Rattle.std.specs.declared.cmp.Ordering.TheVariants.{Less, Equal, Greater}
use Rattle.std.proofs.lemmas.Cmp.{ranked, nat_cmp_total}
use Rattle.std.proofs.lemmas.List.Kept.{AllPairs-cons}
use Rattle.std.proofs.lemmas.List.Elements.{All-nil, All-cons, All-head, All-tail, All-weaker}
use Rattle.std.proofs.lemmas.List.Sorted.{searchable_from_sorted}
use Rattle.cr_base.specs.declared.ids.AtomId.{AtomId}
use Rattle.cr_atoms.specs.Set.{IsAscending, with_member}

-- all of these atoms have greater numbers
abbrev pub Above : ℕ → List AtomId → Type 0
Above n atoms = All (λ atom. n < atom.0) atoms

pub ascending_head : (a : AtomId) (xs : List AtomId) → IsAscending (a ∷ xs) → Above a.0 xs
ascending_head a xs h = λ k d lt. h 0 (suc k) d (omega arith) (omega arith)

pub ascending_tail : (a : AtomId) (xs : List AtomId) → IsAscending (a ∷ xs) → IsAscending xs
ascending_tail a xs h = λ i j d lt within. h (suc i) (suc j) d (omega arith) (omega arith)

pub ascending_none : IsAscending []
ascending_none = λ i j d lt within. absurd (omega arith)

pub ascending_more : (a : AtomId) (xs : List AtomId) → Above a.0 xs → IsAscending xs → IsAscending (a ∷ xs)
ascending_more = AllPairs-cons (λ (a b : AtomId). a.0 < b.0)

pub atom_same : (a b : AtomId) → a.0 ≡ b.0 → a ≡ b
atom_same a b e = λ i. record { 0 = e i }

above_with : (n : ℕ) (xs : List AtomId) (atom : AtomId) → Above n xs → n < atom.0 → Above n (with_member xs atom)
above_with n [] atom h lt = All-cons (λ b. n < b.0) atom [] lt (All-nil (λ b. n < b.0))
above_with n (a ∷ xs) atom h lt = by_tests (nat_lt a.0 atom.0) (a.0 == atom.0) (above_with n xs atom (All-tail (λ b. n < b.0) a xs h) lt)
  where
    by_tests : (s t : Bool) → Above n (with_member xs atom) → Above n (cond s (a ∷ with_member xs atom) (cond t (a ∷ xs) (atom ∷ a ∷ xs)))
    by_tests true t more = All-cons (λ b. n < b.0) a (with_member xs atom) (All-head (λ b. n < b.0) a xs h) more
    by_tests false true more = h
    by_tests false false more = All-cons (λ b. n < b.0) atom (a ∷ xs) lt h

pub ascending_with : (xs : List AtomId) (atom : AtomId) → IsAscending xs → IsAscending (with_member xs atom)
ascending_with [] atom h = ascending_more atom [] (All-nil (λ b. atom.0 < b.0)) ascending_none
ascending_with (a ∷ xs) atom h = by_tests (nat_lt a.0 atom.0) (a.0 == atom.0) refl refl (ascending_with xs atom (ascending_tail a xs h))
  where
    by_tests : (s t : Bool) → nat_lt a.0 atom.0 ≡ s → (a.0 == atom.0) ≡ t → IsAscending (with_member xs atom)
        → IsAscending (cond s (a ∷ with_member xs atom) (cond t (a ∷ xs) (atom ∷ a ∷ xs)))
    by_tests true t p q more = ascending_more a (with_member xs atom) (above_with a.0 xs atom (ascending_head a xs h) (grind (arith, nat_tests))) more
    by_tests false true p q more = h
    by_tests false false p q more =
        let less : atom.0 < a.0 = grind (arith, nat_tests) in
        ascending_more atom (a ∷ xs) (All-cons (λ b. atom.0 < b.0) a xs less (All-weaker (λ b. a.0 < b.0) (λ b. atom.0 < b.0) (λ b lt. omega arith) xs (ascending_head a xs h))) h

pub with_less : (a : AtomId) (xs : List AtomId) (atom : AtomId) → a.0 < atom.0 → with_member (a ∷ xs) atom ≡ a ∷ with_member xs atom
with_less a xs atom lt = grind (arith, nat_tests)

pub with_same : (a : AtomId) (xs : List AtomId) (atom : AtomId) → a.0 ≡ atom.0 → with_member (a ∷ xs) atom ≡ a ∷ xs
with_same a xs atom e = grind (arith, nat_tests)

pub with_greater : (a : AtomId) (xs : List AtomId) (atom : AtomId) → atom.0 < a.0 → with_member (a ∷ xs) atom ≡ atom ∷ a ∷ xs
with_greater a xs atom lt = grind (arith, nat_tests)

-- an atom that is there already
pub with_known : (xs : List AtomId) (atom : AtomId) (i : ℕ) → IsAscending xs → i < length xs → (get_or xs i atom).0 ≡ atom.0 → with_member xs atom ≡ xs
with_known [] atom i h lt e = absurd (omega arith)
with_known (a ∷ xs) atom zero h lt e = with_same a xs atom e
with_known (a ∷ xs) atom (suc i) h lt e =
    let less : a.0 < (get_or xs i atom).0 = ascending_head a xs h i atom (omega arith) in
    with_less a xs atom (omega arith) ∙ ap (λ (l : List AtomId). a ∷ l) (with_known xs atom i (ascending_tail a xs h) (omega arith) e)

-- an atom that is put between the lesser and the greater ones
pub with_fresh : (xs : List AtomId) (atom : AtomId) (i : ℕ) → i ≤ length xs → AllWithin (λ a. a.0 < atom.0) xs 0 i → AllWithin (λ a. atom.0 < a.0) xs i (length xs)
    → insert xs i atom ≡ with_member xs atom
with_fresh [] atom zero within less greater = refl
with_fresh [] atom (suc i) within less greater = absurd (omega arith)
with_fresh (a ∷ xs) atom zero within less greater = sym (with_greater a xs atom (greater 0 atom (omega arith) (omega arith)))
with_fresh (a ∷ xs) atom (suc i) within less greater =
    ap (λ (l : List AtomId). a ∷ l) (with_fresh xs atom i (omega arith) (λ k d low high. less (suc k) d (omega arith) (omega arith)) (λ k d low high. greater (suc k) d (omega arith) (omega arith)))
    ∙ sym (with_less a xs atom (less 0 atom (omega arith) (omega arith)))

-- what a binary search in a set answers
searchable : (xs : List AtomId) (atom : AtomId) → IsAscending xs → IsNonDecreasingBy (λ a. ordering_index (nat_cmp a.0 atom.0)) xs
searchable xs atom h = searchable_from_sorted nat_cmp_total (λ (a : AtomId). a.0) xs atom.0
    (λ k d low within. let less : (get_or xs k d).0 < (get_or xs (k + 1) d).0 = h k (k + 1) d (omega arith) (omega arith) in not_before (get_or xs (k + 1) d).0 (get_or xs k d).0 (omega arith))
  where
    not_before : (m n : ℕ) → n < m → is_lt (nat_cmp m n) ≡ false
    not_before m n lt = grind (arith, nat_tests)

put_at : (xs : List AtomId) (atom : AtomId) (i : ℕ) → IsAscending xs → i ≤ length xs
    → (IsNonDecreasingBy (λ a. ordering_index (nat_cmp a.0 atom.0)) xs → IsPartitionPoint (λ a. nat_cmp a.0 atom.0 ≡ Less) (λ a. nat_cmp a.0 atom.0 ≡ Greater) xs i)
    → insert xs i atom ≡ with_member xs atom
put_at xs atom i h within point =
    let p = point (searchable xs atom h) in
    with_fresh xs atom i within
    (λ k d low high. ranked (get_or xs k d).0 atom.0 Less (sym (p.0 k d low high)))
    (λ k d low high. ranked (get_or xs k d).0 atom.0 Greater (sym (p.1 k d low high)))

-- the search reads the set xs as ys
pub put_in : (xs ys : List AtomId) (atom : AtomId) (i : ℕ) → ys ≡ xs → IsAscending xs → i ≤ length ys
    → (IsNonDecreasingBy (λ a. ordering_index (nat_cmp a.0 atom.0)) ys → IsPartitionPoint (λ a. nat_cmp a.0 atom.0 ≡ Less) (λ a. nat_cmp a.0 atom.0 ≡ Greater) ys i)
    → insert xs i atom ≡ with_member xs atom
put_in xs ys atom i is h within point =
    ap (λ (l : List AtomId). insert l i atom) (sym is) ∙ put_at ys atom i (subst IsAscending (sym is) h) within point ∙ ap (λ (l : List AtomId). with_member l atom) is

pub stays : (xs ys : List AtomId) (atom : AtomId) (i : ℕ) → ys ≡ xs → IsAscending xs → i < length ys → nat_cmp (get_or ys i atom).0 atom.0 ≡ Equal → with_member xs atom ≡ xs
stays xs ys atom i is h within equal =
    ap (λ (l : List AtomId). with_member l atom) (sym is) ∙ with_known ys atom i (subst IsAscending (sym is) h) within (ranked (get_or ys i atom).0 atom.0 Equal (sym equal)) ∙ is
