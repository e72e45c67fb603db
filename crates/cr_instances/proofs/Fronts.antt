-- A table of keys and one that begins with it.
use Rattle.std.proofs.Common.{◌≡◌, ◌≢◌, ℕ, ◌<◌, List, ◌++◌, length, slice_get, Some, AllPairs, sym, ap, ◌∙◌, inl, inr, arith, append_assoc, length-append}
use Rattle.std.proofs.lemmas.Bool.{cases_lt}
use Rattle.std.proofs.lemmas.List.{get_or_append_left}
use Rattle.std.proofs.lemmas.Option.{slice_get_within, get_or_from_slice_get, slice_get-get_or, same_Some}
use Rattle.cr_instances.specs.declared.key.Key.{Key}
use Rattle.cr_instances.specs.Keys.{IsFront}

pub stays_at : (old new : List Key) (n : ℕ) (key : Key) → IsFront old new → slice_get old n ≡ Some key → slice_get new n ≡ Some key
stays_at old new n key front e =
    let within : n < length old = slice_get_within old n key e in
    ap (λ (keys : List Key). slice_get keys n) front.1
    ∙ slice_get-get_or (old ++ front.0) n key (omega (arith, length-append old front.0))
    ∙ ap Some (get_or_append_left old front.0 key n within ∙ get_or_from_slice_get old n key key e)

pub front_further : (old new newer : List Key) → IsFront old new → IsFront new newer → IsFront old newer
front_further old new newer p q = (p.0 ++ q.0, q.1 ∙ ap (λ (keys : List Key). keys ++ q.0) p.1 ∙ append_assoc old p.0 q.0)

-- two places of a table without repeats
apart_at : (keys : List Key) (m n : ℕ) (a : Key) → AllPairs (λ x y. x ≢ y) keys → m < n → slice_get keys m ≡ Some a → slice_get keys n ≡ Some a → ⊥
apart_at keys m n a apart less p q =
    apart m n a less (slice_get_within keys n a q) (get_or_from_slice_get keys m a a p ∙ sym (get_or_from_slice_get keys n a a q))

one_place : (keys : List Key) (m n : ℕ) (a : Key) → AllPairs (λ x y. x ≢ y) keys → slice_get keys m ≡ Some a → slice_get keys n ≡ Some a → m ≡ n
one_place keys m n a apart p q = elim (cases_lt m n) [
  | inl less ↦ absurd (apart_at keys m n a apart less p q)
  | inr most ↦ elim (cases_lt n m) [ inl less ↦ absurd (apart_at keys n m a apart less q p) | inr least ↦ omega arith ]
]

pub one_number : (old new : List Key) (m n : ℕ) (a b : Key) → IsFront old new → AllPairs (λ x y. x ≢ y) new → slice_get old m ≡ Some a → slice_get new n ≡ Some b → a ≡ b → m ≡ n
one_number old new m n a b front apart p q e = one_place new m n a apart (stays_at old new m a front p) (q ∙ ap Some (sym e))

pub one_key : (old new : List Key) (m n : ℕ) (a b : Key) → IsFront old new → slice_get old m ≡ Some a → slice_get new n ≡ Some b → m ≡ n → a ≡ b
one_key old new m n a b front p q e = same_Some a b (sym (stays_at old new m a front p) ∙ ap (slice_get new) e ∙ q)
