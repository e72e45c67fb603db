-- The join of two sets, one atom after the other: the lesser of their first atoms comes first.
use Rattle.std.proofs.Common.{◌≡◌, ℕ, zero, suc, ◌+◌, ◌-◌, ◌<◌, ◌≤◌, List, [], ◌∷◌, ◌++◌, length, take, drop, get_or, refl, sym, ap, ◌∙◌, subst, arith, append_assoc, add-one, append-nil, drop-cons, ◌⊎◌, inl, inr}
use Rattle.std.proofs.Math.ListN.{drop_of_length-le}
use Rattle.std.proofs.lemmas.List.{take_rest}
use Rattle.std.proofs.lemmas.List.Elements.{All-head, All-tail}
use Rattle.cr_base.specs.declared.ids.AtomId.{AtomId}
use Rattle.cr_atoms.specs.Set.{IsAscending, with_member, joined}
use Rattle.cr_atoms.proofs.Sets.{Above, ascending_head, ascending_tail, ascending_none, ascending_with, with_less, with_same, with_greater}

pub ascending_joined : (xs ys : List AtomId) → IsAscending xs → IsAscending (joined xs ys)
ascending_joined xs [] h = h
ascending_joined xs (y ∷ ys) h = ascending_joined (with_member xs y) ys (ascending_with xs y h)

-- what is below all atoms that are put in stays first
front : (a : AtomId) (xs ys : List AtomId) → Above a.0 ys → joined (a ∷ xs) ys ≡ a ∷ joined xs ys
front a xs [] h = refl
front a xs (y ∷ ys) h =
    ap (λ (set : List AtomId). joined set ys) (with_less a xs y (All-head (λ b. a.0 < b.0) y ys h))
    ∙ front a (with_member xs y) ys (All-tail (λ b. a.0 < b.0) y ys h)

above_more : (a b : AtomId) (ys : List AtomId) → a.0 < b.0 → Above b.0 ys → Above a.0 (b ∷ ys)
above_more a b ys lt h = λ k d within. by_place k d within
  where
    by_place : (k : ℕ) (d : AtomId) → k < length (b ∷ ys) → a.0 < (get_or (b ∷ ys) k d).0
    by_place zero d within = lt
    by_place (suc k) d within = let more : b.0 < (get_or ys k d).0 = h k d (omega arith) in omega arith

less_first : (a b : AtomId) (xs ys : List AtomId) → a.0 < b.0 → Above b.0 ys → joined (a ∷ xs) (b ∷ ys) ≡ a ∷ joined xs (b ∷ ys)
less_first a b xs ys lt h = front a xs (b ∷ ys) (above_more a b ys lt h)

both_first : (a b : AtomId) (xs ys : List AtomId) → a.0 ≡ b.0 → Above b.0 ys → joined (a ∷ xs) (b ∷ ys) ≡ a ∷ joined xs ys
both_first a b xs ys e h =
    ap (λ (set : List AtomId). joined set ys) (with_same a xs b e)
    ∙ front a xs ys (subst (λ (n : ℕ). Above n ys) (sym e) h)

greater_first : (a b : AtomId) (xs ys : List AtomId) → b.0 < a.0 → Above b.0 ys → joined (a ∷ xs) (b ∷ ys) ≡ b ∷ joined (a ∷ xs) ys
greater_first a b xs ys lt h =
    ap (λ (set : List AtomId). joined set ys) (with_greater a xs b lt)
    ∙ front b (a ∷ xs) ys h

pub joined_none : (ys : List AtomId) → IsAscending ys → joined [] ys ≡ ys
joined_none [] h = refl
joined_none (y ∷ ys) h = front y [] ys (ascending_head y ys h) ∙ ap (λ (l : List AtomId). y ∷ l) (joined_none ys (ascending_tail y ys h))

ascending_drop : (k : ℕ) (xs : List AtomId) → IsAscending xs → IsAscending (drop k xs)
ascending_drop zero xs h = h
ascending_drop (suc k) [] h = ascending_none
ascending_drop (suc k) (x ∷ xs) h = ascending_drop k xs (ascending_tail x xs h)

-- the atoms so far, of the first i and j of two sets, are the front of their join
pub record Merges (a b : List AtomId) (i j : ℕ) (atoms : List AtomId) : Type 0 where
  pub first : i ≤ length a
  pub second : j ≤ length b
  pub rest : atoms ++ joined (drop i a) (drop j b) ≡ joined a b

module _ (a b : List AtomId) (i j : ℕ) (atoms : List AtomId) (d : AtomId) (h : Merges a b i j atoms) (up : IsAscending b)
    (in_a : i < length a) (in_b : j < length b) where
  abbrev x : AtomId
  x = get_or a i d

  abbrev y : AtomId
  y = get_or b j d

  left : drop i a ≡ x ∷ drop (i + 1) a
  left = rw (add-one, drop-cons a i d in_a)

  right : drop j b ≡ y ∷ drop (j + 1) b
  right = rw (add-one, drop-cons b j d in_b)

  above : Above y.0 (drop (j + 1) b)
  above = ascending_head y (drop (j + 1) b) (subst IsAscending right (ascending_drop j b up))

  parts : atoms ++ joined (x ∷ drop (i + 1) a) (y ∷ drop (j + 1) b) ≡ joined a b
  parts = ap (λ (l : List AtomId). atoms ++ joined l (y ∷ drop (j + 1) b)) (sym left) ∙ ap (λ (l : List AtomId). atoms ++ joined (drop i a) l) (sym right) ∙ h.rest

  pub takes_first : x.0 < y.0 → Merges a b (i + 1) j (atoms ++ x ∷ [])
  takes_first lt = record {
    first = omega arith;
    second = h.second;
    rest = rw append_assoc (ap (λ (l : List AtomId). atoms ++ x ∷ joined (drop (i + 1) a) l) right
        ∙ ap (λ (l : List AtomId). atoms ++ l) (sym (less_first x y (drop (i + 1) a) (drop (j + 1) b) lt above)) ∙ parts);
  }

  pub takes_both : x.0 ≡ y.0 → Merges a b (i + 1) (j + 1) (atoms ++ x ∷ [])
  takes_both e = record {
    first = omega arith;
    second = omega arith;
    rest = rw append_assoc (ap (λ (l : List AtomId). atoms ++ l) (sym (both_first x y (drop (i + 1) a) (drop (j + 1) b) e above)) ∙ parts);
  }

  pub takes_second : y.0 < x.0 → Merges a b i (j + 1) (atoms ++ y ∷ [])
  takes_second lt = record {
    first = h.first;
    second = omega arith;
    rest = rw append_assoc (ap (λ (l : List AtomId). atoms ++ y ∷ joined l (drop (j + 1) b)) left
        ∙ ap (λ (l : List AtomId). atoms ++ l) (sym (greater_first x y (drop (i + 1) a) (drop (j + 1) b) lt above)) ∙ parts);
  }

-- where one set is at its end, what is left of the two follows
ends : (a b : List AtomId) (i j : ℕ) (atoms : List AtomId) → Merges a b i j atoms → IsAscending b → (length a ≤ i) ⊎ (length b ≤ j)
    → (atoms ++ drop i a) ++ drop j b ≡ joined a b
ends a b i j atoms h up (inl none) =
    let end : drop i a ≡ [] = drop_of_length-le a none in
    ap (λ (l : List AtomId). (atoms ++ l) ++ drop j b) end
    ∙ rw append_assoc (ap (λ (l : List AtomId). atoms ++ l) (sym (joined_none (drop j b) (ascending_drop j b up))))
    ∙ ap (λ (l : List AtomId). atoms ++ joined l (drop j b)) (sym end) ∙ h.rest
ends a b i j atoms h up (inr none) =
    let end : drop j b ≡ [] = drop_of_length-le b none in
    ap (λ (l : List AtomId). (atoms ++ drop i a) ++ l) end
    ∙ append-nil (atoms ++ drop i a)
    ∙ ap (λ (l : List AtomId). atoms ++ joined (drop i a) l) (sym end) ∙ h.rest

pub merged : (a b : List AtomId) (i j : ℕ) (atoms first second : List AtomId) → Merges a b i j atoms → IsAscending b → (length a ≤ i) ⊎ (length b ≤ j)
    → first ≡ atoms ++ take (length a - i) (drop i a) → second ≡ first ++ take (length b - j) (drop j b) → second ≡ joined a b
merged a b i j atoms first second h up none is_first is_second =
    is_second ∙ ap (λ (l : List AtomId). first ++ l) (take_rest b j)
    ∙ ap (λ (l : List AtomId). l ++ drop j b) (is_first ∙ ap (λ (l : List AtomId). atoms ++ l) (take_rest a i))
    ∙ ends a b i j atoms h up none
