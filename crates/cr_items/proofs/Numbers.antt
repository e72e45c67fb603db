-- Lists of items with numbers in order, and which numbers they have.
use Rattle.std.proofs.Common.{◌≡◌, ◌≢◌, ℕ, refl, ◌+◌, ◌<◌, ◌≤◌, true, false, List, [], ◌∷◌, ◌++◌, length, subst, inl, inr, arith}
use Rattle.std.proofs.lemmas.Bool.{cases_eq, eq-eqb, ne_eqb}
use Rattle.cr_items.specs.declared.item.Item.{Item}
use Rattle.cr_items.specs.Channel.{IsNumberedFrom, has_number}

-- the front of a list that is numbered
pub numbered_front : (number : ℕ) (xs ys : List Item) → IsNumberedFrom number (xs ++ ys) → IsNumberedFrom number xs
numbered_front number [] ys h = tt
numbered_front number (x ∷ xs) ys h = (h.0, numbered_front (number + 1) xs ys h.1)

-- the rest of a list that is numbered
pub numbered_rest : (number : ℕ) (xs ys : List Item) → IsNumberedFrom number (xs ++ ys) → IsNumberedFrom (number + length xs) ys
numbered_rest number [] ys h = let e : number ≡ number + 0 = omega arith in subst (λ (n : ℕ). IsNumberedFrom n ys) e h
numbered_rest number (x ∷ xs) ys h =
    let e : number + 1 + length xs ≡ number + length (x ∷ xs) = omega arith in
    subst (λ (n : ℕ). IsNumberedFrom n ys) e (numbered_rest (number + 1) xs ys h.1)

-- one more item at the end
pub numbered_push : (number : ℕ) (xs : List Item) (x : Item) → IsNumberedFrom number xs → x.number ≡ number + length xs → IsNumberedFrom number (xs ++ x ∷ [])
numbered_push number [] x h e = (omega arith, tt)
numbered_push number (y ∷ ys) x h e = (h.0, numbered_push (number + 1) ys x h.1 (omega arith))

-- a numbered list has the numbers from its first to its last
pub has_within : (b : ℕ) (xs : List Item) (n : ℕ) → IsNumberedFrom b xs → b ≤ n → n < b + length xs → has_number xs n ≡ true
has_within b [] n h low high = absurd (omega arith)
has_within b (x ∷ xs) n h low high = elim (cases_eq x.number n) [
  | inl same ↦ rw (eq-eqb x.number n same)
  | inr other ↦
      let first : x.number ≡ b = h.0 in
      let above : b ≢ n = λ e. other (omega arith) in
      rw (ne_eqb x.number n other) (has_within (b + 1) xs n h.1 (omega arith) (omega arith))
]

-- and none below its first
pub has_below : (b : ℕ) (xs : List Item) (n : ℕ) → IsNumberedFrom b xs → n < b → has_number xs n ≡ false
has_below b [] n h low = refl
has_below b (x ∷ xs) n h low =
    let first : x.number ≡ b = h.0 in
    let other : x.number ≢ n = λ e. omega arith in
    rw (ne_eqb x.number n other) (has_below (b + 1) xs n h.1 (omega arith))

-- nor past its last
pub has_above : (b : ℕ) (xs : List Item) (n : ℕ) → IsNumberedFrom b xs → b + length xs ≤ n → has_number xs n ≡ false
has_above b [] n h high = refl
has_above b (x ∷ xs) n h high =
    let first : x.number ≡ b = h.0 in
    let other : x.number ≢ n = λ e. omega arith in
    rw (ne_eqb x.number n other) (has_above (b + 1) xs n h.1 (omega arith))
