-- Whether a name is marked, by its last byte.
use Rattle.std.proofs.Common.{◌≡◌, ℕ, zero, suc, ◌-◌, Bool, true, false, List, [], ◌∷◌, Option, Some, None, length, refl, sym, ◌∙◌, ap, arith}
use Rattle.std.specs.Prelude.{◌==◌, ◌||◌, slice_get}
use Rattle.cr_grammar.specs.Operators.{is_marked}

-- whether the last byte is `?` or `!`
abbrev marks : Option ℕ → Bool
marks None = false
marks (Some b) = b == 63 || b == 33

by_last : (name : List ℕ) → is_marked name ≡ marks (slice_get name (length name - 1))
by_last [] = refl
by_last (b ∷ []) = refl
by_last (b ∷ c ∷ bs) = let e : length (b ∷ c ∷ bs) - 1 ≡ suc (length (c ∷ bs) - 1) = omega arith in rw e (by_last (c ∷ bs))

pub marked_by : (name : List ℕ) (last : ℕ) → Some last ≡ slice_get name (length name - 1) → last == 63 || last == 33 ≡ is_marked name
marked_by name last is = ap marks is ∙ sym (by_last name)

pub unmarked : (name : List ℕ) → None ≡ slice_get name (length name - 1) → false ≡ is_marked name
unmarked name is = ap marks is ∙ sym (by_last name)
