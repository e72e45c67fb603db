-- Two paths of different lengths are not the same; a path of three names is those names.
use Rattle.std.proofs.Common.{◌≡◌, ◌≢◌, ℕ, suc, ◌≤◌, ◌<◌, arith, get_or, sym, Bool, true, false, ◌&&◌, List, [], ◌∷◌, length, refl, ap, ◌∙◌}
use Rattle.std.specs.Str.{bytes_eq}
use Rattle.cr_readers.specs.Primaries.{is_path}

nor_false : (b : Bool) → false ≡ b && false
nor_false true = refl
nor_false false = refl

pub other_length : (a b : List (List ℕ)) → length a ≢ length b → false ≡ is_path a b
other_length [] [] differ = absurd (differ refl)
other_length [] (y ∷ ys) differ = refl
other_length (x ∷ xs) [] differ = refl
other_length (x ∷ xs) (y ∷ ys) differ = nor_false (bytes_eq x y) ∙ ap (λ b. bytes_eq x y && b) (other_length xs ys (λ e. differ (ap suc e)))

pub three : {A : Type 0} (xs : List A) (a b c : A) → length xs ≡ 3 → a ≡ get_or xs 0 a → b ≡ get_or xs 1 b → c ≡ get_or xs 2 c → xs ≡ a ∷ b ∷ c ∷ []
three [] a b c is first second third = absurd (omega arith)
three (x ∷ []) a b c is first second third = absurd (omega arith)
three (x ∷ y ∷ []) a b c is first second third = absurd (omega arith)
three (x ∷ y ∷ z ∷ []) a b c is first second third = λ i. sym first i ∷ sym second i ∷ sym third i ∷ []
three (x ∷ y ∷ z ∷ w ∷ more) a b c is first second third = absurd (omega arith)
