-- The search for a line, from the first on.
use Rattle.std.proofs.Common.{◌≡◌, ◌≢◌, ℕ, ◌<◌, ◌≤◌, Bool, true, false, IsTrue, List, length, map, slice_get, get_or, Some, ap, sym, ◌∙◌, arith}
use Rattle.std.specs.Option.{option_map}
use Rattle.std.proofs.lemmas.List.{length-map}
use Rattle.std.proofs.lemmas.Option.{slice_get-map, slice_get-get_or, slice_get_within, same_Some}
use Rattle.cr_prelude.specs.Builtins.{Line}

-- where the test of an entry fails its line is not the wanted one
pub not_here : {A : Type 0} (f : A → Line) (xs : List A) (n : ℕ) (d : A) (wanted : Line) (b : Bool)
    → n < length xs → (f (get_or xs n d) ≡ wanted → IsTrue b) → b ≡ false → slice_get (map f xs) n ≢ Some wanted
not_here f xs n d wanted b within found is_false is =
    let here : slice_get (map f xs) n ≡ Some (f (get_or xs n d)) = slice_get-map f xs n ∙ ap (option_map f) (slice_get-get_or xs n d within) in
    let is_true : b ≡ true = found (same_Some _ _ (sym here ∙ is)) in
    absurd cc

-- what stands at no place up to the end stands nowhere
pub nowhere : {A : Type 0} (f : A → Line) (xs : List A) (n : ℕ) (wanted : Line)
    → length xs ≤ n → ((k : ℕ) → k < n → slice_get (map f xs) k ≢ Some wanted) → (k : ℕ) → slice_get (map f xs) k ≢ Some wanted
nowhere f xs n wanted past below k is =
    let within : k < length (map f xs) = slice_get_within (map f xs) k wanted is in
    below k (omega (arith, length-map xs f)) is
