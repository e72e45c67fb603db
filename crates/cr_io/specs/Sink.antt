-- What a sink that tells its bytes has after a call.
use Rattle.std.specs.Prelude.{◌≡◌, ℕ, List, ◌++◌, take, Option, Some, IfSome}

-- It has its old bytes, if it told them, and then these.
abbrev pub Appends : Option (List ℕ) → List ℕ → Option (List ℕ) → Type 0
Appends old text new = IfSome old (λ bytes. new ≡ Some (bytes ++ text))

-- It has its old bytes, if it told them, and then a front of these.
abbrev pub AppendsFront : Option (List ℕ) → List ℕ → Option (List ℕ) → Type 0
AppendsFront old text new = IfSome old (λ bytes. (n : ℕ) × (new ≡ Some (bytes ++ take n text)))
