-- What one read does to a source that tells its bytes.
use Rattle.std.specs.Prelude.{◌≡◌, ℕ, ◌≤◌, Bool, false, List, length, take, drop, Option, Some, Result, Ok, Err, ◌==◌, ◌++◌, IfSome}
use Rattle.cr_io.specs.declared.source.Failed.{Failed}

-- The first `count` bytes that were left stand at the front of the buffer, and are left no more.
pub record Moves (left : List ℕ) (count : ℕ) (buffer : List ℕ) (left' : Option (List ℕ)) : Type 0 where
  pub enough : count ≤ length left
  pub front : take count buffer ≡ take count left
  pub rest : left' ≡ Some (drop count left)

-- Whether the answer of a read into a buffer with room says that the end was met.
abbrev pub is_end : Result ℕ Failed → Bool
is_end (Ok count) = count == 0
is_end (Err e) = false

-- What was left, if it was told, stands at the end of the text that was taken or is still left.
abbrev pub Takes : Option (List ℕ) → List ℕ → Option (List ℕ) → List ℕ → Type 0
Takes left text left' text' = IfSome left (λ bytes. (rest : List ℕ) × (left' ≡ Some rest) × (text' ++ rest ≡ text ++ bytes))
