-- The longest front of some bytes that has a form. A form takes the front and what stands behind it.
use Rattle.std.specs.Prelude.{◌≡◌, ℕ, ◌<◌, ◌≤◌, List, length, take, drop, Option, Some, None}
use Rattle.cr_syntax.specs.declared.token.TokenKind.{TokenKind}

abbrev pub Form : Type 0
Form = List ℕ → List ℕ → Option TokenKind

pub record IsLongest (form : Form) (bytes : List ℕ) (n : ℕ) (kind : TokenKind) : Type 0 where
  pub within : n ≤ length bytes
  pub here : form (take n bytes) (drop n bytes) ≡ Some kind
  pub longest : (m : ℕ) → n < m → m ≤ length bytes → form (take m bytes) (drop m bytes) ≡ None

-- no front has the form
abbrev pub HasNone : Form → List ℕ → Type 0
HasNone form bytes = (m : ℕ) → m ≤ length bytes → form (take m bytes) (drop m bytes) ≡ None

-- A reader found the longest front, or there is none.
abbrev pub Finds : Form → List ℕ → Option (TokenKind × ℕ) → Type 0
Finds form bytes (Some found) = IsLongest form bytes found.1 found.0
Finds form bytes None = HasNone form bytes
