-- The bytes of a text that lies in the value itself or apart.
use Rattle.std.specs.Prelude.{ℕ, ◌≤◌, ◌≡◌, List, length, take}
use Rattle.std.specs.String.{string_bytes}
use Rattle.std.specs.Str.{IsUtf8}
use Rattle.cr_syntax.specs.declared.text.Short.{Short}
use Rattle.cr_syntax.specs.declared.text.Kept.{Kept}
use Rattle.cr_syntax.specs.declared.text.Kept.TheVariants.{Here, Apart}

abbrev pub bytes_of : Kept → List ℕ
bytes_of (Here short) = take short.len short.bytes
bytes_of (Apart text) = string_bytes text

abbrev pub IsShort : Short → Type 0
IsShort short = (short.len ≤ 22) × IsUtf8 (take short.len short.bytes)

abbrev pub IsKept : Kept → Type 0
IsKept (Here short) = IsShort short
IsKept (Apart text) = Unit {0}
