-- The numbers: digits in groups joined by single `_`, and a suffix that says the type.
use Rattle.std.specs.Prelude.{ℕ, ◌+◌, ◌-◌, ◌*◌, ◌^◌, ℤ, pos, neg_ℤ, Bool, true, false, not, ◌&&◌, ◌||◌, if◌then◌else◌, ◌==◌, nat_le, List, [], ◌∷◌, codes, Option, Some, None}
use Rattle.std.specs.Str.{bytes_eq}
use Rattle.cr_syntax.specs.declared.token.TokenKind.{TokenKind}
use Rattle.cr_syntax.specs.declared.token.TokenKind.TheVariants as k
use Rattle.cr_syntax.specs.Words.{is_digit, is_word_byte, begins}

-- The value of digits in groups joined by single `_`, which go on from the value so far, and what stands behind them.
abbrev pub groups : ℕ → List ℕ → ℕ × List ℕ
groups value [] = (value, [])
groups value (b ∷ bs) =
    if is_digit b then groups (10 * value + (b - 48)) bs
    else (if b == 95 && begins is_digit bs then groups value bs else (value, b ∷ bs))

-- the same from a first digit on; a 0 stands before no other digit
abbrev pub digits_of : ℕ → List ℕ → ℕ × List ℕ
digits_of b bs = if b == 48 then (0, bs) else groups (b - 48) bs

abbrev pub signed : Bool → ℕ → ℤ
signed true value = neg_ℤ (pos value)
signed false value = pos value

-- whether a type whose least value is -limit has the value
abbrev pub fits : Bool → ℕ → ℕ → Bool
fits true value limit = nat_le value limit
fits false value limit = nat_le (value + 1) limit

abbrev pub small : Bool → ℕ → Option TokenKind
small minus value = if fits minus value (2 ^ 31) then Some (k.Int32 (signed minus value)) else None

abbrev pub big : Bool → ℕ → Option TokenKind
big minus value = if fits minus value (2 ^ 63) then Some (k.Int64 (signed minus value)) else None

-- no suffix, `i32` and `_i32`, `i64` and `_i64`
abbrev pub typed : Bool → ℕ → List ℕ → Option TokenKind
typed minus value suffix =
    if bytes_eq suffix [] || bytes_eq suffix (codes "i32") || bytes_eq suffix (codes "_i32") then small minus value
    else (if bytes_eq suffix (codes "i64") || bytes_eq suffix (codes "_i64") then big minus value else None)

-- the number that the digits and the suffix spell, if any
abbrev pub number_of : Bool → List ℕ → Option TokenKind
number_of minus [] = None
number_of minus (b ∷ bs) = let digits = digits_of b bs in typed minus digits.0 digits.1

-- A number ends where no letter, digit or `_` follows, and no `.` with a digit behind it.
abbrev pub ends_number : List ℕ → Bool
ends_number [] = true
ends_number (b ∷ bs) = not (is_word_byte b) && not (b == 46 && begins is_digit bs)
