-- Numbers whose value is kept up to a bound, above which no type has one.
use Rattle.std.specs.Prelude.{ℕ, ◌+◌, ◌-◌, ◌*◌, Bool, ◌&&◌, if◌then◌else◌, ◌==◌, nat_le, List, [], ◌∷◌, None}
use Rattle.cr_syntax.specs.Words.{is_digit, begins}
use Rattle.cr_syntax.specs.Numbers.{number_of, ends_number}
use Rattle.cr_lex.specs.Longest.{Form}

abbrev pub number_form : Bool → Form
number_form minus text after = if ends_number after then number_of minus text else None

-- 2 ^ 63 + 1
abbrev pub cap : ℕ
cap = 9223372036854775809

-- one more digit
abbrev pub grown : ℕ → ℕ → ℕ
grown value digit = if nat_le 922337203685477581 value then cap else 10 * value + digit

abbrev pub capped_groups : ℕ → List ℕ → ℕ × List ℕ
capped_groups value [] = (value, [])
capped_groups value (b ∷ bs) =
    if is_digit b then capped_groups (grown value (b - 48)) bs
    else (if b == 95 && begins is_digit bs then capped_groups value bs else (value, b ∷ bs))

abbrev pub capped_digits : ℕ → List ℕ → ℕ × List ℕ
capped_digits b bs = if b == 48 then (0, bs) else capped_groups (b - 48) bs
