-- The digits at the front of a text.
use Rattle.std.proofs.Common.{◌≡◌, ℕ, ◌+◌, ◌-◌, ◌*◌, ◌<◌, ◌≤◌, Bool, true, false, cond, ◌&&◌, leb, List, [], ◌∷◌, get_or, take, drop, length, Some, None, refl, ap, ◌∙◌, sym, arith, add-one, drop-cons}
use Rattle.std.specs.Prelude.{take_while}
use Rattle.std.specs.Char.{is_ascii_digit}
use Rattle.std.specs.List.{prefix_len}
use Rattle.std.specs.Str.{all_ascii_digits}
use Rattle.std.proofs.lemmas.List.Sums.{take_while-cons}
use Rattle.std.proofs.lemmas.List.Folds.{length-prefix_len}
use Rattle.std.proofs.lemmas.Bool.{lt-leb}
use Rattle.std.proofs.lemmas.Str.Parse.{IsNumeralModel, numerals_by_fold, tells_all_ascii_digits, digit_at}
use Rattle.cr_schedule.specs.Reading.{value_after, is_numeral, value_of}

all_digits-cond : (b : Bool) (x : ℕ) (digits : List ℕ) → is_ascii_digit x ≡ b → all_ascii_digits digits ≡ true → all_ascii_digits (cond b (x ∷ digits) []) ≡ true
all_digits-cond true x digits is all = rw (is, all) refl
all_digits-cond false x digits is all = refl

pub all_digits-take_while : (bytes : List ℕ) → all_ascii_digits (take_while is_ascii_digit bytes) ≡ true
all_digits-take_while [] = refl
all_digits-take_while (x ∷ bytes) =
    ap all_ascii_digits (take_while-cons is_ascii_digit x bytes) ∙ all_digits-cond (is_ascii_digit x) x (take_while is_ascii_digit bytes) refl (all_digits-take_while bytes)

pub take-digits : (bytes : List ℕ) → take (length (take_while is_ascii_digit bytes)) bytes ≡ take_while is_ascii_digit bytes
take-digits bytes = ap (λ (n : ℕ). take n bytes) (length-prefix_len is_ascii_digit bytes)

pub drop-digits : (bytes : List ℕ) → drop (length (take_while is_ascii_digit bytes)) bytes ≡ drop (prefix_len is_ascii_digit bytes) bytes
drop-digits bytes = ap (λ (n : ℕ). drop n bytes) (length-prefix_len is_ascii_digit bytes)

-- how reading sees a numeral of std's
pub numerals : IsNumeralModel (λ digits. all_ascii_digits digits ≡ true) (value_after 0)
numerals = numerals_by_fold (λ digits. all_ascii_digits digits ≡ true) tells_all_ascii_digits value_after (record { empty = λ n. refl; more = λ n c cs is. refl })

pub digit-least : (digits : List ℕ) (i : ℕ) → all_ascii_digits digits ≡ true → i < length digits → 48 ≤ get_or digits i 0
digit-least digits i all lt = (digit_at digits i (numerals.to digits all) lt).0

-- more digits give no smaller number
pub value_after-least : (n : ℕ) (digits : List ℕ) → n ≤ value_after n digits
value_after-least n [] = omega arith
value_after-least n (digit ∷ digits) = omega (arith, value_after-least (n * 10 + (digit - 48)) digits)

pub value_of-past : (most : ℕ) (digits : List ℕ) → most < value_after 0 digits → value_of most digits ≡ None
value_of-past most digits past = by_numeral (is_numeral digits) where
  by_numeral : (b : Bool) → cond (b && leb (value_after 0 digits) most) (Some (value_after 0 digits)) None ≡ None
  by_numeral true = rw (lt-leb (value_after 0 digits) most past) refl
  by_numeral false = refl

-- one digit more
pub value_after-drop : (n : ℕ) (digits : List ℕ) (i : ℕ) → i < length digits → value_after n (drop i digits) ≡ value_after (n * 10 + (get_or digits i 0 - 48)) (drop (i + 1) digits)
value_after-drop n digits i lt = ap (value_after n) (drop-cons digits i 0 lt) ∙ ap (λ (k : ℕ). value_after (n * 10 + (get_or digits i 0 - 48)) (drop k digits)) (sym (add-one i))
