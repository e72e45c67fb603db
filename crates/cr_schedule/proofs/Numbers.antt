-- A number that is read is the number that was written, and what was written is read again.
use Rattle.std.proofs.Common.{◌≡◌, ℕ, ◌^◌, ◌<◌, ◌≤◌, Bool, true, false, not, ◌&&◌, eqb, leb, List, [], ◌∷◌, ◌++◌, length, get_or, drop, Option, Some, None, refl, sym, ap, subst, ◌∙◌, arith, inl, inr}
use Rattle.std.specs.Prelude.{IfSome, take_while}
use Rattle.std.specs.Fmt.{decimal}
use Rattle.std.specs.Char.{is_ascii_digit}
use Rattle.std.specs.List.{prefix_len}
use Rattle.std.specs.Str.{all_ascii_digits}
use Rattle.std.proofs.lemmas.Bool.{eqb-true, eq-eqb, ne_eqb, leb-true, le-leb, cases_lt}
use Rattle.std.proofs.lemmas.Fmt.{decimal-digits_value, digits_value-decimal, digits_decimal, decimal_nonempty, decimal_digit, first_decimal}
use Rattle.std.proofs.lemmas.List.{take_at, drop_at, take-append-drop}
use Rattle.std.proofs.lemmas.Option.{cond_some}
use Rattle.cr_schedule.specs.declared.trace_line.TheConstants.{DASH}
use Rattle.cr_schedule.specs.Trace.{optional}
use Rattle.cr_schedule.specs.Reading.{◌>>=◌, byte_at, value_after, is_numeral, value_of, number_at, optional_by, optional_at}
use Rattle.cr_schedule.proofs.Digits.{numerals, digit-least, all_digits-take_while}

-- the value of a step that did not fail
pub bind_some : {A B : Type 0} (o : Option A) (f : A → Option B) (y : B) → (o >>= f) ≡ Some y → (x : A) × (o ≡ Some x) × (f x ≡ Some y)
bind_some None f y e = absurd cc
bind_some (Some x) f y e = (x, refl, e)

and_both : (a b : Bool) → (a && b) ≡ true → (a ≡ true) × (b ≡ true)
and_both true b e = (refl, e)
and_both false b e = absurd cc

pub byte_takes : (byte : ℕ) (bytes rest : List ℕ) → byte_at byte bytes ≡ Some rest → bytes ≡ byte ∷ rest
byte_takes byte [] rest e = absurd cc
byte_takes byte (first ∷ more) rest e =
    let g = cond_some (eqb first byte) more rest e in
    let same : first ≡ byte = eqb-true first byte g.0 in
    let after : more ≡ rest = g.1 in
    cc

pub byte_again : (byte : ℕ) (rest : List ℕ) → byte_at byte (byte ∷ rest) ≡ Some rest
byte_again byte rest = rw (eq-eqb byte byte refl) refl

-- a zero at the front is the only digit
no_leading_zero : (digits : List ℕ) → is_numeral digits ≡ true → get_or digits 0 0 ≡ 48 → length digits ≡ 1
no_leading_zero [] is first = absurd cc
no_leading_zero (digit ∷ []) is first = refl
no_leading_zero (digit ∷ second ∷ digits) is first =
    let zero_is : eqb digit 48 ≡ true = eq-eqb digit 48 first in
    let contrary : not true ≡ true = ap not (sym zero_is) ∙ is in
    absurd cc

numeral_some : (digits : List ℕ) → is_numeral digits ≡ true → 0 < length digits
numeral_some [] is = absurd cc
numeral_some (digit ∷ digits) is = omega arith

is_numeral-from : (digits : List ℕ) → 0 < length digits → 48 < get_or digits 0 0 → is_numeral digits ≡ true
is_numeral-from [] some first = absurd (omega arith)
is_numeral-from (digit ∷ []) some first = refl
is_numeral-from (digit ∷ second ∷ digits) some first = ap not (ne_eqb digit 48 (λ e. omega arith))

is_numeral-decimal : (n : ℕ) → n < 2 ^ 64 → is_numeral (decimal n) ≡ true
is_numeral-decimal n small =
    elim (cases_lt n 10) [
      | inl one ↦ rw (decimal_digit n one) refl
      | inr more ↦ is_numeral-from (decimal n) (decimal_nonempty n small) (first_decimal n (omega arith) small)
    ]

value_takes : (most : ℕ) (digits : List ℕ) (n : ℕ) → most < 2 ^ 64 → all_ascii_digits digits ≡ true → value_of most digits ≡ Some n → (n ≤ most) × (decimal n ≡ digits)
value_takes most digits n small all e =
    let g = cond_some (is_numeral digits && leb (value_after 0 digits) most) (value_after 0 digits) n e in
    let parts = and_both (is_numeral digits) (leb (value_after 0 digits) most) g.0 in
    let within : value_after 0 digits ≤ most = leb-true (value_after 0 digits) most parts.1 in
    let written = decimal-digits_value numerals digits all (numeral_some digits parts.0) (no_leading_zero digits parts.0) (omega (arith, within, small)) in
    subst (λ (m : ℕ). (m ≤ most) × (decimal m ≡ digits)) g.1 (within, written)

value_again : (most n : ℕ) → most < 2 ^ 64 → n ≤ most → value_of most (decimal n) ≡ Some n
value_again most n small within =
    let fits : n < 2 ^ 64 = omega arith in
    let value : value_after 0 (decimal n) ≡ n = digits_value-decimal numerals n fits in
    rw (is_numeral-decimal n fits, value, le-leb n most within) refl

-- digits before a byte that is none
prefix_len-digits : (digits : List ℕ) (end : ℕ) (rest : List ℕ) → all_ascii_digits digits ≡ true → is_ascii_digit end ≡ false → prefix_len is_ascii_digit (digits ++ end ∷ rest) ≡ length digits
prefix_len-digits [] end rest all ends = rw ends refl
prefix_len-digits (digit ∷ digits) end rest all ends =
    let parts = and_both (is_ascii_digit digit) (all_ascii_digits digits) all in
    let more = prefix_len-digits digits end rest parts.1 ends in
    let first = parts.0 in
    rw (first, more) (omega arith)

pub number_takes : (most end : ℕ) (bytes : List ℕ) (n : ℕ) (rest : List ℕ) → most < 2 ^ 64 → number_at most end bytes ≡ Some (n, rest) → (n ≤ most) × (bytes ≡ decimal n ++ end ∷ rest)
unfolding number_at
number_takes most end bytes n rest small e =
    let digits = take_while is_ascii_digit bytes in
    let others = drop (prefix_len is_ascii_digit bytes) bytes in
    let a = bind_some (value_of most digits) (λ number. byte_at end others >>= λ after. Some (number, after)) (n, rest) e in
    let b = bind_some (byte_at end others) (λ after. Some (a.0, after)) (n, rest) a.2 in
    let value = value_takes most digits a.0 small (all_digits-take_while bytes) a.1 in
    let ended = byte_takes end others b.0 b.1 in
    let whole : bytes ≡ digits ++ others = sym (take-append-drop (prefix_len is_ascii_digit bytes) bytes) in
    let text : bytes ≡ decimal a.0 ++ end ∷ b.0 = whole ∙ ap (λ (x : List ℕ). x ++ others) (sym value.1) ∙ ap (λ (x : List ℕ). decimal a.0 ++ x) ended in
    let found : (a.0, b.0) ≡ (n, rest) = cc in
    subst (λ (x : ℕ × List ℕ). (x.0 ≤ most) × (bytes ≡ decimal x.0 ++ end ∷ x.1)) found (value.0, text)

pub number_again : (most end n : ℕ) (rest : List ℕ) → most < 2 ^ 64 → is_ascii_digit end ≡ false → n ≤ most → number_at most end (decimal n ++ end ∷ rest) ≡ Some (n, rest)
unfolding number_at
number_again most end n rest small ends within =
    let len : length (decimal n) ≡ prefix_len is_ascii_digit (decimal n ++ end ∷ rest) = sym (prefix_len-digits (decimal n) end rest (digits_decimal numerals n (omega arith)) ends) in
    rw (take_at (decimal n) (end ∷ rest) (prefix_len is_ascii_digit (decimal n ++ end ∷ rest)) len, drop_at (decimal n) (end ∷ rest) (prefix_len is_ascii_digit (decimal n ++ end ∷ rest)) len, value_again most n small within, byte_again end rest) refl

optional_by-takes : (most end : ℕ) (bytes : List ℕ) (dash : Option (List ℕ)) (o : Option ℕ) (rest : List ℕ) → most < 2 ^ 64 → byte_at DASH bytes ≡ dash → optional_by most end bytes dash ≡ Some (o, rest) → IfSome o (λ n. n ≤ most) × (bytes ≡ optional o ++ end ∷ rest)
optional_by-takes most end bytes None o rest small is e =
    let a = bind_some (number_at most end bytes) (λ number. Some (Some number.0, number.1)) (o, rest) e in
    let t = number_takes most end bytes a.0.0 a.0.1 small a.1 in
    let found : (Some a.0.0, a.0.1) ≡ (o, rest) = cc in
    subst (λ (x : Option ℕ × List ℕ). IfSome x.0 (λ n. n ≤ most) × (bytes ≡ optional x.0 ++ end ∷ x.1)) found t
optional_by-takes most end bytes (Some after) o rest small is e =
    let a = bind_some (byte_at end after) (λ more. Some (None, more)) (o, rest) e in
    let text : bytes ≡ DASH ∷ end ∷ a.0 = byte_takes DASH bytes after is ∙ ap (λ (x : List ℕ). DASH ∷ x) (byte_takes end after a.0 a.1) in
    let nothing : Option ℕ = None in
    let found : (nothing, a.0) ≡ (o, rest) = cc in
    subst (λ (x : Option ℕ × List ℕ). IfSome x.0 (λ n. n ≤ most) × (bytes ≡ optional x.0 ++ end ∷ x.1)) found (tt, text)

pub optional_takes : (most end : ℕ) (bytes : List ℕ) (o : Option ℕ) (rest : List ℕ) → most < 2 ^ 64 → optional_at most end bytes ≡ Some (o, rest) → IfSome o (λ n. n ≤ most) × (bytes ≡ optional o ++ end ∷ rest)
unfolding optional_at
optional_takes most end bytes o rest small e = optional_by-takes most end bytes (byte_at DASH bytes) o rest small refl e

digits_no_dash : (digits rest : List ℕ) → 0 < length digits → all_ascii_digits digits ≡ true → byte_at DASH (digits ++ rest) ≡ None
digits_no_dash [] rest some all = absurd (omega arith)
digits_no_dash (digit ∷ digits) rest some all =
    let least : 48 ≤ digit = digit-least (digit ∷ digits) 0 all (omega arith) in
    rw (ne_eqb digit 45 (λ e. omega arith)) refl

pub optional_again : (most end : ℕ) (o : Option ℕ) (rest : List ℕ) → most < 2 ^ 64 → is_ascii_digit end ≡ false → IfSome o (λ n. n ≤ most) → optional_at most end (optional o ++ end ∷ rest) ≡ Some (o, rest)
unfolding optional_at
optional_again most end None rest small ends within = rw (byte_again end rest) refl
optional_again most end (Some n) rest small ends within =
    let fits : n < 2 ^ 64 = omega arith in
    rw (digits_no_dash (decimal n) (end ∷ rest) (decimal_nonempty n fits) (digits_decimal numerals n fits), number_again most end n rest small ends within) refl
