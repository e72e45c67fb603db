-- What `decimal` writes for a literal.
use Rattle.std.proofs.Common.{◌≡◌, ◌≢◌, ℕ, zero, suc, ◌-◌, ◌<◌, ◌≤◌, ◌^◌, List, length, get_or, Option, None, Some, MatchOption, sym, ap, subst, arith}
use Rattle.std.specs.Fmt.{decimal}
use Rattle.std.specs.Char.{digit_value}
use Rattle.std.specs.Str.Parse.{AllDigits, digits_value}
use Rattle.std.proofs.lemmas.Str.Parse.{IsNumeralModel, numerals_by_value, tells_digits, digit_at, digits_value_short}
use Rattle.std.proofs.lemmas.Fmt.{decimal_nonempty, digits_decimal, length-decimal-le, first_decimal, decimal_digit, decimal-digits_value}
use Rattle.std.proofs.lemmas.Bool.Decides.{nat_tests}
use Rattle.cr_tool.specs.Sums.{IsLiteral}

pub own : IsNumeralModel (AllDigits 10) (digits_value 10)
own = numerals_by_value (AllDigits 10) tells_digits

pub digit_value-ascii : (c : ℕ) → 48 ≤ c → c ≤ 57 → digit_value c ≡ c - 48
digit_value-ascii c low high = grind (arith, nat_tests)

pub literal_not_empty : (text : List ℕ) → length text ≡ 0 → (n : ℕ) → n < 10 ^ 9 → text ≢ decimal n
literal_not_empty text e n small is = omega (arith, ap length is, decimal_nonempty n (omega arith))

pub literal_not_long : (text : List ℕ) → 9 < length text → (n : ℕ) → n < 10 ^ 9 → text ≢ decimal n
literal_not_long text long n small is = omega (arith, ap length is, length-decimal-le 9 n (omega arith) small (omega arith))

pub literal_no_zero : (text : List ℕ) → 1 < length text → get_or text 0 0 ≡ 48 → (n : ℕ) → n < 10 ^ 9 → text ≢ decimal n
literal_no_zero text long zero_first zero small is = omega (arith, ap length is, ap length (decimal_digit 0 (omega arith)))
literal_no_zero text long zero_first (suc n) small is =
    omega (arith, zero_first, ap (λ (t : List ℕ). get_or t 0 0) is, first_decimal (suc n) (omega arith) (omega arith))

pub literal_digits : (n : ℕ) → n < 10 ^ 9 → AllDigits 10 (decimal n)
literal_digits n small = digits_decimal own n (omega arith)

pub literal_from_digits : (text : List ℕ) → AllDigits 10 text → 0 < length text → length text ≤ 9 → (get_or text 0 0 ≡ 48 → length text ≡ 1) → (digits_value 10 text < 10 ^ 9) × (text ≡ decimal (digits_value 10 text))
literal_from_digits text digits some short shape =
    let small = digits_value_short own text 9 digits short in
    (small, sym (decimal-digits_value own text digits some shape (omega arith)))

-- the answer of reading digits, as an answer of reading a literal
pub literal_cases : (r : Option ℕ) (text : List ℕ) → 0 < length text → length text ≤ 9 → (get_or text 0 0 ≡ 48 → length text ≡ 1) → MatchOption r (AllDigits 10 text → ⊥) (λ n. AllDigits 10 text × (n ≡ digits_value 10 text)) → MatchOption r ((n : ℕ) → IsLiteral n → text ≢ decimal n) (λ n. IsLiteral n × (text ≡ decimal n))
literal_cases None text some short shape none = λ n small is. none (subst (AllDigits 10) (sym is) (literal_digits n small))
literal_cases (Some n) text some short shape found =
    let read = literal_from_digits text found.0 some short shape in
    (rw found.1 read.0, rw found.1 read.1)

-- a literal has no space
pub literal_no_space : (n : ℕ) → IsLiteral n → (k : ℕ) → k < length (decimal n) → get_or (decimal n) k 0 ≢ 32
literal_no_space n small k within is = omega (arith, (digit_at (decimal n) k (literal_digits n small) within).0)
