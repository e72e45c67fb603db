-- Numbers are read from their bytes.
use Rattle.std.proofs.Common.{◌≡◌, ℕ, zero, suc, ◌+◌, ◌-◌, ◌*◌, ◌/◌, ◌%◌, ◌^◌, ◌<◌, ◌≤◌, Bool, true, false, cond, not, ◌&&◌, ◌||◌, List, [], ◌∷◌, ◌++◌, length, take, drop, ◌==◌, Option, Some, Ok, refl, sym, ap, subst, ◌∙◌, arith}
use Rattle.std.specs.Prelude.{nat_le, ℤ, pos, negsuc, codes}
use Rattle.std.specs.Fmt.{decimal}
use Rattle.std.proofs.lemmas.Fmt.{decimal_by_steps, decimal_digit}
use Rattle.std.proofs.lemmas.List.{append-nil}
use Rattle.std.specs.Str.{IsUtf8}
use Rattle.std.proofs.lemmas.Str.{IsUtf8-from_ascii}
use Rattle.std.proofs.lemmas.Str.Ascii.{IsAscii-cons}
use Rattle.std.proofs.Math.Seq.{take-append_seam, drop-append_seam}
use Rattle.std.proofs.lemmas.Bool.{le-leb, ne_eqb, and_from, and_parts, or_right, not-true}
use Rattle.cr_syntax.specs.declared.token.TokenKind.{TokenKind}
use Rattle.cr_syntax.specs.declared.token.TokenKind.TheVariants as k
use Rattle.cr_syntax.specs.Words.{is_digit, begins_name, begins_constant, is_word_byte, begins, all_word_bytes}
use Rattle.cr_syntax.specs.Numbers.{groups, small, big, typed, number_of, ends_number}
use Rattle.cr_syntax.specs.Lexes.{Before, takes_minus}
use Rattle.cr_lex.specs.Longest.{IsLongest}
use Rattle.cr_lex.specs.Numbers.{number_form}
use Rattle.cr_lex.specs.Step.{digit_form}
use Rattle.cr_lex.proofs.WordBytes.{ascii_words}
use Rattle.cr_lex.proofs.Values.{longest_number}
use Rattle.cr_lex.proofs.Dispatch.{by_digit, by_minus, digit_longest}
use Rattle.cr_pieces.specs.Bytes.{ends_line}
use Rattle.cr_pieces.specs.Pieces.{spelled}
use Rattle.cr_pieces.specs.Proper.{HasWidth}
use Rattle.cr_pieces.specs.Fits.{is_newline, number_stands}
use Rattle.cr_pieces.proofs.Read.{IsRead}
use Rattle.cr_pieces.proofs.Words.{digit_least, high_is_solid, words_line, word_length_is}
use Rattle.std.proofs.lemmas.List.{take_rest}
use Rattle.std.proofs.Common.{append_assoc}

-- ---- digits

digit_is : (d : ℕ) → d < 10 → is_digit (48 + d) ≡ true
digit_is d below = and_from (nat_le 48 (48 + d)) (nat_le (48 + d) 57) (le-leb 48 (48 + d) (omega arith)) (le-leb (48 + d) 57 (omega arith))

digit_word : (b : ℕ) → is_digit b ≡ true → is_word_byte b ≡ true
digit_word b e = or_right (begins_name b || begins_constant b) (is_digit b) e

word_append : (xs ys : List ℕ) → all_word_bytes xs ≡ true → all_word_bytes ys ≡ true → all_word_bytes (xs ++ ys) ≡ true
word_append [] ys p q = q
word_append (x ∷ xs) ys p q = and_from (is_word_byte x) (all_word_bytes (xs ++ ys)) (and_parts (is_word_byte x) (all_word_bytes xs) p).0 (word_append xs ys (and_parts (is_word_byte x) (all_word_bytes xs) p).1 q)

record Decimal (n : ℕ) (ds : List ℕ) : Type 0 where
  words : all_word_bytes ds ≡ true
  first : begins is_digit ds ≡ true
  value : (rest : List ℕ) → groups 0 (ds ++ rest) ≡ groups n rest
  no_zero : 0 < n → begins (λ c. c == 48) ds ≡ false

one_digit : (v d : ℕ) (rest : List ℕ) → d < 10 → groups v ((48 + d) ∷ rest) ≡ groups (10 * v + d) rest
one_digit v d rest below =
    let is = digit_is d below in let same : 48 + d - 48 ≡ d = omega arith in
    rw is (ap (λ (n : ℕ). groups (10 * v + n) rest) same)

decimal_one : (n : ℕ) → n < 10 → Decimal n ((48 + n) ∷ [])
decimal_one n below = record {
  words = and_from (is_word_byte (48 + n)) true (digit_word (48 + n) (digit_is n below)) refl;
  first = digit_is n below;
  value = λ rest. one_digit 0 n rest below ∙ ap (λ (m : ℕ). groups m rest) (omega arith);
  no_zero = λ some. ne_eqb (48 + n) 48 (λ e. absurd (omega arith));
}

begins_front : (p : ℕ → Bool) (q : ℕ → Bool) (t : Bool) (ds more : List ℕ) → begins q ds ≡ true → begins p ds ≡ t → begins p (ds ++ more) ≡ t
begins_front p q t [] more some e = absurd cc
begins_front p q t (x ∷ ds) more some e = e

decimal_more : (n : ℕ) (ds : List ℕ) → 10 ≤ n → Decimal (n / 10) ds → Decimal n (ds ++ ((48 + n % 10) ∷ []))
decimal_more n ds some d = record {
  words = word_append ds ((48 + n % 10) ∷ []) d.words (and_from (is_word_byte (48 + n % 10)) true (digit_word (48 + n % 10) (digit_is (n % 10) (omega arith))) refl);
  first = begins_front is_digit is_digit true ds ((48 + n % 10) ∷ []) d.first d.first;
  value = λ rest. ap (groups 0) (append_assoc ds ((48 + n % 10) ∷ []) rest) ∙ d.value ((48 + n % 10) ∷ rest) ∙ one_digit (n / 10) (n % 10) rest (omega arith) ∙ ap (λ (m : ℕ). groups m rest) (omega arith);
  no_zero = λ _. begins_front (λ c. c == 48) is_digit false ds ((48 + n % 10) ∷ []) d.first (d.no_zero (omega arith));
}

decimal_is : (n : ℕ) → n < 2 ^ 64 → Decimal n (decimal n)
decimal_is n below = decimal_by_steps Decimal decimal_one decimal_more n below

abbrev typed_at : Bool → ℕ × List ℕ → Option TokenKind
typed_at minus p = typed minus p.0 p.1

-- the value of digits, with what stands behind them
digits_are : (n : ℕ) (ds rest : List ℕ) → Decimal n ds → groups n rest ≡ (n, rest) → (n ≡ 0 → ds ≡ 48 ∷ []) → (minus : Bool) → number_of minus (ds ++ rest) ≡ typed minus n rest
digits_are n [] rest d e z minus = absurd (let no : begins is_digit [] ≡ true = d.first in cc)
digits_are zero (b ∷ bs) rest d e z minus = ap (λ (xs : List ℕ). number_of minus (xs ++ rest)) (z refl)
digits_are (suc n) (b ∷ bs) rest d e z minus =
    let no = d.no_zero (omega arith) in
    let digit : is_digit b ≡ true = d.first in
    let v = d.value rest in
    let zero_is : 10 * 0 + (b - 48) ≡ b - 48 = omega arith in
    let here : groups (b - 48) (bs ++ rest) ≡ (suc n, rest) = ap (λ (m : ℕ). groups m (bs ++ rest)) (sym zero_is) ∙ sym (ap (λ (t : Bool). cond t (groups (10 * 0 + (b - 48)) (bs ++ rest)) (cond (b == 95 && begins is_digit (bs ++ rest)) (groups 0 (bs ++ rest)) (0, b ∷ (bs ++ rest)))) digit) ∙ v ∙ e in
    ap (λ (t : Bool). typed_at minus (cond t (0, bs ++ rest) (groups (b - 48) (bs ++ rest)))) no ∙ ap (typed_at minus) here

-- ---- the longest number

ended_words : (after : List ℕ) → ends_number after ≡ true → begins is_word_byte after ≡ false
ended_words [] e = refl
ended_words (b ∷ bs) e = not-true (is_word_byte b) (and_parts (not (is_word_byte b)) (not (b == 46 && begins is_digit bs)) e).0

number_longest : (minus : Bool) (xs after : List ℕ) (kind : TokenKind) → all_word_bytes xs ≡ true → begins is_digit xs ≡ true → ends_number after ≡ true → number_of minus xs ≡ Some kind
    → IsLongest (number_form minus) (xs ++ after) (length xs) kind
number_longest minus xs after kind words digit s e =
    let n = word_length_is xs after words (ended_words after s) in
    subst (λ (i : ℕ). IsLongest (number_form minus) (xs ++ after) i kind) n
    (longest_number minus (xs ++ after) kind (begins_front is_digit is_digit true xs after digit digit)
    (ap (λ (i : ℕ). ends_number (drop i (xs ++ after))) n ∙ ap ends_number (drop-append_seam xs after) ∙ s)
    (sym (ap (λ (i : ℕ). number_of minus (take i (xs ++ after))) n ∙ ap (number_of minus) (take-append_seam xs after) ∙ e)))

-- a number without sign
plain_read : (before : Before) (s : Bool) (kind : TokenKind) (after xs : List ℕ) → spelled kind ≡ xs → all_word_bytes xs ≡ true → begins is_digit xs ≡ true → number_of false xs ≡ Some kind
    → is_newline kind ≡ false → ends_number after ≡ true → IsRead before s kind after
plain_read before s kind after [] are words digit is no_line stopped = absurd cc
plain_read before s kind after (b ∷ bs) are words digit is no_line stopped =
    let least = digit_least b digit in record {
      head = b;
      rest = bs;
      are = are;
      solid = high_is_solid b (omega arith);
      utf8 = subst IsUtf8 (sym are) (IsUtf8-from_ascii (b ∷ bs) (ascii_words (b ∷ bs) words));
      ends = ap ends_line are ∙ words_line b bs (ne_eqb b 10 (λ e. absurd (omega arith))) (and_parts (is_word_byte b) (all_word_bytes bs) words).1 ∙ sym no_line;
      longest =
          let long = digit_longest (b ∷ (bs ++ after)) (suc (length bs)) kind digit (omega arith) (number_longest false (b ∷ bs) after kind words digit stopped is) in
          let one : suc (length bs) - 1 ≡ length bs = omega arith in
          by_digit before s 0 (b ∷ (bs ++ after)) (Ok (kind, length bs)) (omega arith) digit (subst (λ (n : ℕ). IsLongest (digit_form b) (bs ++ after) n kind) one long);
    }

no_sign : (x y : Bool) → x ≡ true → y ≡ true → not (x && y) ≡ false
no_sign true true p q = refl
no_sign true false p q = absurd cc
no_sign false y p q = absurd cc

-- a number with its sign, where it takes one
signed_read : (before : Before) (s : Bool) (kind : TokenKind) (after xs : List ℕ) → takes_minus before s ≡ true → spelled kind ≡ 45 ∷ xs → all_word_bytes xs ≡ true → begins is_digit xs ≡ true
    → number_of true xs ≡ Some kind → is_newline kind ≡ false → ends_number after ≡ true → IsRead before s kind after
signed_read before s kind after xs takes are words digit is no_line stopped = record {
  head = 45;
  rest = xs;
  are = are;
  solid = refl;
  utf8 = subst IsUtf8 (sym are) (IsUtf8-from_ascii (45 ∷ xs) (IsAscii-cons 45 xs (omega arith) (ascii_words xs words)));
  ends = ap ends_line are ∙ words_line 45 xs refl words ∙ sym no_line;
  longest =
      let first : begins is_digit (xs ++ after) ≡ true = begins_front is_digit is_digit true xs after digit digit in
      by_minus before s 0 (45 ∷ (xs ++ after)) (Ok (kind, length xs)) (omega arith) refl refl refl (λ e. cc) (λ e. cc) refl (no_sign (begins is_digit (xs ++ after)) (takes_minus before s) first takes)
      (subst (λ (bs : List ℕ). IsLongest (number_form true) bs (length xs) kind) (sym (take_rest (45 ∷ (xs ++ after)) 1)) (number_longest true xs after kind words digit stopped is));
}

-- ---- Int32 and Int64

fits_so : (n limit : ℕ) → n < limit → nat_le (n + 1) limit ≡ true
fits_so n limit below = le-leb (n + 1) limit (omega arith)

fits_under : (n limit : ℕ) → n < limit → nat_le (suc n) limit ≡ true
fits_under n limit below = le-leb (suc n) limit (omega arith)

small_plain : (n : ℕ) → n < 2 ^ 31 → small false n ≡ Some (k.Int32 (pos n))
small_plain n below = let ok = fits_so n (2 ^ 31) below in rw ok refl

small_signed : (n : ℕ) → n < 2 ^ 31 → small true (suc n) ≡ Some (k.Int32 (negsuc n))
small_signed n below = let ok = fits_under n (2 ^ 31) below in rw ok refl

big_plain : (n : ℕ) → n < 2 ^ 63 → big false n ≡ Some (k.Int64 (pos n))
big_plain n below = let ok = fits_so n (2 ^ 63) below in rw ok refl

big_signed : (n : ℕ) → n < 2 ^ 63 → big true (suc n) ≡ Some (k.Int64 (negsuc n))
big_signed n below = let ok = fits_under n (2 ^ 63) below in rw ok refl

zero_digit : (n : ℕ) → n ≡ 0 → decimal n ≡ 48 ∷ []
zero_digit n e = ap decimal e ∙ decimal_digit 0 (omega arith)

abbrev wide : List ℕ
wide = codes "_i64"

small_number : (n : ℕ) → n < 2 ^ 64 → (minus : Bool) → number_of minus (decimal n) ≡ small minus n
small_number n below minus = ap (number_of minus) (sym (append-nil (decimal n))) ∙ digits_are n (decimal n) [] (decimal_is n below) refl (zero_digit n) minus

big_number : (n : ℕ) → n < 2 ^ 64 → (minus : Bool) → number_of minus (decimal n ++ wide) ≡ big minus n
big_number n below minus = digits_are n (decimal n) wide (decimal_is n below) refl (zero_digit n) minus

pub int_read : (before : Before) (s : Bool) (n : ℤ) (after : List ℕ) → HasWidth (2 ^ 31) n → number_stands before s n after ≡ true → IsRead before s (k.Int32 n) after
int_read before s (pos n) after has e =
    let d = decimal_is n (omega arith) in
    plain_read before s (k.Int32 (pos n)) after (decimal n) refl d.words d.first (small_number n (omega arith) false ∙ small_plain n has) refl e
int_read before s (negsuc n) after has e =
    let d = decimal_is (suc n) (omega arith) in
    let both = and_parts (ends_number after) (takes_minus before s) e in
    signed_read before s (k.Int32 (negsuc n)) after (decimal (suc n)) both.1 refl d.words d.first (small_number (suc n) (omega arith) true ∙ small_signed n has) refl both.0

pub long_read : (before : Before) (s : Bool) (n : ℤ) (after : List ℕ) → HasWidth (2 ^ 63) n → number_stands before s n after ≡ true → IsRead before s (k.Int64 n) after
long_read before s (pos n) after has e =
    let d = decimal_is n (omega arith) in
    plain_read before s (k.Int64 (pos n)) after (decimal n ++ wide) refl (word_append (decimal n) wide d.words refl) (begins_front is_digit is_digit true (decimal n) wide d.first d.first)
    (big_number n (omega arith) false ∙ big_plain n has) refl e
long_read before s (negsuc n) after has e =
    let d = decimal_is (suc n) (omega arith) in
    let both = and_parts (ends_number after) (takes_minus before s) e in
    signed_read before s (k.Int64 (negsuc n)) after (decimal (suc n) ++ wide) both.1 refl (word_append (decimal (suc n)) wide d.words refl) (begins_front is_digit is_digit true (decimal (suc n)) wide d.first d.first)
    (big_number (suc n) (omega arith) true ∙ big_signed n has) refl both.0

pub digit_first : (n : ℕ) → n < 2 ^ 64 → begins is_digit (decimal n) ≡ true
digit_first n below = (decimal_is n below).first
