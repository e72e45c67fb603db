-- Letters, digits and `_` at the front.
use Rattle.std.proofs.Common.{◌≡◌, ℕ, zero, suc, ◌<◌, ◌≤◌, Bool, true, false, cond, not, ◌&&◌, ◌||◌, List, [], ◌∷◌, length, take, drop, ◌==◌, Some, None, refl, ap, arith, inl, inr}
use Rattle.std.proofs.lemmas.Str.Ascii.{IsAscii-cons, IsAscii-nil}
use Rattle.std.specs.Str.{IsAscii, IsUtf8}
use Rattle.std.proofs.lemmas.Str.{IsUtf8-from_ascii}
use Rattle.std.specs.Prelude.{nat_le}
use Rattle.std.proofs.lemmas.Bool.{leb-true, eqb-true, and_from, and_parts, both_ways, or_cases, or_left}
use Rattle.cr_syntax.specs.declared.token.TokenKind.{TokenKind}
use Rattle.cr_syntax.specs.declared.token.TokenKind.TheVariants as k
use Rattle.cr_syntax.specs.Words.{is_digit, begins_name, begins_constant, is_word_byte, begins, all_word_bytes}
use Rattle.cr_syntax.specs.Numbers.{ends_number}
use Rattle.cr_syntax.specs.Lexes.{when}
use Rattle.cr_lex.specs.Longest.{IsLongest, HasNone}
use Rattle.cr_lex.specs.Words.{word_length, constant_form, variable_form}

-- the bytes up to the length are all of them, and no more
pub take_words : (bs : List ℕ) → all_word_bytes (take (word_length bs) bs) ≡ true
take_words [] = refl
take_words (b ∷ bs) = by_test (is_word_byte b) refl (take_words bs)
  where
    by_test : (t : Bool) → is_word_byte b ≡ t → all_word_bytes (take (word_length bs) bs) ≡ true → all_word_bytes (take (cond t (suc (word_length bs)) 0) (b ∷ bs)) ≡ true
    by_test true is rest = and_from (is_word_byte b) (all_word_bytes (take (word_length bs) bs)) is rest
    by_test false is rest = refl

pub words_within : (bs : List ℕ) (m : ℕ) → m ≤ length bs → all_word_bytes (take m bs) ≡ true → m ≤ word_length bs
words_within bs zero within e = omega arith
words_within [] (suc m) within e = absurd (omega arith)
words_within (b ∷ bs) (suc m) within e =
    let rest : m ≤ word_length bs = words_within bs m (omega arith) (and_parts (is_word_byte b) (all_word_bytes (take m bs)) e).1 in
    let is : is_word_byte b ≡ true = (and_parts (is_word_byte b) (all_word_bytes (take m bs)) e).0 in
    let here : word_length (b ∷ bs) ≡ suc (word_length bs) = ap (λ (t : Bool). cond t (suc (word_length bs)) 0) is in
    omega arith

pub length_within : (bs : List ℕ) → word_length bs ≤ length bs
length_within [] = omega arith
length_within (b ∷ bs) = by_test (is_word_byte b) (length_within bs)
  where
    by_test : (t : Bool) → word_length bs ≤ length bs → cond t (suc (word_length bs)) 0 ≤ suc (length bs)
    by_test true rest = omega arith
    by_test false rest = omega arith

is_word_first : (b : ℕ) (n : ℕ) (m : ℕ) → m < cond (is_word_byte b) (suc n) 0 → is_word_byte b ≡ true
is_word_first b n m below = by_test (is_word_byte b) below
  where
    by_test : (t : Bool) → m < cond t (suc n) 0 → t ≡ true
    by_test true below = refl
    by_test false below = absurd (omega arith)

pub word_follows : (bs : List ℕ) (m : ℕ) → m < word_length bs → begins is_word_byte (drop m bs) ≡ true
word_follows [] m below = absurd (omega arith)
word_follows (b ∷ bs) zero below = is_word_first b (word_length bs) 0 below
word_follows (b ∷ bs) (suc m) below =
    let is : is_word_byte b ≡ true = is_word_first b (word_length bs) (suc m) below in
    let here : word_length (b ∷ bs) ≡ suc (word_length bs) = ap (λ (t : Bool). cond t (suc (word_length bs)) 0) is in
    word_follows bs m (omega arith)

not_ended : (bs : List ℕ) → begins is_word_byte bs ≡ true → ends_number bs ≡ false
not_ended [] e = absurd cc
not_ended (b ∷ bs) e = ap (λ (t : Bool). not t && not (b == 46 && begins is_digit bs)) e

pub number_goes_on : (bs : List ℕ) (m : ℕ) → m < word_length bs → ends_number (drop m bs) ≡ false
number_goes_on bs m below = not_ended (drop m bs) (word_follows bs m below)

pub when_false : (t : Bool) (kind : TokenKind) → (t ≡ true → ⊥) → when t kind ≡ None
when_false true kind never = absurd (never refl)
when_false false kind never = refl

pub when_true : (t : Bool) (kind : TokenKind) → t ≡ true → when t kind ≡ Some kind
when_true t kind e = ap (λ (b : Bool). when b kind) e

pub longest_constant : (b : ℕ) (bs : List ℕ) → IsLongest (constant_form b) bs (word_length bs) (k.Constant (b ∷ take (word_length bs) bs))
longest_constant b bs = record {
  within = length_within bs;
  here = when_true (all_word_bytes (take (word_length bs) bs)) (k.Constant (b ∷ take (word_length bs) bs)) (take_words bs);
  longest = λ m above within. when_false (all_word_bytes (take m bs)) (k.Constant (b ∷ take m bs))
      (λ all. let le : m ≤ word_length bs = words_within bs m within all in absurd (omega arith));
}

begins_take : (bs : List ℕ) (n : ℕ) → begins begins_name bs ≡ true → 0 < n → begins begins_name (take n bs) ≡ true
begins_take bs zero e some = absurd (omega arith)
begins_take [] (suc n) e some = e
begins_take (b ∷ bs) (suc n) e some = e

name_is_word : (b : ℕ) → begins_name b ≡ true → is_word_byte b ≡ true
name_is_word b e = or_left (begins_name b || begins_constant b) (is_digit b) (or_left (begins_name b) (begins_constant b) e)

some_word : (bs : List ℕ) → begins begins_name bs ≡ true → 0 < word_length bs
some_word [] e = absurd cc
some_word (b ∷ bs) e = let here : word_length (b ∷ bs) ≡ suc (word_length bs) = ap (λ (t : Bool). cond t (suc (word_length bs)) 0) (name_is_word b e) in omega arith

pub longest_variable : (bs : List ℕ) → begins begins_name bs ≡ true → IsLongest variable_form bs (word_length bs) (k.InstanceVariable (take (word_length bs) bs))
longest_variable bs e = record {
  within = length_within bs;
  here = when_true (begins begins_name (take (word_length bs) bs) && all_word_bytes (take (word_length bs) bs)) (k.InstanceVariable (take (word_length bs) bs))
      (and_from (begins begins_name (take (word_length bs) bs)) (all_word_bytes (take (word_length bs) bs)) (begins_take bs (word_length bs) e (some_word bs e)) (take_words bs));
  longest = λ m above within. when_false (begins begins_name (take m bs) && all_word_bytes (take m bs)) (k.InstanceVariable (take m bs))
      (λ all. let le : m ≤ word_length bs = words_within bs m within (and_parts (begins begins_name (take m bs)) (all_word_bytes (take m bs)) all).1 in absurd (omega arith));
}

no_begin : (bs : List ℕ) (n : ℕ) → begins begins_name bs ≡ false → begins begins_name (take n bs) ≡ false
no_begin bs zero e = refl
no_begin [] (suc n) e = refl
no_begin (b ∷ bs) (suc n) e = e

pub no_variable : (bs : List ℕ) → begins begins_name bs ≡ false → HasNone variable_form bs
no_variable bs e m within = when_false (begins begins_name (take m bs) && all_word_bytes (take m bs)) (k.InstanceVariable (take m bs))
    (λ all. absurd (both_ways (begins begins_name (take m bs)) (no_begin bs m e) (and_parts (begins begins_name (take m bs)) (all_word_bytes (take m bs)) all).0))

-- such bytes are ASCII
digit_is_ascii : (b : ℕ) → is_digit b ≡ true → b < 128
digit_is_ascii b e = let le : b ≤ 57 = leb-true b 57 (and_parts (nat_le 48 b) (nat_le b 57) e).1 in omega arith

pub name_is_ascii : (b : ℕ) → begins_name b ≡ true → b < 128
name_is_ascii b e = elim (or_cases (nat_le 97 b && nat_le b 122) (b == 95) e) [
  | inl letter ↦ (let le : b ≤ 122 = leb-true b 122 (and_parts (nat_le 97 b) (nat_le b 122) letter).1 in omega arith)
  | inr line ↦ (let is : b ≡ 95 = eqb-true b 95 line in omega arith)
]

constant_is_ascii : (b : ℕ) → begins_constant b ≡ true → b < 128
constant_is_ascii b e = let le : b ≤ 90 = leb-true b 90 (and_parts (nat_le 65 b) (nat_le b 90) e).1 in omega arith

pub word_is_ascii : (b : ℕ) → is_word_byte b ≡ true → b < 128
word_is_ascii b e = elim (or_cases (begins_name b || begins_constant b) (is_digit b) e) [
  | inr digit ↦ digit_is_ascii b digit
  | inl letter ↦ elim (or_cases (begins_name b) (begins_constant b) letter) [ inl name ↦ name_is_ascii b name | inr constant ↦ constant_is_ascii b constant ]
]

pub ascii_words : (bs : List ℕ) → all_word_bytes bs ≡ true → IsAscii bs
ascii_words [] e = IsAscii-nil
ascii_words (b ∷ bs) e = IsAscii-cons b bs (word_is_ascii b (and_parts (is_word_byte b) (all_word_bytes bs) e).0) (ascii_words bs (and_parts (is_word_byte b) (all_word_bytes bs) e).1)

pub utf8_words : (bs : List ℕ) → IsUtf8 (take (word_length bs) bs)
utf8_words bs = IsUtf8-from_ascii (take (word_length bs) bs) (ascii_words (take (word_length bs) bs) (take_words bs))

pub utf8_constant : (b : ℕ) (bs : List ℕ) → begins_constant b ≡ true → IsUtf8 (b ∷ take (word_length bs) bs)
utf8_constant b bs e = IsUtf8-from_ascii (b ∷ take (word_length bs) bs) (IsAscii-cons b (take (word_length bs) bs) (constant_is_ascii b e) (ascii_words (take (word_length bs) bs) (take_words bs)))
