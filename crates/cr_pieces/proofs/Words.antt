-- Words, constants and instance variables are read from their bytes.
use Rattle.std.proofs.Common.{◌≡◌, ℕ, suc, ◌≤◌, Bool, cond, true, false, not, ◌&&◌, ◌||◌, List, [], ◌∷◌, ◌++◌, length, take, ◌==◌, Ok, refl, sym, ap, subst, ◌∙◌, arith, inl, inr}
use Rattle.std.specs.Prelude.{nat_le}
use Rattle.std.specs.Str.{IsUtf8}
use Rattle.std.proofs.Math.Seq.{take-append_seam}
use Rattle.std.proofs.lemmas.Bool.{leb-true, eqb-true, ne_eqb, lt-leb, and_parts, or_parts, or_cases, or_left, not-true}
use Rattle.std.proofs.lemmas.Str.Ascii.{IsAscii-cons}
use Rattle.std.proofs.lemmas.Str.{IsUtf8-from_ascii}
use Rattle.cr_syntax.specs.declared.token.TokenKind.{TokenKind}
use Rattle.cr_syntax.specs.declared.token.TokenKind.TheVariants as k
use Rattle.cr_syntax.specs.Words.{is_digit, begins_name, begins_constant, is_word_byte, is_mark, begins, all_word_bytes, is_word_end, word_of}
use Rattle.cr_syntax.specs.Lexes.{Before}
use Rattle.cr_lex.specs.Longest.{IsLongest}
use Rattle.cr_lex.specs.Words.{word_form, constant_form, variable_form, marked_length, word_length, is_equal}
use Rattle.cr_lex.proofs.WordBytes.{ascii_words, longest_constant, longest_variable}
use Rattle.cr_lex.proofs.Marked.{longest_word, utf8_word}
use Rattle.cr_lex.proofs.Dispatch.{by_word, by_constant}
use Rattle.cr_pieces.specs.Bytes.{is_gap, ends_line}
use Rattle.cr_pieces.specs.Pieces.{spelled}
use Rattle.cr_pieces.specs.Proper.{IsName, IsConstantName, IsVariableName}
use Rattle.cr_pieces.specs.Fits.{is_newline, is_marked, ends_word}
use Rattle.cr_pieces.proofs.Read.{IsRead}

-- ---- bytes that begin words

-- a letter or `_` is no blank and no `#`
pub name_least : (b : ℕ) → begins_name b ≡ true → 95 ≤ b
name_least b e = elim (or_cases (nat_le 97 b && nat_le b 122) (b == 95) e) [
  | inl letter ↦ (let le : 97 ≤ b = leb-true 97 b (and_parts (nat_le 97 b) (nat_le b 122) letter).0 in omega arith)
  | inr line ↦ (let is : b ≡ 95 = eqb-true b 95 line in omega arith)
]

pub constant_least : (b : ℕ) → begins_constant b ≡ true → 65 ≤ b
constant_least b e = leb-true 65 b (and_parts (nat_le 65 b) (nat_le b 90) e).0

constant_most : (b : ℕ) → begins_constant b ≡ true → b ≤ 90
constant_most b e = leb-true b 90 (and_parts (nat_le 65 b) (nat_le b 90) e).1

pub digit_least : (b : ℕ) → is_digit b ≡ true → 48 ≤ b
digit_least b e = leb-true 48 b (and_parts (nat_le 48 b) (nat_le b 57) e).0

pub high_is_no_digit : (b : ℕ) → 58 ≤ b → is_digit b ≡ false
high_is_no_digit b le = by_test (nat_le 48 b)
  where
    by_test : (t : Bool) → (t && nat_le b 57) ≡ false
    by_test true = lt-leb b 57 (omega arith)
    by_test false = refl

pub high_is_solid : (b : ℕ) → 36 ≤ b → is_gap b ≡ false
high_is_solid b le =
    let a = ne_eqb b 32 (λ e. absurd (omega arith)) in let c = ne_eqb b 9 (λ e. absurd (omega arith)) in
    let d = ne_eqb b 13 (λ e. absurd (omega arith)) in let f = ne_eqb b 35 (λ e. absurd (omega arith)) in
    rw (a, c, d, f) refl

constant_is_no_name : (b : ℕ) → begins_constant b ≡ true → begins_name b ≡ false
constant_is_no_name b e =
    let most = constant_most b e in
    let low = lt-leb 97 b (omega arith) in let line = ne_eqb b 95 (λ is. absurd (omega arith)) in rw (low, line) refl

-- ---- no word ends a line

pub word_is_no_line : (b : ℕ) → (is_word_byte b || is_mark b) ≡ true → (b == 10) ≡ false
word_is_no_line b e = ne_eqb b 10 (λ is. absurd (let no : (is_word_byte 10 || is_mark 10) ≡ true = subst (λ (c : ℕ). (is_word_byte c || is_mark c) ≡ true) is e in cc))

or_and : (x y z : Bool) → (x || (y && z)) ≡ true → (x || y) ≡ true
or_and true y z e = refl
or_and false true z e = refl
or_and false false z e = absurd cc

word_line : (b : ℕ) (bs : List ℕ) → (b == 10) ≡ false → is_word_end bs [] ≡ true → ends_line (b ∷ bs) ≡ false
word_line b [] e f = e
word_line b (c ∷ []) e f = word_is_no_line c (or_and (is_word_byte c) (is_mark c) true f)
word_line b (c ∷ d ∷ bs) e f =
    let both = and_parts (is_word_byte c) (is_word_end (d ∷ bs) []) f in
    word_line c (d ∷ bs) (word_is_no_line c (or_left (is_word_byte c) (is_mark c) both.0)) both.1

pub words_line : (b : ℕ) (bs : List ℕ) → (b == 10) ≡ false → all_word_bytes bs ≡ true → ends_line (b ∷ bs) ≡ false
words_line b [] e w = e
words_line b (c ∷ bs) e w =
    let both = and_parts (is_word_byte c) (all_word_bytes bs) w in
    words_line c bs (word_is_no_line c (or_left (is_word_byte c) (is_mark c) both.0)) both.1

-- ---- words

module _ (after : List ℕ) (none : marked_length after ≡ 0) where
  marked_last : (b : ℕ) → is_word_end (b ∷ []) [] ≡ true → (is_mark b && begins is_equal after) ≡ false → marked_length (b ∷ after) ≡ 1
  marked_last b e apart = by_tests (is_word_byte b) (is_mark b) (begins is_equal after) e apart
    where
      by_tests : (t u v : Bool) → (t || (u && true)) ≡ true → (u && v) ≡ false → cond t (suc (marked_length after)) (cond (u && not v) 1 0) ≡ 1
      by_tests true u v e apart = ap suc none
      by_tests false true true e apart = absurd cc
      by_tests false true false e apart = refl
      by_tests false false v e apart = absurd cc

  marked_is : (bs : List ℕ) → is_word_end bs [] ≡ true → (is_marked bs && begins is_equal after) ≡ false → marked_length (bs ++ after) ≡ length bs
  marked_is [] e apart = none
  marked_is (b ∷ []) e apart = marked_last b e apart
  marked_is (b ∷ c ∷ bs) e apart =
      let both = and_parts (is_word_byte b) (is_word_end (c ∷ bs) []) e in
      let word = both.0 in
      let rest = marked_is (c ∷ bs) both.1 apart in
      rw word (ap suc rest)

-- what a word's end says of what stands behind it
record Ended (text after : List ℕ) : Type 0 where
  none : marked_length after ≡ 0
  apart : (is_marked text && begins is_equal after) ≡ false

swap_false : (x y : Bool) → (x && y) ≡ false → (y && x) ≡ false
swap_false true true e = e
swap_false true false e = refl
swap_false false true e = refl
swap_false false false e = refl

nothing_after : (x : Bool) → (x && false) ≡ false
nothing_after true = refl
nothing_after false = refl

ended : (text after : List ℕ) → ends_word text after ≡ true → Ended text after
ended text [] e = record { none = refl; apart = nothing_after (is_marked text) }
ended text (b ∷ bs) e =
    let both = and_parts (not (is_word_byte b || is_mark b)) (not (b == 61 && is_marked text)) e in
    let no = or_parts (is_word_byte b) (is_mark b) (not-true (is_word_byte b || is_mark b) both.0) in
    let word = no.0 in let mark = no.1 in
    record { none = rw (word, mark) refl; apart = swap_false (b == 61) (is_marked text) (not-true (b == 61 && is_marked text) both.1) }

-- the first byte of a name is no mark, so a mark is one of the rest
rest_marked : (b : ℕ) (bs : List ℕ) (x : Bool) → (is_marked (b ∷ bs) && x) ≡ false → (is_marked bs && x) ≡ false
rest_marked b [] x e = refl
rest_marked b (c ∷ bs) x e = e

word_longest : (b : ℕ) (bs after : List ℕ) → is_word_end bs [] ≡ true → ends_word (b ∷ bs) after ≡ true → IsLongest (word_form b) (bs ++ after) (length bs) (word_of (b ∷ bs))
word_longest b bs after e s =
    let end : Ended (b ∷ bs) after = ended (b ∷ bs) after s in
    let n : marked_length (bs ++ after) ≡ length bs = marked_is after end.none bs e (rest_marked b bs (begins is_equal after) end.apart) in
    subst (λ (text : List ℕ). IsLongest (word_form b) (bs ++ after) (length bs) (word_of (b ∷ text))) (take-append_seam bs after)
    (subst (λ (i : ℕ). IsLongest (word_form b) (bs ++ after) i (word_of (b ∷ take i (bs ++ after)))) n (longest_word b (bs ++ after)))

name_utf8 : (b : ℕ) (bs : List ℕ) → begins_name b ≡ true → is_word_end bs [] ≡ true → IsUtf8 (b ∷ bs)
name_utf8 b bs name ends =
    let n : marked_length (bs ++ []) ≡ length bs = marked_is [] refl bs ends (nothing_after (is_marked bs)) in
    subst IsUtf8 (ap (λ (text : List ℕ). b ∷ text) (ap (λ (i : ℕ). take i (bs ++ [])) n ∙ take-append_seam bs [])) (utf8_word b (bs ++ []) name)

pub word_no_line : (b : ℕ) (bs : List ℕ) → begins_name b ≡ true → is_word_end bs [] ≡ true → ends_line (b ∷ bs) ≡ false
word_no_line b bs name ends = let least = name_least b name in word_line b bs (ne_eqb b 10 (λ e. absurd (omega arith))) ends

-- a word of this kind, a name or a keyword
pub word_read : (before : Before) (s : Bool) (kind : TokenKind) (after : List ℕ) (b : ℕ) (bs : List ℕ) → spelled kind ≡ b ∷ bs → begins_name b ≡ true → is_word_end bs [] ≡ true
    → word_of (b ∷ bs) ≡ kind → is_newline kind ≡ false → ends_word (b ∷ bs) after ≡ true → IsRead before s kind after
word_read before s kind after b bs are name ends is no_line stopped =
    let least = name_least b name in record {
      head = b;
      rest = bs;
      are = are;
      solid = high_is_solid b (omega arith);
      utf8 = subst IsUtf8 (sym are) (name_utf8 b bs name ends);
      ends = ap ends_line are ∙ word_no_line b bs name ends ∙ sym no_line;
      longest =
          let long : IsLongest (word_form b) (bs ++ after) (length bs) kind = subst (IsLongest (word_form b) (bs ++ after) (length bs)) is (word_longest b bs after ends stopped) in
          by_word before s 0 (b ∷ (bs ++ after)) (Ok (kind, length bs)) (omega arith) (high_is_no_digit b (omega arith)) name (λ f. long);
    }

pub name_read : (before : Before) (s : Bool) (name after : List ℕ) → IsName name → ends_word name after ≡ true → IsRead before s (k.Ident name) after
name_read before s [] after is e = absurd is
name_read before s (b ∷ bs) after is e = word_read before s (k.Ident (b ∷ bs)) after b bs refl is.0 is.1 is.2 refl e

-- ---- constants and instance variables

pub word_length_is : (xs after : List ℕ) → all_word_bytes xs ≡ true → begins is_word_byte after ≡ false → word_length (xs ++ after) ≡ length xs
word_length_is [] [] e s = refl
word_length_is [] (b ∷ bs) e s = rw s refl
word_length_is (x ∷ xs) after e s =
    let both = and_parts (is_word_byte x) (all_word_bytes xs) e in let word = both.0 in rw word (ap suc (word_length_is xs after both.1 s))

pub constant_read : (before : Before) (s : Bool) (name after : List ℕ) → IsConstantName name → begins is_word_byte after ≡ false → IsRead before s (k.Constant name) after
constant_read before s [] after is e = absurd is
constant_read before s (b ∷ bs) after is e =
    let least = constant_least b is.0 in let most = constant_most b is.0 in record {
      head = b;
      rest = bs;
      are = refl;
      solid = high_is_solid b (omega arith);
      utf8 = IsUtf8-from_ascii (b ∷ bs) (IsAscii-cons b bs (omega arith) (ascii_words bs is.1));
      ends = words_line b bs (ne_eqb b 10 (λ e. absurd (omega arith))) is.1;
      longest =
          let n = word_length_is bs after is.1 e in
          let long : IsLongest (constant_form b) (bs ++ after) (length bs) (k.Constant (b ∷ bs)) =
          subst (λ (text : List ℕ). IsLongest (constant_form b) (bs ++ after) (length bs) (k.Constant (b ∷ text))) (take-append_seam bs after)
          (subst (λ (i : ℕ). IsLongest (constant_form b) (bs ++ after) i (k.Constant (b ∷ take i (bs ++ after)))) n (longest_constant b (bs ++ after))) in
          by_constant before s 0 (b ∷ (bs ++ after)) (Ok (k.Constant (b ∷ bs), length bs)) (omega arith) (high_is_no_digit b (omega arith)) (constant_is_no_name b is.0) is.0 (λ f. long);
    }

name_is_word : (b : ℕ) → begins_name b ≡ true → is_word_byte b ≡ true
name_is_word b e = or_left (begins_name b || begins_constant b) (is_digit b) (or_left (begins_name b) (begins_constant b) e)

pub variable_read : (before : Before) (s : Bool) (name after : List ℕ) → IsVariableName name → begins is_word_byte after ≡ false → IsRead before s (k.InstanceVariable name) after
variable_read before s [] after is e = absurd is
variable_read before s (b ∷ bs) after is e =
    let word = name_is_word b is.0 in
    let all : all_word_bytes (b ∷ bs) ≡ true = rw word is.1 in record {
      head = 64;
      rest = b ∷ bs;
      are = refl;
      solid = refl;
      utf8 = IsUtf8-from_ascii (64 ∷ b ∷ bs) (IsAscii-cons 64 (b ∷ bs) (omega arith) (ascii_words (b ∷ bs) all));
      ends = words_line 64 (b ∷ bs) refl all;
      longest =
          let n = word_length_is (b ∷ bs) after all e in
          subst (λ (text : List ℕ). IsLongest variable_form ((b ∷ bs) ++ after) (length (b ∷ bs)) (k.InstanceVariable text)) (take-append_seam (b ∷ bs) after)
          (subst (λ (i : ℕ). IsLongest variable_form ((b ∷ bs) ++ after) i (k.InstanceVariable (take i ((b ∷ bs) ++ after)))) n (longest_variable ((b ∷ bs) ++ after) is.0));
    }
