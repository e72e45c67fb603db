-- What may stand behind a construct: nothing with which its last token goes on.
use Rattle.std.proofs.Common.{◌≡◌, ℕ, Bool, true, false, not, ◌&&◌, ◌||◌, ◌==◌, List, [], ◌∷◌, ◌++◌, refl}
use Rattle.std.specs.Prelude.{ℤ, pos, negsuc}
use Rattle.std.proofs.lemmas.Bool.{and_parts, or_parts, not-true}
use Rattle.cr_syntax.specs.declared.look.TokenLook.{TokenLook}
use Rattle.cr_syntax.specs.declared.token.TokenKind.TheVariants as k
use Rattle.cr_syntax.specs.Words.{is_digit, is_word_byte, is_mark, begins}
use Rattle.cr_syntax.specs.Numbers.{ends_number}
use Rattle.cr_syntax.specs.Lexes.{Before, ends_operand, takes_minus, is_ident}
use Rattle.cr_pieces.specs.Fits.{is_marked, ends_word, number_stands, stands}

-- Behind such bytes no word and no number goes on: no letter, digit, `_`, mark or `=`, and no `.` with a digit behind it.
abbrev pub stop : List ℕ → Bool
stop [] = true
stop (b ∷ bs) = not (is_word_byte b || (is_mark b || b == 61)) && not (b == 46 && begins is_digit bs)

-- whether something stands first, and neither `=` nor `|`, with which an operator would go on
abbrev pub opens : List ℕ → Bool
opens [] = false
opens (b ∷ bs) = not (61 == b) && not (124 == b)

-- whether a `-` may stand in front of a number
abbrev pub Ready : Before → Type 0
Ready before = ends_operand before.last ≡ false

record Stops (b : ℕ) (bs : List ℕ) : Type 0 where
  word : is_word_byte b ≡ false
  mark : is_mark b ≡ false
  equal : (b == 61) ≡ false
  dot : (b == 46 && begins is_digit bs) ≡ false

stops : (b : ℕ) (bs : List ℕ) → stop (b ∷ bs) ≡ true → Stops b bs
stops b bs e =
    let both = and_parts (not (is_word_byte b || (is_mark b || b == 61))) (not (b == 46 && begins is_digit bs)) e in
    let first = or_parts (is_word_byte b) (is_mark b || b == 61) (not-true (is_word_byte b || (is_mark b || b == 61)) both.0) in
    let second = or_parts (is_mark b) (b == 61) first.1 in
    record { word = first.0; mark = second.0; equal = second.1; dot = not-true (b == 46 && begins is_digit bs) both.1 }

pub word_ends : (text after : List ℕ) → stop after ≡ true → ends_word text after ≡ true
word_ends text [] e = refl
word_ends text (b ∷ bs) e =
    let s = stops b bs e in let word = s.word in let mark = s.mark in let equal = s.equal in
    rw (word, mark, equal) refl

pub constant_ends : (after : List ℕ) → stop after ≡ true → not (begins is_word_byte after) ≡ true
constant_ends [] e = refl
constant_ends (b ∷ bs) e = let word = (stops b bs e).word in rw word refl

pub number_ends : (after : List ℕ) → stop after ≡ true → ends_number after ≡ true
number_ends [] e = refl
number_ends (b ∷ bs) e = let s = stops b bs e in let word = s.word in let dot = s.dot in rw (word, dot) refl

pub minus_taken : (before : Before) (s : Bool) → Ready before → takes_minus before s ≡ true
minus_taken before s ready = rw ready refl

pub number_is_read : (before : Before) (s : Bool) (n : ℤ) (after : List ℕ) → Ready before → stop after ≡ true → number_stands before s n after ≡ true
number_is_read before s (pos n) after ready e = number_ends after e
number_is_read before s (negsuc n) after ready e = let ends = number_ends after e in let minus = minus_taken before s ready in rw (ends, minus) refl
