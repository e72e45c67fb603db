-- Names, numbers and texts.
use Rattle.std.proofs.Common.{◌≡◌, ℕ, suc, ◌≤◌, ◌<◌, ◌^◌, Bool, true, false, not, ◌&&◌, ◌==◌, List, [], ◌∷◌, ◌++◌, refl, sym, ap, subst, ◌∙◌, arith, append_assoc, inl, inr}
use Rattle.std.specs.Prelude.{ℤ, pos, negsuc, codes, nat_le}
use Rattle.std.specs.Str.{IsUtf8}
use Rattle.std.specs.Fmt.{decimal, signed_decimal}
use Rattle.std.proofs.lemmas.Bool.{ne_eqb, leb-true, eqb-true, and_parts, or_cases}
use Rattle.cr_syntax.specs.declared.look.TokenLook.TheVariants as l
use Rattle.cr_syntax.specs.declared.token.TokenKind.{TokenKind}
use Rattle.cr_syntax.specs.declared.token.TokenKind.TheVariants as k
use Rattle.cr_syntax.specs.Words.{is_digit, begins, begins_name, begins_constant}
use Rattle.cr_syntax.specs.Lexes.{Before}
use Rattle.cr_pieces.specs.Pieces.{Piece, Put, spelled, text_of}
use Rattle.cr_pieces.specs.Proper.{IsName, IsConstantName, IsVariableName, HasWidth}
use Rattle.cr_pieces.specs.Fits.{put_behind, Fits}
use Rattle.cr_pieces.proofs.Words.{name_least, constant_least, digit_least, high_is_no_digit}
use Rattle.cr_pieces.proofs.Numbers.{digit_first}
use Rattle.cr_pretty.specs.Layout.{word}
use Rattle.cr_round_trip.proofs.Stops.{stop, opens, word_ends, constant_ends, number_is_read}
use Rattle.cr_round_trip.proofs.Fit.{Fit, Tail, no_tail}

-- what begins with a letter, a digit or `_` begins with no operator
apart_opens : (b : ℕ) (bs : List ℕ) → (61 ≡ b → ⊥) → (124 ≡ b → ⊥) → opens (b ∷ bs) ≡ true
apart_opens b bs no_equal no_bar = let a = ne_eqb 61 b no_equal in let c = ne_eqb 124 b no_bar in rw (a, c) refl

name_most : (b : ℕ) → begins_name b ≡ true → b ≤ 122
name_most b e = elim (or_cases (nat_le 97 b && nat_le b 122) (b == 95) e) [
  | inl letter ↦ leb-true b 122 (and_parts (nat_le 97 b) (nat_le b 122) letter).1
  | inr line ↦ (let is : b ≡ 95 = eqb-true b 95 line in omega arith)
]

constant_most : (b : ℕ) → begins_constant b ≡ true → b ≤ 90
constant_most b e = leb-true b 90 (and_parts (nat_le 65 b) (nat_le b 90) e).1

digit_most : (b : ℕ) → is_digit b ≡ true → b ≤ 57
digit_most b e = leb-true b 57 (and_parts (nat_le 48 b) (nat_le b 57) e).1

name_opens : (b : ℕ) (bs : List ℕ) → begins_name b ≡ true → opens (b ∷ bs) ≡ true
name_opens b bs e = let least = name_least b e in let most = name_most b e in apart_opens b bs (λ is. absurd (omega arith)) (λ is. absurd (omega arith))

pub constant_opens : (b : ℕ) (bs : List ℕ) → begins_constant b ≡ true → opens (b ∷ bs) ≡ true
constant_opens b bs e = let least = constant_least b e in let most = constant_most b e in apart_opens b bs (λ is. absurd (omega arith)) (λ is. absurd (omega arith))

digit_opens : (bs more : List ℕ) → begins is_digit bs ≡ true → opens (bs ++ more) ≡ true
digit_opens [] more e = absurd cc
digit_opens (b ∷ bs) more e = let least = digit_least b e in let most = digit_most b e in apart_opens b (bs ++ more) (λ is. absurd (omega arith)) (λ is. absurd (omega arith))

-- ---- names

pub ident_fit : (name : List ℕ) (qs : List Piece) → IsName name → Tail qs → Fit (Put (k.Ident name) ∷ qs)
ident_fit [] qs is tail = absurd is
ident_fit (c ∷ cs) qs is tail = record {
  fits = λ before s after ready e. (is, word_ends (c ∷ cs) (text_of qs ++ after) (tail.stops after e), tail.fits (put_behind before (k.Ident (c ∷ cs))) false after e);
  keeps = λ before. tail.keeps (put_behind before (k.Ident (c ∷ cs)));
  opening = λ after. name_opens c ((cs ++ text_of qs) ++ after) is.0;
}

no_digit : (c : ℕ) (cs : List ℕ) → begins_name c ≡ true → begins is_digit (c ∷ cs) ≡ false
no_digit c cs e = let least = name_least c e in high_is_no_digit c (omega arith)

-- a name behind a `.`
pub dot_ident : (name : List ℕ) (qs : List Piece) → IsName name → Tail qs → Tail (word l.Dot ∷ Put (k.Ident name) ∷ qs)
dot_ident [] qs is tail = absurd is
dot_ident (c ∷ cs) qs is tail = record {
  fits = λ before s after e. (tt, refl, (is, word_ends (c ∷ cs) (text_of qs ++ after) (tail.stops after e), tail.fits (put_behind (put_behind before (k.Plain l.Dot)) (k.Ident (c ∷ cs))) false after e));
  keeps = λ before. tail.keeps (put_behind (put_behind before (k.Plain l.Dot)) (k.Ident (c ∷ cs)));
  stops = λ after e. let no = no_digit c ((cs ++ text_of qs) ++ after) is.0 in rw no refl;
}

pub constant_fit : (name : List ℕ) (qs : List Piece) → IsConstantName name → Tail qs → Fit (Put (k.Constant name) ∷ qs)
constant_fit [] qs is tail = absurd is
constant_fit (c ∷ cs) qs is tail = record {
  fits = λ before s after ready e. (is, constant_ends (text_of qs ++ after) (tail.stops after e), tail.fits (put_behind before (k.Constant (c ∷ cs))) false after e);
  keeps = λ before. tail.keeps (put_behind before (k.Constant (c ∷ cs)));
  opening = λ after. constant_opens c ((cs ++ text_of qs) ++ after) is.0;
}

pub variable_fit : (name : List ℕ) (qs : List Piece) → IsVariableName name → Tail qs → Fit (Put (k.InstanceVariable name) ∷ qs)
variable_fit name qs is tail = record {
  fits = λ before s after ready e. (is, constant_ends (text_of qs ++ after) (tail.stops after e), tail.fits (put_behind before (k.InstanceVariable name)) false after e);
  keeps = λ before. tail.keeps (put_behind before (k.InstanceVariable name));
  opening = λ after. refl;
}

-- ---- numbers

number_opens : (n : ℤ) (more : List ℕ) → HasWidth (2 ^ 63) n → opens (signed_decimal n ++ more) ≡ true
number_opens (pos n) more has = digit_opens (decimal n) more (digit_first n (omega arith))
number_opens (negsuc n) more has = refl

wider : (n : ℤ) → HasWidth (2 ^ 31) n → HasWidth (2 ^ 63) n
wider (pos n) has = omega arith
wider (negsuc n) has = omega arith

pub int32_fit : (n : ℤ) → HasWidth (2 ^ 31) n → Fit (Put (k.Int32 n) ∷ [])
int32_fit n has = record {
  fits = λ before s after ready e. (has, number_is_read before s n after ready e, tt);
  keeps = λ before. refl;
  opening = λ after. subst (λ (v : List ℕ). opens v ≡ true) (sym (append_assoc (signed_decimal n) [] after)) (number_opens n after (wider n has));
}

pub int64_fit : (n : ℤ) → HasWidth (2 ^ 63) n → Fit (Put (k.Int64 n) ∷ [])
int64_fit n has = record {
  fits = λ before s after ready e. (has, number_is_read before s n after ready e, tt);
  keeps = λ before. refl;
  opening = λ after. subst (λ (v : List ℕ). opens v ≡ true) (sym (append_assoc (signed_decimal n ++ codes "_i64") [] after ∙ append_assoc (signed_decimal n) (codes "_i64") after)) (number_opens n (codes "_i64" ++ after) has);
}

-- ---- texts

pub text_fit : (text : List ℕ) → IsUtf8 text → Fit (Put (k.Text text) ∷ [])
text_fit text utf8 = record { fits = λ before s after ready e. (utf8, refl, tt); keeps = λ before. refl; opening = λ after. refl }
