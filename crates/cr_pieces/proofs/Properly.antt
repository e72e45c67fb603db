-- The tokens of a text are proper.
use Rattle.std.proofs.Common.{◌≡◌, ℕ, zero, suc, ◌+◌, ◌-◌, ◌^◌, ◌<◌, ◌≤◌, Bool, true, false, cond, not, ◌&&◌, ◌||◌, ◌==◌, List, [], ◌∷◌, ◌++◌, length, take, drop, Option, Some, None, refl, sym, ap, subst, ◌∙◌, arith, inl, inr, length-drop, lit<, get_or, drop-cons}
use Rattle.std.specs.Prelude.{codes, unwrap_or}
use Rattle.std.specs.Str.{IsUtf8, bytes_eq}
use Rattle.std.specs.Option.{option_map}
use Rattle.std.proofs.lemmas.Bool.{eqb-true, and_parts, leb-true, cases_lt}
use Rattle.std.proofs.lemmas.Str.{IsUtf8-drop, IsCharBoundary-after_ascii}
use Rattle.cr_syntax.specs.declared.look.TokenLook.{TokenLook}
use Rattle.cr_syntax.specs.declared.token.Token.{Token}
use Rattle.cr_syntax.specs.declared.token.TokenKind.{TokenKind}
use Rattle.cr_syntax.specs.declared.token.TokenKind.TheVariants as k
use Rattle.cr_syntax.specs.Words.{is_digit, begins_name, begins_constant, is_word_byte, is_mark, begins, all_word_bytes, is_word_end, keyword_of, word_of}
use Rattle.cr_syntax.specs.Numbers.{fits, signed, small, big, typed, digits_of, number_of, ends_number}
use Rattle.cr_syntax.specs.Texts.{Part, part_of, part_kind}
use Rattle.cr_syntax.specs.Operators.{operator_look, operator_of}
use Rattle.cr_syntax.specs.Lexes.{Before, start, in_insertion, takes_minus, when, form_by, form_of, place_of, is_spaced, behind, IsToken, LexesFrom}
use Rattle.cr_lex.specs.Longest.{IsLongest}
use Rattle.cr_lex.specs.Texts.{Scan, Found, Bad, Unended, scan}
use Rattle.cr_lex.proofs.Scanned.{Says}
use Rattle.cr_lex.proofs.PartsRead.{says_so}
use Rattle.cr_lex.proofs.PartText.{part_text}
use Rattle.cr_pieces.specs.Proper.{HasWidth, IsProper, AllProper}
use Rattle.cr_pieces.specs.Laws.{TokensAreProper}

-- ---- numbers

width_of : (minus : Bool) (v limit : ℕ) → 0 < limit → fits minus v limit ≡ true → HasWidth limit (signed minus v)
width_of true zero limit some e = some
width_of true (suc n) limit some e = let le = leb-true (suc n) limit e in omega arith
width_of false v limit some e = let le = leb-true (v + 1) limit e in omega arith

proper_small : (minus : Bool) (v : ℕ) (kind : TokenKind) → small minus v ≡ Some kind → IsProper kind
proper_small minus v kind e = by_test (fits minus v (2 ^ 31)) refl e
  where
    by_test : (t : Bool) → fits minus v (2 ^ 31) ≡ t → cond t (Some (k.Int32 (signed minus v))) None ≡ Some kind → IsProper kind
    by_test true is e = subst IsProper (let same : k.Int32 (signed minus v) ≡ kind = cc in same) (width_of minus v (2 ^ 31) (lit< tt) is)
    by_test false is e = absurd cc

proper_big : (minus : Bool) (v : ℕ) (kind : TokenKind) → big minus v ≡ Some kind → IsProper kind
proper_big minus v kind e = by_test (fits minus v (2 ^ 63)) refl e
  where
    by_test : (t : Bool) → fits minus v (2 ^ 63) ≡ t → cond t (Some (k.Int64 (signed minus v))) None ≡ Some kind → IsProper kind
    by_test true is e = subst IsProper (let same : k.Int64 (signed minus v) ≡ kind = cc in same) (width_of minus v (2 ^ 63) (lit< tt) is)
    by_test false is e = absurd cc

proper_typed : (minus : Bool) (v : ℕ) (suffix : List ℕ) (kind : TokenKind) → typed minus v suffix ≡ Some kind → IsProper kind
proper_typed minus v suffix kind e =
    by_tests (bytes_eq suffix [] || bytes_eq suffix (codes "i32") || bytes_eq suffix (codes "_i32")) (bytes_eq suffix (codes "i64") || bytes_eq suffix (codes "_i64")) e
  where
    by_tests : (t u : Bool) → cond t (small minus v) (cond u (big minus v) None) ≡ Some kind → IsProper kind
    by_tests true u e = proper_small minus v kind e
    by_tests false true e = proper_big minus v kind e
    by_tests false false e = absurd cc

proper_number : (minus : Bool) (text : List ℕ) (kind : TokenKind) → number_of minus text ≡ Some kind → IsProper kind
proper_number minus [] kind e = absurd cc
proper_number minus (b ∷ bs) kind e = proper_typed minus (digits_of b bs).0 (digits_of b bs).1 kind e

proper_ended : (t minus : Bool) (text : List ℕ) (kind : TokenKind) → cond t (number_of minus text) None ≡ Some kind → IsProper kind
proper_ended true minus text kind e = proper_number minus text kind e
proper_ended false minus text kind e = absurd cc

-- ---- names

some_when : (t : Bool) (found kind : TokenKind) → when t found ≡ Some kind → (t ≡ true) × (found ≡ kind)
some_when true found kind e = (refl, cc)
some_when false found kind e = absurd cc

end_alone : (bs after : List ℕ) → is_word_end bs after ≡ true → is_word_end bs [] ≡ true
end_alone [] after e = refl
end_alone (b ∷ []) after e = by_tests (is_word_byte b) (is_mark b) (begins (λ c. c == 61) after) e
  where
    by_tests : (t u v : Bool) → (t || (u && not v)) ≡ true → (t || (u && true)) ≡ true
    by_tests true u v e = refl
    by_tests false true v e = refl
    by_tests false false v e = absurd cc
end_alone (b ∷ c ∷ bs) after e =
    let both = and_parts (is_word_byte b) (is_word_end (c ∷ bs) after) e in
    let word = both.0 in rw word (end_alone (c ∷ bs) after both.1)

proper_word : (b : ℕ) (bs : List ℕ) → begins_name b ≡ true → is_word_end bs [] ≡ true → IsProper (word_of (b ∷ bs))
proper_word b bs name ends = by_keyword (keyword_of (b ∷ bs)) refl
  where
    by_keyword : (o : Option TokenLook) → keyword_of (b ∷ bs) ≡ o → IsProper (unwrap_or (option_map k.Plain o) (k.Ident (b ∷ bs)))
    by_keyword None e = (name, ends, ap (λ (o : Option TokenLook). unwrap_or (option_map k.Plain o) (k.Ident (b ∷ bs))) e)
    by_keyword (Some found) e = tt

proper_variable : (bs : List ℕ) → (begins begins_name bs && all_word_bytes bs) ≡ true → IsProper (k.InstanceVariable bs)
proper_variable [] e = absurd cc
proper_variable (b ∷ bs) e =
    let both = and_parts (begins_name b) (is_word_byte b && all_word_bytes bs) e in (both.0, (and_parts (is_word_byte b) (all_word_bytes bs) both.1).1)

proper_operator : (o : Option TokenLook) (kind : TokenKind) → option_map k.Plain o ≡ Some kind → IsProper kind
proper_operator None kind e = absurd cc
proper_operator (Some found) kind e = subst IsProper (let same : k.Plain found ≡ kind = cc in same) tt

-- ---- texts

-- the part that the longest front is, is text where the bytes are
longest_text : (bs : List ℕ) (n : ℕ) (part : Part) → IsUtf8 bs → n ≤ length bs → part_of false (take n bs) ≡ Some part
    → ((m : ℕ) → n < m → m ≤ length bs → part_of false (take m bs) ≡ None) → IsUtf8 part.bytes
longest_text bs n part utf8 within here longest = by_scan (scan false bs) refl (says_so bs (scan false bs) refl)
  where
    by_scan : (s : Scan) → scan false bs ≡ s → Says false bs s → IsUtf8 part.bytes
    by_scan (Bad m) e says = absurd (let no : part_of false (take n bs) ≡ None = says.none n within in cc)
    by_scan Unended e says = absurd (let no : part_of false (take n bs) ≡ None = says.none n within in cc)
    by_scan (Found found m) e says = elim (cases_lt n m) [
      | inl below ↦ absurd (let no : part_of false (take m bs) ≡ None = longest m below says.within in let yes : part_of false (take m bs) ≡ Some found = says.here in cc)
      | inr most ↦ elim (cases_lt m n) [
        | inl above ↦ absurd (let no : part_of false (take n bs) ≡ None = says.longest n above within in cc)
        | inr le ↦ (
            let same : m ≡ n = omega arith in
            let also : part_of false (take n bs) ≡ Some found = subst (λ (i : ℕ). part_of false (take i bs) ≡ Some found) same says.here in
            let one : found ≡ part = cc in
            subst (λ (p : Part). IsUtf8 p.bytes) one (part_text bs found m utf8 e))
      ]
    ]

proper_part : (quoted : Bool) (part : Part) → IsUtf8 part.bytes → IsProper (part_kind quoted part)
proper_part true part utf8 = by_test part.opens
  where
    by_test : (t : Bool) → IsProper (cond t (k.TextFirst part.bytes) (k.Text part.bytes))
    by_test true = utf8
    by_test false = utf8
proper_part false part utf8 = by_test part.opens
  where
    by_test : (t : Bool) → IsProper (cond t (k.TextMiddle part.bytes) (k.TextLast part.bytes))
    by_test true = utf8
    by_test false = utf8

none_of : {A B : Type 0} (f : A → B) (o : Option A) → option_map f o ≡ None → o ≡ None
none_of f None e = refl
none_of f (Some x) e = absurd cc

proper_text : (quoted : Bool) (bs : List ℕ) (n : ℕ) (kind : TokenKind) → IsUtf8 bs → n ≤ length bs → option_map (part_kind quoted) (part_of false (take n bs)) ≡ Some kind
    → ((m : ℕ) → n < m → m ≤ length bs → option_map (part_kind quoted) (part_of false (take m bs)) ≡ None) → IsProper kind
proper_text quoted bs n kind utf8 within here longest = by_part (part_of false (take n bs)) refl here
  where
    by_part : (o : Option Part) → part_of false (take n bs) ≡ o → option_map (part_kind quoted) o ≡ Some kind → IsProper kind
    by_part None e is = absurd cc
    by_part (Some part) e is = subst IsProper (let same : part_kind quoted part ≡ kind = cc in same)
        (proper_part quoted part (longest_text bs n part utf8 within e (λ m above le. none_of (part_kind quoted) (part_of false (take m bs)) (longest m above le))))

-- ---- any token

proper_form : (before : Before) (s : Bool) (b : ℕ) (bs : List ℕ) (n : ℕ) (kind : TokenKind) → IsLongest (form_by before s b) bs n kind → (b < 128 → IsUtf8 bs) → IsProper kind
proper_form before s b bs n kind is utf8 =
    by_tests (is_digit b) (begins_name b) (begins_constant b) (b == 64) (b == 34) (b == 125 && in_insertion before) (b == 45 && takes_minus before s && begins is_digit (take n bs ++ drop n bs))
    refl refl refl refl refl refl is.here
  where
    quoted_part : is_digit b ≡ false → begins_name b ≡ false → begins_constant b ≡ false → (b == 64) ≡ false → (b == 34) ≡ true → (m : ℕ)
        → form_by before s b (take m bs) (drop m bs) ≡ option_map (part_kind true) (part_of false (take m bs))
    quoted_part d e f g h m = rw (d, e, f, g, h) refl

    inside_part : is_digit b ≡ false → begins_name b ≡ false → begins_constant b ≡ false → (b == 64) ≡ false → (b == 34) ≡ false → (b == 125 && in_insertion before) ≡ true → (m : ℕ)
        → form_by before s b (take m bs) (drop m bs) ≡ option_map (part_kind false) (part_of false (take m bs))
    inside_part d e f g h i m = rw (d, e, f, g, h, i) refl

    by_tests : (t u v w x y z : Bool) → is_digit b ≡ t → begins_name b ≡ u → begins_constant b ≡ v → (b == 64) ≡ w → (b == 34) ≡ x → (b == 125 && in_insertion before) ≡ y
        → cond t (cond (ends_number (drop n bs)) (number_of false (b ∷ take n bs)) None)
        (cond u (when (is_word_end (take n bs) (drop n bs)) (word_of (b ∷ take n bs)))
        (cond v (when (all_word_bytes (take n bs)) (k.Constant (b ∷ take n bs)))
        (cond w (when (begins begins_name (take n bs) && all_word_bytes (take n bs)) (k.InstanceVariable (take n bs)))
        (cond x (option_map (part_kind true) (part_of false (take n bs)))
        (cond y (option_map (part_kind false) (part_of false (take n bs)))
        (cond z (cond (ends_number (drop n bs)) (number_of true (take n bs)) None) (operator_of (b ∷ take n bs)))))))) ≡ Some kind → IsProper kind
    by_tests true u v w x y z d e f g h i r = proper_ended (ends_number (drop n bs)) false (b ∷ take n bs) kind r
    by_tests false true v w x y z d e f g h i r =
        let both = some_when (is_word_end (take n bs) (drop n bs)) (word_of (b ∷ take n bs)) kind r in
        subst IsProper both.1 (proper_word b (take n bs) e (end_alone (take n bs) (drop n bs) both.0))
    by_tests false false true w x y z d e f g h i r =
        let both = some_when (all_word_bytes (take n bs)) (k.Constant (b ∷ take n bs)) kind r in
        subst IsProper both.1 (f, both.0)
    by_tests false false false true x y z d e f g h i r =
        let both = some_when (begins begins_name (take n bs) && all_word_bytes (take n bs)) (k.InstanceVariable (take n bs)) kind r in
        subst IsProper both.1 (proper_variable (take n bs) both.0)
    by_tests false false false false true y z d e f g h i r =
        let at : b ≡ 34 = eqb-true b 34 h in
        proper_text true bs n kind (utf8 (omega arith)) is.within r (λ m above le. sym (quoted_part d e f g h m) ∙ is.longest m above le)
    by_tests false false false false false true z d e f g h i r =
        let at : b ≡ 125 = eqb-true b 125 (and_parts (b == 125) (in_insertion before) i).0 in
        proper_text false bs n kind (utf8 (omega arith)) is.within r (λ m above le. sym (inside_part d e f g h i m) ∙ is.longest m above le)
    by_tests false false false false false false true d e f g h i r = proper_ended (ends_number (drop n bs)) true (take n bs) kind r
    by_tests false false false false false false false d e f g h i r = proper_operator (operator_look (b ∷ take n bs)) kind r

proper_rest : (before : Before) (s : Bool) (rest : List ℕ) (n : ℕ) (kind : TokenKind) → form_of before s rest n ≡ Some kind → n ≤ length rest
    → ((m : ℕ) → n < m → m ≤ length rest → form_of before s rest m ≡ None) → ((b : ℕ) (bs : List ℕ) → rest ≡ b ∷ bs → b < 128 → IsUtf8 bs) → IsProper kind
proper_rest before s [] n kind e within longest utf8 = absurd cc
proper_rest before s (b ∷ bs) zero kind e within longest utf8 = absurd cc
proper_rest before s (b ∷ bs) (suc n) kind e within longest utf8 =
    proper_form before s b bs n kind (record { within = omega arith; here = e; longest = λ m above le. longest (suc m) (omega arith) (omega arith) }) (utf8 b bs refl)

-- what stands behind an ASCII byte of a text is text
behind_byte : (source : List ℕ) (place : ℕ) → IsUtf8 source → (b : ℕ) (bs : List ℕ) → drop place source ≡ b ∷ bs → b < 128 → IsUtf8 bs
behind_byte source place utf8 b bs e below =
    let some : place < length source = omega (arith, length-drop place source, ap length e) in
    let same : get_or source place 0 ∷ drop (suc place) source ≡ b ∷ bs = sym (drop-cons source place 0 some) ∙ e in
    let first : get_or source place 0 ≡ b = cc in
    let rest : drop (suc place) source ≡ bs = cc in
    let low : get_or source place 0 < 128 = omega arith in
    let one : place + 1 ≡ suc place = omega arith in
    subst IsUtf8 (ap (λ (i : ℕ). drop i source) one ∙ rest) (IsUtf8-drop source (place + 1) utf8 (IsCharBoundary-after_ascii source place utf8 some low))

proper_token : (source : List ℕ) (before : Before) (at : ℕ) (t : Token) → IsUtf8 source → IsToken source before at t → IsProper t.kind
proper_token source before at t utf8 is =
    let place = place_of source at in
    let first = is.first in let some = is.some in let within = is.within in
    proper_rest before (is_spaced source at) (drop place source) (t.span.past - place) t.kind is.form (omega (arith, length-drop place source)) longer (behind_byte source place utf8)
  where
    longer : (m : ℕ) → t.span.past - place_of source at < m → m ≤ length (drop (place_of source at) source) → form_of before (is_spaced source at) (drop (place_of source at) source) m ≡ None
    longer m above le =
        let first = is.first in let some = is.some in let within = is.within in
        let e : place_of source at + m - place_of source at ≡ m = omega arith in
        ap (form_of before (is_spaced source at) (drop (place_of source at) source)) (sym e)
        ∙ is.longest (place_of source at + m) (omega arith) (omega (arith, length-drop (place_of source at) source))

all_proper : (source : List ℕ) (before : Before) (at : ℕ) (ts : List Token) → IsUtf8 source → LexesFrom source before at ts → AllProper ts
all_proper source before at [] utf8 e = absurd e
all_proper source before at (t ∷ ts) utf8 (inl (end, none)) = (subst IsProper (sym end.kind) tt, subst AllProper (sym none) tt)
all_proper source before at (t ∷ ts) utf8 (inr (is, more)) = (proper_token source before at t utf8 is, all_proper source (behind before t) t.span.past ts utf8 more)

pub tokens_are_proper : TokensAreProper
tokens_are_proper source tokens (utf8, lexes) = all_proper source start 0 tokens utf8 lexes
