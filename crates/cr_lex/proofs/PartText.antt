-- What a part of a text stands for is text.
use Rattle.std.proofs.Common.{◌≡◌, ℕ, ◌+◌, ◌/◌, ◌<◌, ◌≤◌, Bool, true, false, cond, ◌&&◌, List, [], ◌∷◌, ◌++◌, length, ◌==◌, ltb, lit<, Option, Some, None, refl, sym, ap, subst, ◌∙◌, arith, append_assoc, inl, inr}
use Rattle.std.proofs.lemmas.List.{append-nil}
use Rattle.std.proofs.lemmas.Str.Ascii.{IsAscii-cons, IsAscii-nil}
use Rattle.std.proofs.lemmas.Bool.{ne_eqb, cases_lt, and_from, and_parts, le-ltb}
use Rattle.std.proofs.lemmas.Str.{IsUtf8-nil, IsUtf8-append, IsUtf8-from_ascii, encode_ascii, length-encode, len_utf8_bounds}
use Rattle.std.specs.Char.{len_utf8}
use Rattle.std.specs.Str.{IsUtf8}
use lib.Utf8.{scalar, scalars, encode, encodes, next}
use Rattle.cr_syntax.specs.Words.{begins}
use Rattle.cr_syntax.specs.Texts.{escape, Part, ended}
use Rattle.cr_lex.proofs.Scanned.{push_turn}
use Rattle.cr_lex.specs.Texts.{Scan, Found, Bad, Unended, behind_bytes, is_brace, with_escape, scan}

-- what a scan found is text
abbrev IsText : Scan → Type 0
IsText (Found part n) = IsUtf8 part.bytes
IsText (Bad n) = Unit {0}
IsText Unended = Unit {0}

text_behind : (n : ℕ) (text : List ℕ) (s : Scan) → IsUtf8 text → IsText s → IsText (behind_bytes n text s)
text_behind n text (Found part m) front rest = IsUtf8-append text part.bytes front rest
text_behind n text (Bad m) front rest = tt
text_behind n text Unended front rest = tt

pub one_ascii : (x : ℕ) → x < 128 → IsUtf8 (x ∷ [])
one_ascii x below = IsUtf8-from_ascii (x ∷ []) (IsAscii-cons x [] below IsAscii-nil)

escape_ascii : (b c : ℕ) → escape b ≡ Some c → c < 128
escape_ascii b c e = by_tests (b == 92) (b == 34) (b == 35) (b == 110) (b == 116) (b == 114) e
  where
    is : (x : ℕ) → x < 128 → Some x ≡ Some c → c < 128
    is x below e = let same : x ≡ c = cc in subst (λ (y : ℕ). y < 128) same below

    by_tests : (t u v w x y : Bool) → cond t (Some 92) (cond u (Some 34) (cond v (Some 35) (cond w (Some 10) (cond x (Some 9) (cond y (Some 13) None))))) ≡ Some c → c < 128
    by_tests true u v w x y e = is 92 (lit< tt) e
    by_tests false true v w x y e = is 34 (lit< tt) e
    by_tests false false true w x y e = is 35 (lit< tt) e
    by_tests false false false true x y e = is 10 (lit< tt) e
    by_tests false false false false true y e = is 9 (lit< tt) e
    by_tests false false false false false true e = is 13 (lit< tt) e
    by_tests false false false false false false e = absurd cc

text_escape : (b : ℕ) (o : Option ℕ) (s : Scan) → escape b ≡ o → IsText s → IsText (with_escape o s)
text_escape b None s e rest = tt
text_escape b (Some c) s e rest = text_behind 1 (c ∷ []) s (one_ascii c (escape_ascii b c e)) rest

text_low : (b : ℕ) (t u v : Bool) (r s : Scan) → b < 128 → IsText r → IsText s
    → IsText (cond t (Found (ended false) 1) (cond u (behind_bytes 1 [] r) (cond v (Found (ended true) 2) (behind_bytes 1 (b ∷ []) s))))
text_low b true u v r s below escaped plain = IsUtf8-nil
text_low b false true v r s below escaped plain = text_behind 1 [] r IsUtf8-nil escaped
text_low b false false true r s below escaped plain = IsUtf8-nil
text_low b false false false r s below escaped plain = text_behind 1 (b ∷ []) s (one_ascii b below) plain

-- ---- the bytes of other characters

abbrev pub AllHigh : List ℕ → Type 0
AllHigh [] = Unit {0}
AllHigh (b ∷ bs) = (128 ≤ b) × AllHigh bs

pub not_low : (b n : ℕ) → 128 ≤ b → n < 128 → (b == n) ≡ false
not_low b n high low = ne_eqb b n (λ e. absurd (omega arith))

escape_high : (b : ℕ) → 128 ≤ b → escape b ≡ None
escape_high b high =
    let a = not_low b 92 high (lit< tt) in
    let c = not_low b 34 high (lit< tt) in
    let d = not_low b 35 high (lit< tt) in
    let e = not_low b 110 high (lit< tt) in
    let f = not_low b 116 high (lit< tt) in
    let g = not_low b 114 high (lit< tt) in
    rw (a, c, d, e, f, g) refl

scan_high : (b : ℕ) (bs : List ℕ) → 128 ≤ b → scan false (b ∷ bs) ≡ behind_bytes 1 (b ∷ []) (scan false bs)
scan_high b bs high =
    let a = not_low b 34 high (lit< tt) in
    let c = not_low b 92 high (lit< tt) in
    let d = not_low b 35 high (lit< tt) in
    rw (a, c, d) refl

high_behind : (n : ℕ) (front xs ys : List ℕ) → AllHigh xs → IsUtf8 (front ++ xs) → IsText (scan false ys) → IsText (behind_bytes n front (scan false (xs ++ ys)))
high_behind n front [] ys high whole rest = text_behind n front (scan false ys) (subst IsUtf8 (append-nil front) whole) rest
high_behind n front (b ∷ xs) ys high whole rest =
    subst IsText (sym (ap (behind_bytes n front) (scan_high b (xs ++ ys) high.0) ∙ push_turn n front b (scan false (xs ++ ys))))
    (high_behind (n + 1) (front ++ b ∷ []) xs ys high.1 (subst IsUtf8 (sym (append_assoc front (b ∷ []) xs)) whole) rest)

nothing_before : (s : Scan) → IsText (behind_bytes 0 [] s) → IsText s
nothing_before (Found part n) h = h
nothing_before (Bad n) h = h
nothing_before Unended h = h

text_high : (xs ys : List ℕ) → AllHigh xs → IsUtf8 xs → IsText (scan false ys) → IsText (scan false (xs ++ ys))
text_high xs ys high whole rest = nothing_before (scan false (xs ++ ys)) (high_behind 0 [] xs ys high whole rest)

escaped_high : (xs ys : List ℕ) → AllHigh xs → 0 < length xs → IsText (scan true (xs ++ ys))
escaped_high [] ys high some = absurd (omega arith)
escaped_high (b ∷ xs) ys high some = subst (λ (o : Option ℕ). IsText (with_escape o (scan false (xs ++ ys)))) (sym (escape_high b high.0)) tt

pub high_encode : (c : ℕ) → 128 ≤ c → AllHigh (encode c)
unfolding encode
high_encode c high = by_tests (ltb c 128) (ltb c 2048) (ltb c 65536) (le-ltb c 128 high)
  where
    by_tests : (t u v : Bool) → t ≡ false → AllHigh (cond t (c ∷ []) (cond u ((192 + c / 64) ∷ next c ∷ []) (cond v ((224 + c / 4096) ∷ next (c / 64) ∷ next c ∷ []) ((240 + c / 262144) ∷ next (c / 4096) ∷ next (c / 64) ∷ next c ∷ []))))
    by_tests true u v e = absurd cc
    by_tests false true v e = (omega arith, (omega arith, tt))
    by_tests false false true e = (omega arith, (omega arith, (omega arith, tt)))
    by_tests false false false e = (omega arith, (omega arith, (omega arith, (omega arith, tt))))

pub one_char : (c : ℕ) → scalar c ≡ true → IsUtf8 (encode c)
one_char c e = (c ∷ [], (and_from (scalar c) true e refl, append-nil (encode c)))

some_bytes : (c : ℕ) → 0 < length (encode c)
some_bytes c = let bounds = len_utf8_bounds c in let one : 1 ≤ len_utf8 c = bounds.0 in omega (arith, length-encode c)

text_of : (cs : List ℕ) → scalars cs ≡ true → IsText (scan true (encodes cs)) × IsText (scan false (encodes cs))
text_of [] e = (tt, tt)
text_of (c ∷ cs) e =
    let rest = text_of cs (and_parts (scalar c) (scalars cs) e).1 in
    elim (cases_lt c 128) [
      | inl low ↦ subst (λ (xs : List ℕ). IsText (scan true (xs ++ encodes cs)) × IsText (scan false (xs ++ encodes cs))) (sym (encode_ascii c low))
          (text_escape c (escape c) (scan false (encodes cs)) refl rest.1, text_low c (c == 34) (c == 92) (c == 35 && begins is_brace (encodes cs)) (scan true (encodes cs)) (scan false (encodes cs)) low rest.0 rest.1)
      | inr high ↦ (escaped_high (encode c) (encodes cs) (high_encode c high) (some_bytes c), text_high (encode c) (encodes cs) (high_encode c high) (one_char c (and_parts (scalar c) (scalars cs) e).0) rest.1)
    ]

pub part_text : (bytes : List ℕ) (part : Part) (n : ℕ) → IsUtf8 bytes → scan false bytes ≡ Found part n → IsUtf8 part.bytes
part_text bytes part n (cs, (scalar, same)) e = subst IsText (ap (scan false) same ∙ e) (text_of cs scalar).1
