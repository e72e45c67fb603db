-- Texts and their parts are read from their bytes.
use Rattle.std.proofs.Common.{◌≡◌, ℕ, suc, ◌+◌, ◌<◌, ◌≤◌, Bool, true, false, cond, ◌&&◌, List, [], ◌∷◌, ◌++◌, length, ◌==◌, refl, sym, ap, subst, ◌∙◌, arith, lit<, inl, inr, append_assoc}
use Rattle.std.specs.Str.{IsUtf8}
use Rattle.std.proofs.lemmas.Bool.{eqb-true, cases_lt, and_parts}
use Rattle.std.proofs.lemmas.List.{length-append}
use Rattle.std.proofs.lemmas.Str.{IsUtf8-nil, IsUtf8-append, encode_ascii}
use lib.Utf8.{scalar, scalars, encode, encodes}
use Rattle.cr_syntax.specs.declared.token.TokenKind.{TokenKind}
use Rattle.cr_syntax.specs.declared.token.TokenKind.TheVariants as k
use Rattle.cr_syntax.specs.Words.{begins}
use Rattle.cr_syntax.specs.Texts.{part_kind}
use Rattle.cr_syntax.specs.Lexes.{Before, in_insertion, form_by}
use Rattle.cr_lex.proofs.PartText.{AllHigh, high_encode, one_char, not_low, one_ascii}
use Rattle.cr_lex.specs.Longest.{IsLongest}
use Rattle.cr_lex.specs.Texts.{part_form, Scan, Found, behind_bytes, is_brace, scan}
use Rattle.cr_lex.proofs.PartsRead.{longest_part}
use Rattle.cr_lex.proofs.PlainText.{whole}
use Rattle.cr_pieces.specs.Bytes.{ends_line}
use Rattle.cr_pieces.specs.Pieces.{escaped, escaped_byte, part_end, spelled}
use Rattle.cr_pieces.specs.Fits.{is_newline}
use Rattle.cr_pieces.proofs.Joined.{ascii_utf8}
use Rattle.cr_pieces.proofs.Read.{IsRead}

abbrev pub size_of : Bool → ℕ
size_of false = 1
size_of true = 2

end_no_brace : (opens : Bool) (after : List ℕ) → begins is_brace (part_end opens ++ after) ≡ false
end_no_brace false after = refl
end_no_brace true after = refl

end_scanned : (opens : Bool) (after : List ℕ) → scan false (part_end opens ++ after) ≡ Found (whole [] opens) (size_of opens)
end_scanned false after = refl
end_scanned true after = refl

module _ (opens : Bool) (after : List ℕ) where
  abbrev tail : List ℕ
  tail = part_end opens ++ after

  abbrev size : ℕ
  size = size_of opens

  -- the bytes of a text and its closing quote
  abbrev closed : List ℕ → List ℕ
  closed text = escaped text ++ tail

  -- no brace comes first where the text has none there
  no_brace : (text : List ℕ) → begins is_brace text ≡ false → begins is_brace (closed text) ≡ false
  no_brace [] e = end_no_brace opens after
  no_brace (b ∷ bs) e = by_tests (b == 92) (b == 34) (b == 10) (b == 9) (b == 13) (b == 35 && begins is_brace bs)
    where
      by_tests : (t u v w x y : Bool) → begins is_brace ((cond t (92 ∷ 92 ∷ []) (cond u (92 ∷ 34 ∷ []) (cond v (92 ∷ 110 ∷ []) (cond w (92 ∷ 116 ∷ []) (cond x (92 ∷ 114 ∷ []) (cond y (92 ∷ 35 ∷ []) (b ∷ [])))))) ++ escaped bs) ++ tail) ≡ false
      by_tests true u v w x y = refl
      by_tests false true v w x y = refl
      by_tests false false true w x y = refl
      by_tests false false false true x y = refl
      by_tests false false false false true y = refl
      by_tests false false false false false true = refl
      by_tests false false false false false false = e

  abbrev found : List ℕ → ℕ → Scan
  found text n = Found (whole text opens) n

  one_more : (c : ℕ) (text : List ℕ) (n m : ℕ) → 1 + n ≡ m → behind_bytes 1 (c ∷ []) (found text n) ≡ found (c ∷ text) m
  one_more c text n m e = ap (λ (i : ℕ). found (c ∷ text) i) e

  -- the escape of one byte
  escape_step : (c : ℕ) (text : List ℕ) (n m : ℕ) (rest : Scan) → rest ≡ found text n → 1 + (1 + n) ≡ m → behind_bytes 1 [] (behind_bytes 1 (c ∷ []) rest) ≡ found (c ∷ text) m
  escape_step c text n m rest e f = ap (λ (s : Scan). behind_bytes 1 [] (behind_bytes 1 (c ∷ []) s)) e ∙ ap (λ (i : ℕ). found (c ∷ text) i) f

  plain_step : (b : ℕ) (bs : List ℕ) → (b == 34) ≡ false → (b == 92) ≡ false → (b == 35 && begins is_brace bs) ≡ false → scan false (b ∷ bs) ≡ behind_bytes 1 (b ∷ []) (scan false bs)
  plain_step b bs e f g = rw (e, f, g) refl

  no_hash : (x y z : Bool) → (x && y) ≡ false → (y ≡ false → z ≡ false) → (x && z) ≡ false
  no_hash false y z e f = refl
  no_hash true y z e f = f e

  pub scanned : (text : List ℕ) → scan false (closed text) ≡ found text (length (escaped text) + size)
  scanned [] = end_scanned opens after ∙ ap (found []) zero_more
    where
      zero_more : size ≡ 0 + size
      zero_more = omega arith
  scanned (b ∷ bs) = by_tests (b == 92) (b == 34) (b == 10) (b == 9) (b == 13) (b == 35 && begins is_brace bs) refl refl refl refl refl refl (scanned bs)
    where
      is : (c : ℕ) (m : ℕ) → (b == c) ≡ true → found (c ∷ bs) m ≡ found (b ∷ bs) m
      is c m e = ap (λ (x : ℕ). found (x ∷ bs) m) (sym (eqb-true b c e))

      escaped_to : (c m : ℕ) → scan false (escaped bs ++ tail) ≡ found bs (length (escaped bs) + size) → 1 + (1 + (length (escaped bs) + size)) ≡ m → (b == c) ≡ true → behind_bytes 1 [] (behind_bytes 1 (c ∷ []) (scan false (escaped bs ++ tail))) ≡ found (b ∷ bs) m
      escaped_to c m ih e f = escape_step c bs (length (escaped bs) + size) m (scan false (escaped bs ++ tail)) ih e ∙ is c m f

      first_of_two : (x y : Bool) → (x && y) ≡ true → x ≡ true
      first_of_two true y e = refl
      first_of_two false y e = absurd cc

      by_tests : (t u v w x y : Bool) → (b == 92) ≡ t → (b == 34) ≡ u → (b == 10) ≡ v → (b == 9) ≡ w → (b == 13) ≡ x → (b == 35 && begins is_brace bs) ≡ y
          → scan false (escaped bs ++ tail) ≡ found bs (length (escaped bs) + size)
          → scan false ((cond t (92 ∷ 92 ∷ []) (cond u (92 ∷ 34 ∷ []) (cond v (92 ∷ 110 ∷ []) (cond w (92 ∷ 116 ∷ []) (cond x (92 ∷ 114 ∷ []) (cond y (92 ∷ 35 ∷ []) (b ∷ [])))))) ++ escaped bs) ++ tail)
          ≡ found (b ∷ bs) (length (cond t (92 ∷ 92 ∷ []) (cond u (92 ∷ 34 ∷ []) (cond v (92 ∷ 110 ∷ []) (cond w (92 ∷ 116 ∷ []) (cond x (92 ∷ 114 ∷ []) (cond y (92 ∷ 35 ∷ []) (b ∷ [])))))) ++ escaped bs) + size)
      by_tests true u v w x y e f g h i j ih = escaped_to 92 (suc (suc (length (escaped bs))) + size) ih (omega arith) e
      by_tests false true v w x y e f g h i j ih = escaped_to 34 (suc (suc (length (escaped bs))) + size) ih (omega arith) f
      by_tests false false true w x y e f g h i j ih = escaped_to 10 (suc (suc (length (escaped bs))) + size) ih (omega arith) g
      by_tests false false false true x y e f g h i j ih = escaped_to 9 (suc (suc (length (escaped bs))) + size) ih (omega arith) h
      by_tests false false false false true y e f g h i j ih = escaped_to 13 (suc (suc (length (escaped bs))) + size) ih (omega arith) i
      by_tests false false false false false true e f g h i j ih = escaped_to 35 (suc (suc (length (escaped bs))) + size) ih (omega arith) (first_of_two (b == 35) (begins is_brace bs) j)
      by_tests false false false false false false e f g h i j ih =
          plain_step b (escaped bs ++ tail) f e (no_hash (b == 35) (begins is_brace bs) (begins is_brace (escaped bs ++ tail)) j (λ none. no_brace bs none))
          ∙ ap (behind_bytes 1 (b ∷ [])) ih ∙ one_more b bs (length (escaped bs) + size) (suc (length (escaped bs)) + size) (omega arith)

-- ---- it is text

byte_utf8 : (b : ℕ) (rest : List ℕ) → b < 128 → IsUtf8 (escaped_byte b rest)
byte_utf8 b rest below = by_tests (b == 92) (b == 34) (b == 10) (b == 9) (b == 13) (b == 35 && begins is_brace rest)
  where
    by_tests : (t u v w x y : Bool) → IsUtf8 (cond t (92 ∷ 92 ∷ []) (cond u (92 ∷ 34 ∷ []) (cond v (92 ∷ 110 ∷ []) (cond w (92 ∷ 116 ∷ []) (cond x (92 ∷ 114 ∷ []) (cond y (92 ∷ 35 ∷ []) (b ∷ [])))))))
    by_tests true u v w x y = ascii_utf8 (92 ∷ 92 ∷ []) refl
    by_tests false true v w x y = ascii_utf8 (92 ∷ 34 ∷ []) refl
    by_tests false false true w x y = ascii_utf8 (92 ∷ 110 ∷ []) refl
    by_tests false false false true x y = ascii_utf8 (92 ∷ 116 ∷ []) refl
    by_tests false false false false true y = ascii_utf8 (92 ∷ 114 ∷ []) refl
    by_tests false false false false false true = ascii_utf8 (92 ∷ 35 ∷ []) refl
    by_tests false false false false false false = one_ascii b below

high_byte : (b : ℕ) (rest : List ℕ) → 128 ≤ b → escaped_byte b rest ≡ b ∷ []
high_byte b rest high =
    let a = not_low b 92 high (lit< tt) in let c = not_low b 34 high (lit< tt) in let d = not_low b 10 high (lit< tt) in
    let e = not_low b 9 high (lit< tt) in let f = not_low b 13 high (lit< tt) in let g = not_low b 35 high (lit< tt) in
    rw (a, c, d, e, f, g) refl

high_bytes : (xs ys : List ℕ) → AllHigh xs → escaped (xs ++ ys) ≡ xs ++ escaped ys
high_bytes [] ys high = refl
high_bytes (b ∷ xs) ys high = ap (λ (v : List ℕ). v ++ escaped (xs ++ ys)) (high_byte b (xs ++ ys) high.0) ∙ ap (λ (v : List ℕ). b ∷ v) (high_bytes xs ys high.1)

chars_utf8 : (cs : List ℕ) → scalars cs ≡ true → IsUtf8 (escaped (encodes cs))
chars_utf8 [] e = IsUtf8-nil
chars_utf8 (c ∷ cs) e =
    let rest = chars_utf8 cs (and_parts (scalar c) (scalars cs) e).1 in
    elim (cases_lt c 128) [
      | inl low ↦ subst (λ (v : List ℕ). IsUtf8 (escaped (v ++ encodes cs))) (sym (encode_ascii c low)) (IsUtf8-append (escaped_byte c (encodes cs)) (escaped (encodes cs)) (byte_utf8 c (encodes cs) low) rest)
      | inr high ↦ subst IsUtf8 (sym (high_bytes (encode c) (encodes cs) (high_encode c high))) (IsUtf8-append (encode c) (escaped (encodes cs)) (one_char c (and_parts (scalar c) (scalars cs) e).0) rest)
    ]

escaped_utf8 : (text : List ℕ) → IsUtf8 text → IsUtf8 (escaped text)
escaped_utf8 text (cs, (ok, same)) = subst (λ (v : List ℕ). IsUtf8 (escaped v)) same (chars_utf8 cs ok)

-- ---- the tokens

ends_more : (b : ℕ) (xs : List ℕ) (c : ℕ) (ys : List ℕ) → ends_line (b ∷ (xs ++ c ∷ ys)) ≡ ends_line (c ∷ ys)
ends_more b [] c ys = refl
ends_more b (x ∷ xs) c ys = ends_more x xs c ys

end_line_none : (b : ℕ) (text : List ℕ) (opens : Bool) → ends_line (b ∷ (text ++ part_end opens)) ≡ false
end_line_none b text false = ends_more b text 34 []
end_line_none b text true = ends_more b text 35 (123 ∷ [])

end_size : (opens : Bool) → length (part_end opens) ≡ size_of opens
end_size false = refl
end_size true = refl

end_utf8 : (opens : Bool) → IsUtf8 (part_end opens)
end_utf8 false = ascii_utf8 (34 ∷ []) refl
end_utf8 true = ascii_utf8 (35 ∷ 123 ∷ []) refl

-- a part behind its first byte
part_longest : (quoted opens : Bool) (text after : List ℕ) → IsLongest (part_form quoted) ((escaped text ++ part_end opens) ++ after) (length (escaped text ++ part_end opens)) (part_kind quoted (whole text opens))
part_longest quoted opens text after =
    let size : length (escaped text) + size_of opens ≡ length (escaped text ++ part_end opens) = omega (arith, length-append (escaped text) (part_end opens), end_size opens) in
    subst (λ (n : ℕ). IsLongest (part_form quoted) ((escaped text ++ part_end opens) ++ after) n (part_kind quoted (whole text opens))) size
    (longest_part quoted ((escaped text ++ part_end opens) ++ after) (whole text opens) (length (escaped text) + size_of opens)
    (ap (scan false) (append_assoc (escaped text) (part_end opens) after) ∙ scanned opens after text))

part_utf8 : (b : ℕ) (text : List ℕ) (opens : Bool) → b < 128 → IsUtf8 text → IsUtf8 (b ∷ (escaped text ++ part_end opens))
part_utf8 b text opens below utf8 = IsUtf8-append (b ∷ []) (escaped text ++ part_end opens) (one_ascii b below) (IsUtf8-append (escaped text) (part_end opens) (escaped_utf8 text utf8) (end_utf8 opens))

-- a part that begins with its quote
quoted_read : (before : Before) (s : Bool) (text after : List ℕ) (opens : Bool) → IsUtf8 text → spelled (part_kind true (whole text opens)) ≡ 34 ∷ (escaped text ++ part_end opens)
    → is_newline (part_kind true (whole text opens)) ≡ false → IsRead before s (part_kind true (whole text opens)) after
quoted_read before s text after opens utf8 are no_line = record {
  head = 34;
  rest = escaped text ++ part_end opens;
  are = are;
  solid = refl;
  utf8 = subst IsUtf8 (sym are) (part_utf8 34 text opens (lit< tt) utf8);
  ends = ap ends_line are ∙ end_line_none 34 (escaped text) opens ∙ sym no_line;
  longest = part_longest true opens text after;
}

inside_form : (before : Before) (s : Bool) (bytes : List ℕ) (n : ℕ) (kind : TokenKind) → in_insertion before ≡ true → IsLongest (part_form false) bytes n kind → IsLongest (form_by before s 125) bytes n kind
inside_form before s bytes n kind inside is = record {
  within = is.within;
  here = rw inside is.here;
  longest = λ m above within. rw inside (is.longest m above within);
}

-- a part that begins with the `}` of an insertion
inserted_read : (before : Before) (s : Bool) (text after : List ℕ) (opens : Bool) → in_insertion before ≡ true → IsUtf8 text → spelled (part_kind false (whole text opens)) ≡ 125 ∷ (escaped text ++ part_end opens)
    → is_newline (part_kind false (whole text opens)) ≡ false → IsRead before s (part_kind false (whole text opens)) after
inserted_read before s text after opens inside utf8 are no_line = record {
  head = 125;
  rest = escaped text ++ part_end opens;
  are = are;
  solid = refl;
  utf8 = subst IsUtf8 (sym are) (part_utf8 125 text opens (lit< tt) utf8);
  ends = ap ends_line are ∙ end_line_none 125 (escaped text) opens ∙ sym no_line;
  longest = inside_form before s ((escaped text ++ part_end opens) ++ after) (length (escaped text ++ part_end opens)) (part_kind false (whole text opens)) inside (part_longest false opens text after);
}

module _ (before : Before) (s : Bool) (text after : List ℕ) (utf8 : IsUtf8 text) where
  pub text_read : IsRead before s (k.Text text) after
  text_read = quoted_read before s text after false utf8 refl refl

  pub first_read : IsRead before s (k.TextFirst text) after
  first_read = quoted_read before s text after true utf8 refl refl

  pub middle_read : in_insertion before ≡ true → IsRead before s (k.TextMiddle text) after
  middle_read inside = inserted_read before s text after true inside utf8 refl refl

  pub last_read : in_insertion before ≡ true → IsRead before s (k.TextLast text) after
  last_read inside = inserted_read before s text after false inside utf8 refl refl
