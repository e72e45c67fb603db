-- What a part read from the left says of the fronts of the bytes.
use Rattle.std.proofs.Common.{◌≡◌, ℕ, zero, suc, ◌+◌, ◌-◌, ◌<◌, ◌≤◌, Bool, true, false, cond, ◌&&◌, List, [], ◌∷◌, ◌++◌, length, take, drop, ◌==◌, Option, Some, None, refl, sym, ap, ◌∙◌, arith, get_or, append_assoc, drop-cons}
use Rattle.std.proofs.lemmas.List.{take_rest}
use Rattle.std.specs.Prelude.{is_some}
use Rattle.std.proofs.Math.Bool.{and-false}
use Rattle.std.proofs.lemmas.Bool.{eq-eqb, and_parts, ne_eqb}
use Rattle.std.specs.Option.{option_map, option_and_then}
use Rattle.cr_syntax.specs.declared.fault.LexFault.{LexFault}
use Rattle.cr_syntax.specs.declared.fault.LexFault.TheVariants as fault
use Rattle.cr_syntax.specs.Words.{begins}
use Rattle.cr_syntax.specs.Texts.{escape, Part, ended, with_byte, is_empty, is_single, part_of}
use Rattle.cr_syntax.specs.Faults.{text_fault}
use Rattle.cr_lex.specs.Texts.{Scan, Found, Bad, Unended, with_text, behind_bytes, is_brace, with_escape, scan}

-- what a scan says: of a part found, that it is the longest front; else that no front is a part, and which fault is met
pub record Fits (escaped : Bool) (bytes : List ℕ) (n : ℕ) (part : Part) : Type 0 where
  pub within : n ≤ length bytes
  pub some : 0 < n
  pub here : part_of escaped (take n bytes) ≡ Some part
  pub longest : (m : ℕ) → n < m → m ≤ length bytes → part_of escaped (take m bytes) ≡ None

pub record Fails (escaped : Bool) (bytes : List ℕ) (met : (quote at : ℕ) → LexFault) : Type 0 where
  pub none : (m : ℕ) → m ≤ length bytes → part_of escaped (take m bytes) ≡ None
  pub is : (quote at : ℕ) → text_fault quote escaped at bytes ≡ met quote at

abbrev pub Says : Bool → List ℕ → Scan → Type 0
Says escaped bytes (Found part n) = Fits escaped bytes n part
Says escaped bytes (Bad n) = Fails escaped bytes (λ quote at. fault.BadEscape (at + n - 1))
Says escaped bytes Unended = Fails escaped bytes (λ quote at. fault.OpenString quote)

-- One step: what is said of the rest is said of the whole, where a byte stands for `text`.
record Steps (escaped after : Bool) (b : ℕ) (bs : List ℕ) (text : List ℕ) : Type 0 where
  pub parts : (m : ℕ) → m ≤ length bs → part_of escaped (b ∷ take m bs) ≡ option_map (with_text text) (part_of after (take m bs))
  pub faults : (quote at : ℕ) → text_fault quote escaped at (b ∷ bs) ≡ text_fault quote after (at + 1) bs

map_none : {A B : Type 0} (f : A → B) (o : Option A) → o ≡ None → option_map f o ≡ None
map_none f o e = ap (option_map f) e

none_at_all : (escaped : Bool) → part_of escaped [] ≡ None
none_at_all true = refl
none_at_all false = refl

step : (escaped after : Bool) (b : ℕ) (bs text : List ℕ) (s : Scan) → Steps escaped after b bs text → Says after bs s → Says escaped (b ∷ bs) (behind_bytes 1 text s)
step escaped after b bs text (Found part n) steps says = record {
  within = (let le : n ≤ length bs = says.within in omega arith);
  some = omega arith;
  here = (let e : 1 + n ≡ suc n = omega arith in
      ap (λ (i : ℕ). part_of escaped (take i (b ∷ bs))) e ∙ steps.parts n says.within ∙ ap (option_map (with_text text)) says.here);
  longest = longer;
}
  where
    longer : (m : ℕ) → 1 + n < m → m ≤ suc (length bs) → part_of escaped (take m (b ∷ bs)) ≡ None
    longer zero above within = absurd (omega arith)
    longer (suc m) above within = steps.parts m (omega arith) ∙ map_none (with_text text) (part_of after (take m bs)) (says.longest m (omega arith) (omega arith))
step escaped after b bs text (Bad n) steps says = record {
  none = none_by;
  is = λ quote at. steps.faults quote at ∙ says.is quote (at + 1) ∙ ap (λ (i : ℕ). fault.BadEscape (i - 1)) (let e : at + 1 + n ≡ at + (1 + n) = omega arith in e);
}
  where
    none_by : (m : ℕ) → m ≤ suc (length bs) → part_of escaped (take m (b ∷ bs)) ≡ None
    none_by zero within = none_at_all escaped
    none_by (suc m) within = steps.parts m (omega arith) ∙ map_none (with_text text) (part_of after (take m bs)) (says.none m (omega arith))
step escaped after b bs text Unended steps says = record {
  none = none_by;
  is = λ quote at. steps.faults quote at ∙ says.is quote (at + 1);
}
  where
    none_by : (m : ℕ) → m ≤ suc (length bs) → part_of escaped (take m (b ∷ bs)) ≡ None
    none_by zero within = none_at_all escaped
    none_by (suc m) within = steps.parts m (omega arith) ∙ map_none (with_text text) (part_of after (take m bs)) (says.none m (omega arith))

-- a byte behind a backslash
after_escape : (b : ℕ) (bs : List ℕ) (o : Option ℕ) (s : Scan) → escape b ≡ o → Says false bs s → Says true (b ∷ bs) (with_escape o s)
after_escape b bs None s e says = record {
  none = none_by;
  is = λ quote at. ap (λ (o : Option ℕ). cond (is_some o) (text_fault quote false (at + 1) bs) (fault.BadEscape (at - 1))) e ∙ ap (λ (i : ℕ). fault.BadEscape (i - 1)) (let z : at ≡ at + 0 = omega arith in z);
}
  where
    none_by : (m : ℕ) → m ≤ suc (length bs) → part_of true (take m (b ∷ bs)) ≡ None
    none_by zero within = refl
    none_by (suc m) within = ap (λ (o : Option ℕ). option_and_then (λ (c : ℕ). option_map (with_byte c) (part_of false (take m bs))) o) e
after_escape b bs (Some c) s e says = step true false b bs (c ∷ []) s (record {
  parts = λ m within. ap (λ (o : Option ℕ). option_and_then (λ (c : ℕ). option_map (with_byte c) (part_of false (take m bs))) o) e;
  faults = λ quote at. ap (λ (o : Option ℕ). cond (is_some o) (text_fault quote false (at + 1) bs) (fault.BadEscape (at - 1))) e;
}) says

-- ---- what a part is by its first byte

part_quote : (b : ℕ) (t : List ℕ) → (b == 34) ≡ true → part_of false (b ∷ t) ≡ cond (is_empty t) (Some (ended false)) None
part_quote b t e = rw e refl

part_slash : (b : ℕ) (t : List ℕ) → (b == 34) ≡ false → (b == 92) ≡ true → part_of false (b ∷ t) ≡ part_of true t
part_slash b t e f = rw (e, f) refl

part_hash : (b : ℕ) (t : List ℕ) → (b == 34) ≡ false → (b == 92) ≡ false → (b == 35 && begins is_brace t) ≡ true → part_of false (b ∷ t) ≡ cond (is_single t) (Some (ended true)) None
part_hash b t e f g = rw (e, f, g) refl

part_plain : (b : ℕ) (t : List ℕ) → (b == 34) ≡ false → (b == 92) ≡ false → (b == 35 && begins is_brace t) ≡ false → part_of false (b ∷ t) ≡ option_map (with_byte b) (part_of false t)
part_plain b t e f g = rw (e, f, g) refl

-- ---- each case of a scan

-- the closing quote
closing : (b : ℕ) (bs : List ℕ) → (b == 34) ≡ true → Fits false (b ∷ bs) 1 (ended false)
closing b bs e = record { within = omega arith; some = omega arith; here = part_quote b [] e; longest = longer bs }
  where
    longer : (bs : List ℕ) (m : ℕ) → 1 < m → m ≤ suc (length bs) → part_of false (take m (b ∷ bs)) ≡ None
    longer bs zero above within = refl
    longer bs (suc zero) above within = absurd (omega arith)
    longer [] (suc (suc m)) above within = absurd (omega arith)
    longer (c ∷ cs) (suc (suc m)) above within = part_quote b (c ∷ take m cs) e

opening : (b : ℕ) (bs : List ℕ) → (b == 34) ≡ false → (b == 92) ≡ false → (b == 35 && begins is_brace bs) ≡ true → Fits false (b ∷ bs) 2 (ended true)
opening b [] e f g = absurd (let no : begins is_brace [] ≡ true = (and_parts (b == 35) false g).1 in cc)
opening b (c ∷ cs) e f g = record { within = omega arith; some = omega arith; here = part_hash b (c ∷ []) e f g; longest = longer cs }
  where
    longer : (cs : List ℕ) (m : ℕ) → 2 < m → m ≤ suc (suc (length cs)) → part_of false (take m (b ∷ c ∷ cs)) ≡ None
    longer cs zero above within = refl
    longer cs (suc zero) above within = absurd (omega arith)
    longer cs (suc (suc zero)) above within = absurd (omega arith)
    longer [] (suc (suc (suc m))) above within = absurd (omega arith)
    longer (d ∷ ds) (suc (suc (suc m))) above within = part_hash b (c ∷ d ∷ take m ds) e f g

front_brace : (b : ℕ) (bs : List ℕ) (m : ℕ) → (b == 35 && begins is_brace bs) ≡ false → (b == 35 && begins is_brace (take m bs)) ≡ false
front_brace b bs zero g = and-false (b == 35)
front_brace b [] (suc m) g = g
front_brace b (c ∷ cs) (suc m) g = g

scan_by : (b : ℕ) (bs : List ℕ) (t u v : Bool) → (b == 34) ≡ t → (b == 92) ≡ u → (b == 35 && begins is_brace bs) ≡ v → Says true bs (scan true bs) → Says false bs (scan false bs)
    → Says false (b ∷ bs) (cond t (Found (ended false) 1) (cond u (behind_bytes 1 [] (scan true bs)) (cond v (Found (ended true) 2) (behind_bytes 1 (b ∷ []) (scan false bs)))))
scan_by b bs true u v e f g escaped plain = closing b bs e
scan_by b bs false true v e f g escaped plain = step false true b bs [] (scan true bs) (record {
  parts = λ m within. part_slash b (take m bs) e f ∙ sym (map_same (part_of true (take m bs)));
  faults = λ quote at. ap (λ (x : Bool). text_fault quote x (at + 1) bs) f;
}) escaped
  where
    map_same : (o : Option Part) → option_map (with_text []) o ≡ o
    map_same None = refl
    map_same (Some part) = refl
scan_by b bs false false true e f g escaped plain = opening b bs e f g
scan_by b bs false false false e f g escaped plain = step false false b bs (b ∷ []) (scan false bs) (record {
  parts = λ m within. part_plain b (take m bs) e f (front_brace b bs m g);
  faults = λ quote at. ap (λ (x : Bool). text_fault quote x (at + 1) bs) f;
}) plain

-- What a scan gives is what is said of the bytes.
pub scan_says : (escaped : Bool) (bytes : List ℕ) → Says escaped bytes (scan escaped bytes)
scan_says true [] = record { none = λ m within. nothing m; is = λ quote at. ap (λ (i : ℕ). fault.BadEscape (i - 1)) (let z : at ≡ at + 0 = omega arith in z) }
  where
    nothing : (m : ℕ) → part_of true (take m []) ≡ None
    nothing zero = refl
    nothing (suc m) = refl
scan_says false [] = record { none = λ m within. nothing m; is = λ quote at. refl }
  where
    nothing : (m : ℕ) → part_of false (take m []) ≡ None
    nothing zero = refl
    nothing (suc m) = refl
scan_says true (b ∷ bs) = after_escape b bs (escape b) (scan false bs) refl (scan_says false bs)
scan_says false (b ∷ bs) = scan_by b bs (b == 34) (b == 92) (b == 35 && begins is_brace bs) refl refl refl (scan_says true bs) (scan_says false bs)

-- ---- a turn of the loop

found_same : (part : Part) (xs ys : List ℕ) (k l : ℕ) → xs ≡ ys → k ≡ l → Found (record part { bytes = xs }) k ≡ Found (record part { bytes = ys }) l
found_same part xs ys k l p q = ap (λ (zs : List ℕ). Found (record part { bytes = zs }) k) p ∙ ap (Found (record part { bytes = ys })) q

pub push_turn : (i : ℕ) (content : List ℕ) (x : ℕ) (s : Scan) → behind_bytes i content (behind_bytes 1 (x ∷ []) s) ≡ behind_bytes (i + 1) (content ++ x ∷ []) s
push_turn i content x (Found part n) = found_same part (content ++ ((x ∷ []) ++ part.bytes)) ((content ++ x ∷ []) ++ part.bytes) (i + (1 + n)) (i + 1 + n)
    (sym (append_assoc content (x ∷ []) part.bytes)) (omega arith)
push_turn i content x (Bad n) = ap Bad (let e : i + (1 + n) ≡ i + 1 + n = omega arith in e)
push_turn i content x Unended = refl

skip_turn : (i : ℕ) (content : List ℕ) (s : Scan) → behind_bytes i content (behind_bytes 1 [] s) ≡ behind_bytes (i + 1) content s
skip_turn i content (Found part n) = ap (Found (with_text content part)) (let e : i + (1 + n) ≡ i + 1 + n = omega arith in e)
skip_turn i content (Bad n) = ap Bad (let e : i + (1 + n) ≡ i + 1 + n = omega arith in e)
skip_turn i content Unended = refl

module _ (bytes : List ℕ) (i : ℕ) (content : List ℕ) (whole : Scan) (below : i < length bytes) where
  at_byte : drop i bytes ≡ get_or bytes i 0 ∷ drop (i + 1) bytes
  at_byte = drop-cons bytes i 0 below ∙ ap (λ (k : ℕ). get_or bytes i 0 ∷ drop k bytes) (let e : suc i ≡ i + 1 = omega arith in e)

  pub escape_turn : (c : ℕ) → Some c ≡ escape (get_or bytes i 0) → behind_bytes i content (scan true (drop i bytes)) ≡ whole → behind_bytes (i + 1) (content ++ c ∷ []) (scan false (drop (i + 1) bytes)) ≡ whole
  escape_turn c e so_far = sym (push_turn i content c (scan false (drop (i + 1) bytes)))
      ∙ ap (λ (o : Option ℕ). behind_bytes i content (with_escape o (scan false (drop (i + 1) bytes)))) e
      ∙ ap (λ (bs : List ℕ). behind_bytes i content (scan true bs)) (sym at_byte) ∙ so_far

  scan_slash : (b : ℕ) (t : List ℕ) → (b == 34) ≡ false → (b == 92) ≡ true → scan false (b ∷ t) ≡ behind_bytes 1 [] (scan true t)
  scan_slash b t e f = rw (e, f) refl

  scan_plain : (b : ℕ) (t : List ℕ) → (b == 34) ≡ false → (b == 92) ≡ false → (b == 35 && begins is_brace t) ≡ false → scan false (b ∷ t) ≡ behind_bytes 1 (b ∷ []) (scan false t)
  scan_plain b t e f g = rw (e, f, g) refl

  pub slash_turn : (get_or bytes i 0 ≡ 34 → ⊥) → get_or bytes i 0 ≡ 92 → behind_bytes i content (scan false (drop i bytes)) ≡ whole → behind_bytes (i + 1) content (scan true (drop (i + 1) bytes)) ≡ whole
  slash_turn e f so_far = sym (skip_turn i content (scan true (drop (i + 1) bytes)))
      ∙ ap (behind_bytes i content) (sym (scan_slash (get_or bytes i 0) (drop (i + 1) bytes) (ne_eqb _ _ e) (eq-eqb _ _ f)))
      ∙ ap (λ (bs : List ℕ). behind_bytes i content (scan false bs)) (sym at_byte) ∙ so_far

  pub plain_turn : (get_or bytes i 0 ≡ 34 → ⊥) → (get_or bytes i 0 ≡ 92 → ⊥) → (get_or bytes i 0 == 35 && begins is_brace (drop (i + 1) bytes)) ≡ false
      → behind_bytes i content (scan false (drop i bytes)) ≡ whole → behind_bytes (i + 1) (content ++ get_or bytes i 0 ∷ []) (scan false (drop (i + 1) bytes)) ≡ whole
  plain_turn e f g so_far = sym (push_turn i content (get_or bytes i 0) (scan false (drop (i + 1) bytes)))
      ∙ ap (behind_bytes i content) (sym (scan_plain (get_or bytes i 0) (drop (i + 1) bytes) (ne_eqb _ _ e) (ne_eqb _ _ f) g))
      ∙ ap (λ (bs : List ℕ). behind_bytes i content (scan false bs)) (sym at_byte) ∙ so_far

  pub no_hash : (get_or bytes i 0 ≡ 35 → ⊥) → (get_or bytes i 0 == 35 && begins is_brace (drop (i + 1) bytes)) ≡ false
  no_hash e = ap (λ (t : Bool). t && begins is_brace (drop (i + 1) bytes)) (ne_eqb _ _ e)

  pub no_brace : false ≡ begins is_brace (take (length bytes - (i + 1)) (drop (i + 1) bytes)) → (get_or bytes i 0 == 35 && begins is_brace (drop (i + 1) bytes)) ≡ false
  no_brace e = ap (λ (t : Bool). get_or bytes i 0 == 35 && t) (sym (e ∙ ap (begins is_brace) (take_rest bytes (i + 1)))) ∙ and-false (get_or bytes i 0 == 35)
