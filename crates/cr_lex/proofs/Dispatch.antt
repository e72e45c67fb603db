-- A form is chosen by the first byte.
use Rattle.std.proofs.Common.{◌≡◌, ℕ, zero, suc, ◌+◌, ◌-◌, ◌<◌, ◌≤◌, Bool, true, false, not, ◌&&◌, ◌||◌, List, [], ◌∷◌, ◌++◌, length, take, drop, get_or, ◌==◌, None, Result, Ok, Err, refl, sym, ap, subst, ◌∙◌, arith}
use Rattle.std.proofs.lemmas.Bool.{eqb-true, and_parts, ne_eqb, not-true, or_parts}
use Rattle.std.proofs.Math.Bool.{and_comm}
use Rattle.std.proofs.lemmas.List.{take-append-drop, take_rest}
use Rattle.cr_syntax.specs.declared.fault.LexFault.{LexFault}
use Rattle.cr_syntax.specs.declared.fault.LexFault.TheVariants as fault
use Rattle.cr_syntax.specs.declared.token.TokenKind.{TokenKind}
use Rattle.cr_syntax.specs.Words.{is_digit, begins_name, begins_constant, begins}
use Rattle.cr_syntax.specs.Operators.{operator_of}
use Rattle.cr_syntax.specs.Lexes.{Before, in_insertion, takes_minus, form_by}
use Rattle.cr_syntax.specs.Faults.{text_fault, fault_at}
use Rattle.cr_lex.specs.Longest.{Form, IsLongest, HasNone}
use Rattle.cr_lex.specs.Words.{word_form, constant_form, operator_form, begins_content}
use Rattle.cr_lex.specs.Numbers.{number_form}
use Rattle.cr_lex.specs.Texts.{Bad, Unended, scan}
use Rattle.cr_lex.specs.Step.{begins_operator, digit_form, ReadsForm}
use Rattle.cr_lex.proofs.PartsRead.{says_so}

-- ---- a number from its first digit on

pub digit_longest : (rest : List ℕ) (n : ℕ) (kind : TokenKind) → begins is_digit rest ≡ true → 0 < n → IsLongest (number_form false) rest n kind
    → IsLongest (digit_form (get_or rest 0 0)) (drop 1 rest) (n - 1) kind
digit_longest rest zero kind digit some is = absurd (omega arith)
digit_longest [] (suc n) kind digit some is = absurd cc
digit_longest (b ∷ bs) (suc n) kind digit some is = let e : suc n - 1 ≡ n = omega arith in subst (λ (i : ℕ). IsLongest (digit_form b) bs i kind) (sym e) (record {
  within = (let le : suc n ≤ suc (length bs) = is.within in omega arith);
  here = is.here;
  longest = λ m above within. is.longest (suc m) (omega arith) (omega arith);
})

pub digit_none : (rest : List ℕ) → begins is_digit rest ≡ true → HasNone (number_form false) rest → HasNone (digit_form (get_or rest 0 0)) (drop 1 rest)
digit_none [] digit none m within = absurd cc
digit_none (b ∷ bs) digit none m within = none (suc m) (omega arith)

-- ---- the fault of a text

pub bad_fault : (quote place : ℕ) (bytes : List ℕ) (n : ℕ) → scan false bytes ≡ Bad n → fault.BadEscape (place + n) ≡ text_fault quote false (place + 1) bytes
bad_fault quote place bytes n e = let at : place + n ≡ place + 1 + n - 1 = omega arith in
    ap fault.BadEscape at ∙ sym ((says_so bytes (Bad n) e).is quote (place + 1))

pub open_fault : (quote place : ℕ) (bytes : List ℕ) → scan false bytes ≡ Unended → fault.OpenString quote ≡ text_fault quote false (place + 1) bytes
open_fault quote place bytes e = sym ((says_so bytes Unended e).is quote (place + 1))

-- ---- one form in the place of another

carry_longest : (F G : Form) (bytes : List ℕ) (n : ℕ) (kind : TokenKind) → ((m : ℕ) → m ≤ length bytes → F (take m bytes) (drop m bytes) ≡ G (take m bytes) (drop m bytes))
    → IsLongest G bytes n kind → IsLongest F bytes n kind
carry_longest F G bytes n kind same is = record {
  within = is.within;
  here = same n is.within ∙ is.here;
  longest = λ m above within. same m within ∙ is.longest m above within;
}

carry : (F G : Form) (bytes : List ℕ) (f g : LexFault) (r : Result (TokenKind × ℕ) LexFault) → ((m : ℕ) → m ≤ length bytes → F (take m bytes) (drop m bytes) ≡ G (take m bytes) (drop m bytes))
    → f ≡ g → ReadsForm G bytes g r → ReadsForm F bytes f r
carry F G bytes f g (Ok found) same faults reads = carry_longest F G bytes found.1 found.0 same reads
carry F G bytes f g (Err e) same faults reads = λ other. let h = reads other in ((λ m within. same m within ∙ h.0 m within), h.1 ∙ sym faults)

-- one of the tests holds, and it is none of the first
last_left : (d n c v q b m : Bool) → d ≡ false → n ≡ false → c ≡ false → v ≡ false → q ≡ false → b ≡ false → (not (d || (n || (c || (v || q)))) && (not b && not m)) ≡ false → m ≡ true
last_left d n c v q b true pd pn pc pv pq pb e = refl
last_left false false false false false false false pd pn pc pv pq pb e = absurd cc
last_left true n c v q b false pd pn pc pv pq pb e = absurd cc
last_left false true c v q b false pd pn pc pv pq pb e = absurd cc
last_left false false true v q b false pd pn pc pv pq pb e = absurd cc
last_left false false false true q b false pd pn pc pv pq pb e = absurd cc
last_left false false false false true b false pd pn pc pv pq pb e = absurd cc
last_left false false false false false true false pd pn pc pv pq pb e = absurd cc

abbrev Read : Type 0
Read = Result (TokenKind × ℕ) LexFault

module _ (before : Before) (spaced : Bool) (place : ℕ) where
  -- what is wanted of a reader
  abbrev pub Wanted : List ℕ → Read → Type 0
  Wanted rest r = ReadsForm (form_by before spaced (get_or rest 0 0)) (drop 1 rest) (fault_at before place rest) r

  digit_same : (b : ℕ) (t a : List ℕ) → is_digit b ≡ true → form_by before spaced b t a ≡ digit_form b t a
  digit_same b t a e = rw e refl

  word_same : (b : ℕ) (t a : List ℕ) → is_digit b ≡ false → begins_name b ≡ true → form_by before spaced b t a ≡ word_form b t a
  word_same b t a e f = rw (e, f) refl

  constant_same : (b : ℕ) (t a : List ℕ) → is_digit b ≡ false → begins_name b ≡ false → begins_constant b ≡ true → form_by before spaced b t a ≡ constant_form b t a
  constant_same b t a e f g = rw (e, f, g) refl

  digit_fault : (b : ℕ) (bs : List ℕ) → is_digit b ≡ true → fault_at before place (b ∷ bs) ≡ fault.BadNumber place
  digit_fault b bs e =
      let quote : (b == 34) ≡ false = ne_eqb b 34 (λ is. absurd (let no : is_digit 34 ≡ true = subst (λ (c : ℕ). is_digit c ≡ true) is e in cc)) in
      let brace : (b == 125) ≡ false = ne_eqb b 125 (λ is. absurd (let no : is_digit 125 ≡ true = subst (λ (c : ℕ). is_digit c ≡ true) is e in cc)) in
      rw (quote, brace, e) refl

  pub by_digit : (rest : List ℕ) (r : Read) → 0 < length rest → is_digit (get_or rest 0 0) ≡ true → ReadsForm (digit_form (get_or rest 0 0)) (drop 1 rest) (fault.BadNumber place) r → Wanted rest r
  by_digit [] r some e reads = absurd (omega arith)
  by_digit (b ∷ bs) r some e reads = carry (form_by before spaced b) (digit_form b) bs (fault_at before place (b ∷ bs)) (fault.BadNumber place) r
      (λ m within. digit_same b (take m bs) (drop m bs) e) (digit_fault b bs e) reads

  pub by_word : (rest : List ℕ) (r : Read) → 0 < length rest → is_digit (get_or rest 0 0) ≡ false → begins_name (get_or rest 0 0) ≡ true
      → ((f : LexFault) → ReadsForm (word_form (get_or rest 0 0)) (drop 1 rest) f r) → Wanted rest r
  by_word [] r some e f reads = absurd (omega arith)
  by_word (b ∷ bs) r some e f reads = carry (form_by before spaced b) (word_form b) bs (fault_at before place (b ∷ bs)) (fault_at before place (b ∷ bs)) r
      (λ m within. word_same b (take m bs) (drop m bs) e f) refl (reads (fault_at before place (b ∷ bs)))

  pub by_constant : (rest : List ℕ) (r : Read) → 0 < length rest → is_digit (get_or rest 0 0) ≡ false → begins_name (get_or rest 0 0) ≡ false → begins_constant (get_or rest 0 0) ≡ true
      → ((f : LexFault) → ReadsForm (constant_form (get_or rest 0 0)) (drop 1 rest) f r) → Wanted rest r
  by_constant [] r some e f g reads = absurd (omega arith)
  by_constant (b ∷ bs) r some e f g reads = carry (form_by before spaced b) (constant_form b) bs (fault_at before place (b ∷ bs)) (fault_at before place (b ∷ bs)) r
      (λ m within. constant_same b (take m bs) (drop m bs) e f g) refl (reads (fault_at before place (b ∷ bs)))

  -- the bytes behind the first, as the code slices them
  abbrev Sliced : List ℕ → List ℕ
  Sliced rest = take (length rest - 1) (drop 1 rest)

  -- nothing begins with the byte but an operator, the end of a line or, by the last test, a signed number
  record IsOther (b : ℕ) (bs : List ℕ) (signed : Bool) : Type 0 where
    digit : is_digit b ≡ false
    name : begins_name b ≡ false
    constant : begins_constant b ≡ false
    variable : (b == 64) ≡ false
    quote : (b == 34) ≡ false
    brace : (b == 125 && in_insertion before) ≡ false
    minus : (b == 45 && (begins is_digit bs && takes_minus before spaced)) ≡ signed

  and_assoc : (x y z : Bool) → (x && y && z) ≡ (x && (y && z))
  and_assoc true y z = refl
  and_assoc false y z = refl

  -- the last test, of what stands behind the byte in two parts
  minus_parts : (b : ℕ) (bs : List ℕ) (m : ℕ) (signed : Bool) → IsOther b bs signed → (b == 45 && takes_minus before spaced && begins is_digit (take m bs ++ drop m bs)) ≡ signed
  minus_parts b bs m signed is =
      and_assoc (b == 45) (takes_minus before spaced) (begins is_digit (take m bs ++ drop m bs))
      ∙ ap (λ (xs : List ℕ). b == 45 && (takes_minus before spaced && begins is_digit xs)) (take-append-drop m bs)
      ∙ ap (λ (t : Bool). b == 45 && t) (and_comm (takes_minus before spaced) (begins is_digit bs)) ∙ is.minus

  other_same : (b : ℕ) (bs : List ℕ) (m : ℕ) → IsOther b bs false → form_by before spaced b (take m bs) (drop m bs) ≡ operator_form b (take m bs) (drop m bs)
  other_same b bs m is =
      let digit = is.digit in let name = is.name in let constant = is.constant in let variable = is.variable in let quote = is.quote in let brace = is.brace in
      let minus = minus_parts b bs m false is in
      rw (digit, name, constant, variable, quote, brace, minus) refl

  signed_same : (b : ℕ) (bs : List ℕ) (m : ℕ) → IsOther b bs true → form_by before spaced b (take m bs) (drop m bs) ≡ number_form true (take m bs) (drop m bs)
  signed_same b bs m is =
      let digit = is.digit in let name = is.name in let constant = is.constant in let variable = is.variable in let quote = is.quote in let brace = is.brace in
      let minus = minus_parts b bs m true is in
      rw (digit, name, constant, variable, quote, brace, minus) refl

  other_fault : (b : ℕ) (bs : List ℕ) → IsOther b bs false → (b == 45) ≡ false → fault_at before place (b ∷ bs) ≡ fault.BadByte place
  other_fault b bs is minus = let digit = is.digit in let quote = is.quote in let brace = is.brace in rw (quote, brace, digit, minus) refl

  signed_fault : (b : ℕ) (bs : List ℕ) → IsOther b bs true → fault_at before place (b ∷ bs) ≡ fault.BadNumber place
  signed_fault b bs is =
      let digit = is.digit in let quote = is.quote in let brace = is.brace in
      let minus = (and_parts (b == 45) (begins is_digit bs && takes_minus before spaced) is.minus).0 in
      rw (quote, brace, digit, minus) refl

  by_minus_test : (b : ℕ) (bs : List ℕ) (t : Bool) → (b == 45) ≡ t → IsOther b bs false → HasNone (operator_form b) bs → fault_at before place (b ∷ bs) ≡ fault.BadByte place
  by_minus_test b bs false e is none = other_fault b bs is e
  by_minus_test b bs true e is none = absurd (let at : b ≡ 45 = eqb-true b 45 e in let no : operator_of (45 ∷ []) ≡ None = subst (λ (c : ℕ). operator_of (c ∷ []) ≡ None) at (none 0 (omega arith)) in cc)

  other : (b : ℕ) (bs : List ℕ) (r : Read) → IsOther b bs false → ReadsForm (operator_form b) bs (fault.BadByte place) r → ReadsForm (form_by before spaced b) bs (fault_at before place (b ∷ bs)) r
  other b bs (Ok found) is reads = carry_longest (form_by before spaced b) (operator_form b) bs found.1 found.0 (λ m within. other_same b bs m is) reads
  other b bs (Err e) is reads = λ apart. let h = reads apart in
      ((λ m within. other_same b bs m is ∙ h.0 m within), h.1 ∙ sym (by_minus_test b bs (b == 45) refl is h.0))

  is_other : (b : ℕ) (bs : List ℕ) → begins_operator before spaced b bs ≡ true → IsOther b bs false
  is_other b bs e =
      let content = (and_parts (not (begins_content b)) (not (b == 125 && in_insertion before) && not (b == 45 && (begins is_digit bs && takes_minus before spaced))) e).0 in
      let rest = (and_parts (not (begins_content b)) (not (b == 125 && in_insertion before) && not (b == 45 && (begins is_digit bs && takes_minus before spaced))) e).1 in
      let not_content : begins_content b ≡ false = not-true (begins_content b) content in
      let not_digit = or_parts (is_digit b) (begins_name b || (begins_constant b || (b == 64 || b == 34))) not_content in
      let not_name = or_parts (begins_name b) (begins_constant b || (b == 64 || b == 34)) not_digit.1 in
      let not_constant = or_parts (begins_constant b) (b == 64 || b == 34) not_name.1 in
      let not_mark = or_parts (b == 64) (b == 34) not_constant.1 in
      record {
        digit = not_digit.0;
        name = not_name.0;
        constant = not_constant.0;
        variable = not_mark.0;
        quote = not_mark.1;
        brace = not-true (b == 125 && in_insertion before) (and_parts (not (b == 125 && in_insertion before)) (not (b == 45 && (begins is_digit bs && takes_minus before spaced))) rest).0;
        minus = not-true (b == 45 && (begins is_digit bs && takes_minus before spaced)) (and_parts (not (b == 125 && in_insertion before)) (not (b == 45 && (begins is_digit bs && takes_minus before spaced))) rest).1;
      }

  pub by_operator : (b : ℕ) (bs : List ℕ) (r : Read) → begins_operator before spaced b bs ≡ true → ReadsForm (operator_form b) bs (fault.BadByte place) r → Wanted (b ∷ bs) r
  by_operator b bs r is reads = other b bs r (is_other b bs is) reads

  pub by_minus : (rest : List ℕ) (r : Read) → 0 < length rest → is_digit (get_or rest 0 0) ≡ false → begins_name (get_or rest 0 0) ≡ false → begins_constant (get_or rest 0 0) ≡ false
      → (get_or rest 0 0 ≡ 64 → ⊥) → (get_or rest 0 0 ≡ 34 → ⊥) → (get_or rest 0 0 == 125 && in_insertion before) ≡ false
      → begins_operator before spaced (get_or rest 0 0) (drop 1 rest) ≡ false
      → ReadsForm (number_form true) (Sliced rest) (fault.BadNumber place) r → Wanted rest r
  by_minus [] r some d n c v q b m reads = absurd (omega arith)
  by_minus (x ∷ xs) r some d n c v q b m reads =
      let is : IsOther x xs true = record {
        digit = d;
        name = n;
        constant = c;
        variable = ne_eqb x 64 v;
        quote = ne_eqb x 34 q;
        brace = b;
        minus = last_left (is_digit x) (begins_name x) (begins_constant x) (x == 64) (x == 34) (x == 125 && in_insertion before) (x == 45 && (begins is_digit xs && takes_minus before spaced))
            d n c (ne_eqb x 64 v) (ne_eqb x 34 q) b m;
      } in
      carry (form_by before spaced x) (number_form true) xs (fault_at before place (x ∷ xs)) (fault.BadNumber place) r (λ i within. signed_same x xs i is) (signed_fault x xs is)
      (subst (λ (ys : List ℕ). ReadsForm (number_form true) ys (fault.BadNumber place) r) (take_rest (x ∷ xs) 1) reads)
