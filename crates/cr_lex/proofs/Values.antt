-- Numbers whose value is kept up to a bound.
use Rattle.std.proofs.Common.{◌≡◌, ℕ, zero, suc, ◌+◌, ◌-◌, ◌*◌, ◌^◌, ◌<◌, ◌≤◌, min, Bool, true, false, cond, ◌&&◌, ◌||◌, List, [], ◌∷◌, length, take, drop, get_or, ◌==◌, Option, Some, None, refl, sym, ap, subst, ◌∙◌, arith, inl, inr}
use Rattle.std.specs.Prelude.{nat_le, codes}
use Rattle.std.specs.Str.{bytes_eq}
use Rattle.std.proofs.lemmas.Bool.{cases_lt, leb-true, and_from, and_parts, leb-false, lt-leb, or_cases, or_left, or_right}
use Rattle.std.proofs.lemmas.Slice.Eq.{bytes_eq-Decides}
use Rattle.cr_syntax.specs.declared.token.TokenKind.{TokenKind}
use Rattle.cr_syntax.specs.Words.{is_digit, begins_name, begins_constant, is_word_byte, begins, all_word_bytes}
use Rattle.cr_syntax.specs.Numbers.{groups, digits_of, small, big, typed, number_of, ends_number}
use Rattle.cr_lex.specs.Longest.{IsLongest, HasNone}
use Rattle.cr_lex.specs.Words.{word_length}
use Rattle.cr_lex.specs.Numbers.{number_form, cap, grown, capped_groups, capped_digits}
use Rattle.cr_lex.proofs.WordBytes.{words_within, length_within, number_goes_on}

abbrev capped : ℕ × List ℕ → ℕ × List ℕ
capped p = (min p.0 cap, p.1)

digit_below : (b : ℕ) → is_digit b ≡ true → b - 48 < 10
digit_below b e = let le : b ≤ 57 = leb-true b 57 (and_parts (nat_le 48 b) (nat_le b 57) e).1 in omega arith

grown_min : (v d : ℕ) → d < 10 → grown (min v cap) d ≡ min (10 * v + d) cap
grown_min v d below = by_test (nat_le 922337203685477581 (min v cap)) refl
  where
    by_test : (t : Bool) → nat_le 922337203685477581 (min v cap) ≡ t → cond t cap (10 * min v cap + d) ≡ min (10 * v + d) cap
    by_test true is = let le : 922337203685477581 ≤ min v cap = leb-true 922337203685477581 (min v cap) is in omega arith
    by_test false is = let lt : min v cap < 922337203685477581 = leb-false 922337203685477581 (min v cap) is in omega arith

capped_by : (t u : Bool) (v : ℕ) (xs : List ℕ) (p q p' q' : ℕ × List ℕ) → (t ≡ true → p ≡ capped p') → q ≡ capped q'
    → cond t p (cond u q (min v cap, xs)) ≡ capped (cond t p' (cond u q' (v, xs)))
capped_by true u v xs p q p' q' f g = f refl
capped_by false true v xs p q p' q' f g = g
capped_by false false v xs p q p' q' f g = refl

groups_capped : (v : ℕ) (bs : List ℕ) → capped_groups (min v cap) bs ≡ capped (groups v bs)
groups_capped v [] = refl
groups_capped v (b ∷ bs) = capped_by (is_digit b) (b == 95 && begins is_digit bs) v (b ∷ bs)
    (capped_groups (grown (min v cap) (b - 48)) bs) (capped_groups (min v cap) bs) (groups (10 * v + (b - 48)) bs) (groups v bs)
    (λ is. ap (λ (n : ℕ). capped_groups n bs) (grown_min v (b - 48) (digit_below b is)) ∙ groups_capped (10 * v + (b - 48)) bs)
    (groups_capped v bs)

digits_capped : (b : ℕ) (bs : List ℕ) → is_digit b ≡ true → capped_digits b bs ≡ capped (digits_of b bs)
digits_capped b bs e = by_test (b == 48)
  where
    small : b - 48 ≡ min (b - 48) cap
    small = let below : b - 48 < 10 = digit_below b e in omega arith

    by_test : (t : Bool) → cond t (0, bs) (capped_groups (b - 48) bs) ≡ capped (cond t (0, bs) (groups (b - 48) bs))
    by_test true = refl
    by_test false = ap (λ (n : ℕ). capped_groups n bs) small ∙ groups_capped (b - 48) bs

-- no type has a value above the bound
not_small : (minus : Bool) (v : ℕ) → cap ≤ v → small minus v ≡ None
not_small true v le = let no : nat_le v (2 ^ 31) ≡ false = lt-leb v (2 ^ 31) (omega arith) in rw no refl
not_small false v le = let no : nat_le (v + 1) (2 ^ 31) ≡ false = lt-leb (v + 1) (2 ^ 31) (omega arith) in rw no refl

not_big : (minus : Bool) (v : ℕ) → cap ≤ v → big minus v ≡ None
not_big true v le = let no : nat_le v (2 ^ 63) ≡ false = lt-leb v (2 ^ 63) (omega arith) in rw no refl
not_big false v le = let no : nat_le (v + 1) (2 ^ 63) ≡ false = lt-leb (v + 1) (2 ^ 63) (omega arith) in rw no refl

same_small : (minus : Bool) (v : ℕ) → small minus (min v cap) ≡ small minus v
same_small minus v = elim (cases_lt v cap) [
  | inl lt ↦ ap (small minus) (omega arith)
  | inr le ↦ not_small minus (min v cap) (omega arith) ∙ sym (not_small minus v le)
]

same_big : (minus : Bool) (v : ℕ) → big minus (min v cap) ≡ big minus v
same_big minus v = elim (cases_lt v cap) [
  | inl lt ↦ ap (big minus) (omega arith)
  | inr le ↦ not_big minus (min v cap) (omega arith) ∙ sym (not_big minus v le)
]

same_typed : (minus : Bool) (v : ℕ) (suffix : List ℕ) → typed minus (min v cap) suffix ≡ typed minus v suffix
same_typed minus v suffix =
    ap (λ (o : Option TokenKind). cond (bytes_eq suffix [] || bytes_eq suffix (codes "i32") || bytes_eq suffix (codes "_i32")) o
    (cond (bytes_eq suffix (codes "i64") || bytes_eq suffix (codes "_i64")) (big minus (min v cap)) None)) (same_small minus v)
    ∙ ap (λ (o : Option TokenKind). cond (bytes_eq suffix [] || bytes_eq suffix (codes "i32") || bytes_eq suffix (codes "_i32")) (small minus v)
    (cond (bytes_eq suffix (codes "i64") || bytes_eq suffix (codes "_i64")) o None)) (same_big minus v)

typed_at : Bool → ℕ × List ℕ → Option TokenKind
typed_at minus p = typed minus p.0 p.1

number_from : (minus : Bool) (b : ℕ) (bs : List ℕ) (v : ℕ) (suffix : List ℕ) → is_digit b ≡ true → (v, suffix) ≡ capped_digits b bs → typed minus v suffix ≡ number_of minus (b ∷ bs)
unfolding typed_at
number_from minus b bs v suffix digit e =
    ap (typed_at minus) e ∙ ap (typed_at minus) (digits_capped b bs digit) ∙ same_typed minus (digits_of b bs).0 (digits_of b bs).1

pub number_of_text : (minus : Bool) (text : List ℕ) (v n : ℕ) → begins is_digit text ≡ true → (v, drop n (drop 1 text)) ≡ capped_digits (get_or text 0 0) (drop 1 text)
    → typed minus v (drop (1 + n) text) ≡ number_of minus text
number_of_text minus [] v n digit e = absurd cc
number_of_text minus (b ∷ bs) v n digit e =
    let one : 1 + n ≡ suc n = omega arith in
    ap (λ (i : ℕ). typed minus v (drop i (b ∷ bs))) one ∙ number_from minus b bs v (drop n bs) digit e

-- ---- a number is letters, digits and `_`

digit_is_word : (b : ℕ) → is_digit b ≡ true → is_word_byte b ≡ true
digit_is_word b e = or_right (begins_name b || begins_constant b) (is_digit b) e

line_is_word : (b : ℕ) → (b == 95) ≡ true → is_word_byte b ≡ true
line_is_word b e = or_left (begins_name b || begins_constant b) (is_digit b) (or_left (begins_name b) (begins_constant b) (or_right (nat_le 97 b && nat_le b 122) (b == 95) e))

words_by : (b : ℕ) (t u : Bool) (bs : List ℕ) (p q : ℕ × List ℕ) (v : ℕ) → is_digit b ≡ t → (b == 95 && begins is_digit bs) ≡ u
    → (all_word_bytes p.1 ≡ true → all_word_bytes bs ≡ true) → (all_word_bytes q.1 ≡ true → all_word_bytes bs ≡ true)
    → all_word_bytes (cond t p (cond u q (v, b ∷ bs))).1 ≡ true → all_word_bytes (b ∷ bs) ≡ true
words_by b true u bs p q v is also f g e = and_from (is_word_byte b) (all_word_bytes bs) (digit_is_word b is) (f e)
words_by b false true bs p q v is also f g e = and_from (is_word_byte b) (all_word_bytes bs) (line_is_word b (and_parts (b == 95) (begins is_digit bs) also).0) (g e)
words_by b false false bs p q v is also f g e = e

groups_words : (v : ℕ) (bs : List ℕ) → all_word_bytes (groups v bs).1 ≡ true → all_word_bytes bs ≡ true
groups_words v [] e = refl
groups_words v (b ∷ bs) e = words_by b (is_digit b) (b == 95 && begins is_digit bs) bs (groups (10 * v + (b - 48)) bs) (groups v bs) v refl refl
    (groups_words (10 * v + (b - 48)) bs) (groups_words v bs) e

suffix_words : (minus : Bool) (v : ℕ) (suffix : List ℕ) (kind : TokenKind) → typed minus v suffix ≡ Some kind → all_word_bytes suffix ≡ true
suffix_words minus v suffix kind e = by_tests (bytes_eq suffix [] || bytes_eq suffix (codes "i32") || bytes_eq suffix (codes "_i32")) (bytes_eq suffix (codes "i64") || bytes_eq suffix (codes "_i64")) refl refl e
  where
    is : (text : List ℕ) → all_word_bytes text ≡ true → bytes_eq suffix text ≡ true → all_word_bytes suffix ≡ true
    is text all same = ap all_word_bytes ((bytes_eq-Decides suffix text).0 same) ∙ all

    by_tests : (t u : Bool) → (bytes_eq suffix [] || bytes_eq suffix (codes "i32") || bytes_eq suffix (codes "_i32")) ≡ t → (bytes_eq suffix (codes "i64") || bytes_eq suffix (codes "_i64")) ≡ u
        → cond t (small minus v) (cond u (big minus v) None) ≡ Some kind → all_word_bytes suffix ≡ true
    by_tests true u s b e = elim (or_cases (bytes_eq suffix [] || bytes_eq suffix (codes "i32")) (bytes_eq suffix (codes "_i32")) s) [
      | inr last ↦ is (codes "_i32") refl last
      | inl more ↦ elim (or_cases (bytes_eq suffix []) (bytes_eq suffix (codes "i32")) more) [ inl none ↦ is [] refl none | inr plain ↦ is (codes "i32") refl plain ]
    ]
    by_tests false true s b e = elim (or_cases (bytes_eq suffix (codes "i64")) (bytes_eq suffix (codes "_i64")) b) [ inl plain ↦ is (codes "i64") refl plain | inr last ↦ is (codes "_i64") refl last ]
    by_tests false false s b e = absurd cc

digits_words : (b : ℕ) (bs : List ℕ) → all_word_bytes (digits_of b bs).1 ≡ true → all_word_bytes bs ≡ true
digits_words b bs e = by_test (b == 48) e
  where
    by_test : (t : Bool) → all_word_bytes (cond t (0, bs) (groups (b - 48) bs)).1 ≡ true → all_word_bytes bs ≡ true
    by_test true e = e
    by_test false e = groups_words (b - 48) bs e

number_words : (minus : Bool) (text : List ℕ) (kind : TokenKind) → begins is_digit text ≡ true → number_of minus text ≡ Some kind → all_word_bytes text ≡ true
number_words minus [] kind digit e = refl
number_words minus (b ∷ bs) kind digit e = and_from (is_word_byte b) (all_word_bytes bs) (digit_is_word b digit)
    (digits_words b bs (suffix_words minus (digits_of b bs).0 (digits_of b bs).1 kind e))

-- ---- the one front that may be a number

begins_front : (bs : List ℕ) (m : ℕ) → 0 < m → begins is_digit bs ≡ true → begins is_digit (take m bs) ≡ true
begins_front bs zero some e = absurd (omega arith)
begins_front [] (suc m) some e = e
begins_front (b ∷ bs) (suc m) some e = e

none_either : (t : Bool) (o : Option TokenKind) → o ≡ None → cond t o None ≡ None
none_either true o e = e
none_either false o e = refl

number_past : (minus : Bool) (bs : List ℕ) → begins is_digit bs ≡ true → (m : ℕ) → word_length bs < m → m ≤ length bs → number_form minus (take m bs) (drop m bs) ≡ None
number_past minus bs digit m above within = none_either (ends_number (drop m bs)) (number_of minus (take m bs)) (by_value (number_of minus (take m bs)) refl)
  where
    by_value : (o : Option TokenKind) → number_of minus (take m bs) ≡ o → o ≡ None
    by_value None e = refl
    by_value (Some kind) e = absurd (let le : m ≤ word_length bs = words_within bs m within (number_words minus (take m bs) kind (begins_front bs m (omega arith) digit) e) in omega arith)

number_before : (minus : Bool) (bs : List ℕ) (m : ℕ) → ends_number (drop m bs) ≡ false → number_form minus (take m bs) (drop m bs) ≡ None
number_before minus bs m e = ap (λ (t : Bool). cond t (number_of minus (take m bs)) None) e

pub longest_number : (minus : Bool) (bs : List ℕ) (kind : TokenKind) → begins is_digit bs ≡ true → ends_number (drop (word_length bs) bs) ≡ true → Some kind ≡ number_of minus (take (word_length bs) bs)
    → IsLongest (number_form minus) bs (word_length bs) kind
longest_number minus bs kind digit ends e = record {
  within = length_within bs;
  here = ap (λ (t : Bool). cond t (number_of minus (take (word_length bs) bs)) None) ends ∙ sym e;
  longest = number_past minus bs digit;
}

none_at : (minus : Bool) (bs : List ℕ) → begins is_digit bs ≡ true → number_form minus (take (word_length bs) bs) (drop (word_length bs) bs) ≡ None → HasNone (number_form minus) bs
none_at minus bs digit here m within = elim (cases_lt m (word_length bs)) [
  | inl below ↦ number_before minus bs m (number_goes_on bs m below)
  | inr most ↦ elim (cases_lt (word_length bs) m) [
    | inl above ↦ number_past minus bs digit m above within
    | inr le ↦ (let same : word_length bs ≡ m = omega arith in subst (λ (i : ℕ). number_form minus (take i bs) (drop i bs) ≡ None) same here)
  ]
]

pub unended_number : (minus : Bool) (bs : List ℕ) → begins is_digit bs ≡ true → ends_number (drop (word_length bs) bs) ≡ false → HasNone (number_form minus) bs
unended_number minus bs digit e = none_at minus bs digit (number_before minus bs (word_length bs) e)

pub no_number : (minus : Bool) (bs : List ℕ) → begins is_digit bs ≡ true → None ≡ number_of minus (take (word_length bs) bs) → HasNone (number_form minus) bs
no_number minus bs digit e = none_at minus bs digit (none_either (ends_number (drop (word_length bs) bs)) (number_of minus (take (word_length bs) bs)) (sym e))

pub some_digits : (bs : List ℕ) → begins is_digit bs ≡ true → 0 < word_length bs
some_digits [] e = absurd cc
some_digits (b ∷ bs) e = let here : word_length (b ∷ bs) ≡ suc (word_length bs) = ap (λ (t : Bool). cond t (suc (word_length bs)) 0) (digit_is_word b e) in omega arith
