-- Words with a `?` or `!` behind them.
use Rattle.std.proofs.Common.{◌≡◌, ℕ, zero, suc, ◌<◌, ◌≤◌, Bool, true, false, cond, not, ◌&&◌, List, [], ◌∷◌, length, take, drop, ◌==◌, refl, arith, inl, inr}
use Rattle.std.proofs.lemmas.Str.Ascii.{IsAscii-cons, IsAscii-nil}
use Rattle.std.specs.Str.{IsAscii, IsUtf8}
use Rattle.std.proofs.lemmas.Str.{IsUtf8-from_ascii}
use Rattle.std.proofs.lemmas.Bool.{eqb-true, and_from, and_parts, and_left, and_right, both_ways, or_cases, or_from, or_left, or_right}
use Rattle.cr_syntax.specs.Words.{begins_name, is_word_byte, is_mark, begins, is_word_end, word_of}
use Rattle.cr_lex.specs.Longest.{IsLongest}
use Rattle.cr_lex.specs.Words.{marked_length, is_equal, word_form}
use Rattle.cr_lex.proofs.WordBytes.{word_is_ascii, name_is_ascii, when_true, when_false}

abbrev marks : ℕ → List ℕ → Bool
marks b after = is_mark b && not (begins is_equal after)

end_more : (b : ℕ) (t after : List ℕ) → is_word_byte b ≡ true → is_word_end t after ≡ true → is_word_end (b ∷ t) after ≡ true
end_more b [] after is rest = or_left (is_word_byte b) (marks b after) is
end_more b (c ∷ t) after is rest = and_from (is_word_byte b) (is_word_end (c ∷ t) after) is rest

no_more : (b : ℕ) (t after : List ℕ) → is_word_end t after ≡ false → is_word_end (b ∷ t) after ≡ false
no_more b [] after rest = absurd cc
no_more b (c ∷ t) after rest = and_right (is_word_byte b) (is_word_end (c ∷ t) after) rest

-- the bytes up to the length are a word's, and no longer front is
marked_end : (bs : List ℕ) → is_word_end (take (marked_length bs) bs) (drop (marked_length bs) bs) ≡ true
marked_end [] = refl
marked_end (b ∷ bs) = by_tests (is_word_byte b) (marks b bs) refl refl (marked_end bs)
  where
    by_tests : (t u : Bool) → is_word_byte b ≡ t → marks b bs ≡ u → is_word_end (take (marked_length bs) bs) (drop (marked_length bs) bs) ≡ true
        → is_word_end (take (cond t (suc (marked_length bs)) (cond u 1 0)) (b ∷ bs)) (drop (cond t (suc (marked_length bs)) (cond u 1 0)) (b ∷ bs)) ≡ true
    by_tests true u is also rest = end_more b (take (marked_length bs) bs) (drop (marked_length bs) bs) is rest
    by_tests false true is also rest = or_right (is_word_byte b) (marks b bs) also
    by_tests false false is also rest = refl

not_word : (b : ℕ) (t after : List ℕ) → is_word_byte b ≡ false → marks b after ≡ false → is_word_end (b ∷ t) after ≡ false
not_word b [] after is also = or_from (is_word_byte b) (marks b after) is also
not_word b (c ∷ t) after is also = and_left (is_word_byte b) (is_word_end (c ∷ t) after) is

not_longer : (b c : ℕ) (t after : List ℕ) → is_word_byte b ≡ false → is_word_end (b ∷ c ∷ t) after ≡ false
not_longer b c t after is = and_left (is_word_byte b) (is_word_end (c ∷ t) after) is

past_mark : (b : ℕ) (bs : List ℕ) (m : ℕ) → is_word_byte b ≡ false → 0 < m → m ≤ length bs → is_word_end (b ∷ take m bs) (drop m bs) ≡ false
past_mark b bs zero is some within = absurd (omega arith)
past_mark b [] (suc m) is some within = absurd (omega arith)
past_mark b (c ∷ bs) (suc m) is some within = not_longer b c (take m bs) (drop m bs) is

past_none : (b : ℕ) (bs : List ℕ) (m : ℕ) → is_word_byte b ≡ false → marks b bs ≡ false → m ≤ length bs → is_word_end (b ∷ take m bs) (drop m bs) ≡ false
past_none b bs zero is also within = not_word b [] bs is also
past_none b bs (suc m) is also within = past_mark b bs (suc m) is (omega arith) within

marked_past : (bs : List ℕ) (m : ℕ) → marked_length bs < m → m ≤ length bs → is_word_end (take m bs) (drop m bs) ≡ false
marked_past bs zero above within = absurd (omega arith)
marked_past [] (suc m) above within = absurd (omega arith)
marked_past (b ∷ bs) (suc m) above within = by_tests (is_word_byte b) (marks b bs) refl refl above (marked_past bs m)
  where
    by_tests : (t u : Bool) → is_word_byte b ≡ t → marks b bs ≡ u → cond t (suc (marked_length bs)) (cond u 1 0) < suc m
        → (marked_length bs < m → m ≤ length bs → is_word_end (take m bs) (drop m bs) ≡ false) → is_word_end (b ∷ take m bs) (drop m bs) ≡ false
    by_tests true u is also above rest = no_more b (take m bs) (drop m bs) (rest (omega arith) (omega arith))
    by_tests false true is also above rest = past_mark b bs m is (omega arith) (omega arith)
    by_tests false false is also above rest = past_none b bs m is also (omega arith)

marked_within : (bs : List ℕ) → marked_length bs ≤ length bs
marked_within [] = omega arith
marked_within (b ∷ bs) = by_tests (is_word_byte b) (marks b bs) (marked_within bs)
  where
    by_tests : (t u : Bool) → marked_length bs ≤ length bs → cond t (suc (marked_length bs)) (cond u 1 0) ≤ suc (length bs)
    by_tests true u rest = omega arith
    by_tests false true rest = omega arith
    by_tests false false rest = omega arith

pub longest_word : (b : ℕ) (bs : List ℕ) → IsLongest (word_form b) bs (marked_length bs) (word_of (b ∷ take (marked_length bs) bs))
longest_word b bs = record {
  within = marked_within bs;
  here = when_true (is_word_end (take (marked_length bs) bs) (drop (marked_length bs) bs)) (word_of (b ∷ take (marked_length bs) bs)) (marked_end bs);
  longest = λ m above within. when_false (is_word_end (take m bs) (drop m bs)) (word_of (b ∷ take m bs)) (λ is. absurd (both_ways (is_word_end (take m bs) (drop m bs)) (marked_past bs m above within) is));
}

mark_is_ascii : (b : ℕ) → is_mark b ≡ true → b < 128
mark_is_ascii b e = elim (or_cases (b == 63) (b == 33) e) [
  | inl is ↦ (let at : b ≡ 63 = eqb-true b 63 is in omega arith)
  | inr is ↦ (let at : b ≡ 33 = eqb-true b 33 is in omega arith)
]

ascii_end : (t after : List ℕ) → is_word_end t after ≡ true → IsAscii t
ascii_end [] after e = IsAscii-nil
ascii_end (b ∷ []) after e = elim (or_cases (is_word_byte b) (marks b after) e) [
  | inl word ↦ IsAscii-cons b [] (word_is_ascii b word) IsAscii-nil
  | inr mark ↦ IsAscii-cons b [] (mark_is_ascii b (and_parts (is_mark b) (not (begins is_equal after)) mark).0) IsAscii-nil
]
ascii_end (b ∷ c ∷ t) after e = IsAscii-cons b (c ∷ t) (word_is_ascii b (and_parts (is_word_byte b) (is_word_end (c ∷ t) after) e).0)
    (ascii_end (c ∷ t) after (and_parts (is_word_byte b) (is_word_end (c ∷ t) after) e).1)

pub utf8_word : (b : ℕ) (bs : List ℕ) → begins_name b ≡ true → IsUtf8 (b ∷ take (marked_length bs) bs)
utf8_word b bs e = IsUtf8-from_ascii (b ∷ take (marked_length bs) bs) (IsAscii-cons b (take (marked_length bs) bs) (name_is_ascii b e)
    (ascii_end (take (marked_length bs) bs) (drop (marked_length bs) bs) (marked_end bs)))
