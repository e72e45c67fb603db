-- Places in a source, and what stands before the next token.
use Rattle.std.proofs.Common.{◌≡◌, ℕ, suc, ◌-◌, ◌≤◌, Bool, true, false, cond, eqb, List, [], ◌∷◌, length, drop, None, refl, ap, ◌∙◌, arith, length-drop}
use Rattle.cr_syntax.specs.Lexes.{Before, is_blank, line_length, gap_length, place_of, is_spaced, form_of, spells}

line_length_le : (bs : List ℕ) → line_length bs ≤ length bs
line_length_le [] = omega arith
line_length_le (b ∷ bs) = by_test (eqb b 10) (line_length_le bs)
  where
    by_test : (t : Bool) → line_length bs ≤ length bs → cond t 0 (suc (line_length bs)) ≤ suc (length bs)
    by_test true h = omega arith
    by_test false h = omega arith

gap_length_le : (bs : List ℕ) → gap_length bs ≤ length bs
gap_length_le [] = omega arith
gap_length_le (b ∷ bs) = by_tests (is_blank b) (eqb b 35) (gap_length_le bs) (line_length_le bs)
  where
    by_tests : (t u : Bool) → gap_length bs ≤ length bs → line_length bs ≤ length bs → cond t (suc (gap_length bs)) (cond u (suc (line_length bs)) 0) ≤ suc (length bs)
    by_tests true u h g = omega arith
    by_tests false true h g = omega arith
    by_tests false false h g = omega arith

pub place_of_le : (source : List ℕ) (at : ℕ) → at ≤ length source → place_of source at ≤ length source
place_of_le source at le = omega (arith, gap_length_le (drop at source), length-drop at source)

pub form_of_zero : (before : Before) (spaced : Bool) (bs : List ℕ) → form_of before spaced bs 0 ≡ None
form_of_zero before spaced [] = refl
form_of_zero before spaced (b ∷ bs) = refl

pub spells_before : (source : List ℕ) (before : Before) (at past : ℕ) → past ≤ place_of source at → spells source before at past ≡ None
spells_before source before at past le =
    let none : past - place_of source at ≡ 0 = omega arith in
    ap (form_of before (is_spaced source at) (drop (place_of source at) source)) none ∙ form_of_zero before (is_spaced source at) (drop (place_of source at) source)
