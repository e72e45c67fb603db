-- The lines of a source, one after another from its front.
use Rattle.std.proofs.Common.{◌≡◌, ◌≢◌, ℕ, suc, ◌+◌, ◌-◌, ◌<◌, ◌≤◌, false, ◌==◌, List, [], ◌∷◌, ◌++◌, length, get_or, take, drop, map, sym, ap, ◌∙◌, arith, refl, add-zero, inl, inr, ◌⊎◌}
use Rattle.std.proofs.Math.Nat.{eq-or-lt_of_le}
use Rattle.std.proofs.lemmas.Bool.Decides.{nat_tests}
use Rattle.std.proofs.lemmas.List.{length-append, length-drop, length-take, map-append, append_assoc, append-nil, take-append-drop, get_or-take, get_or-drop}
use Rattle.std.proofs.lemmas.List.Concat.{flat_map-append}
use Rattle.std.specs.List.{AllByRecursion, onto_first}
use Rattle.cr_tool.specs.declared.sums.Line.{Line}
use Rattle.cr_tool.specs.Sums.{IsFirst, lines_of, IsNextLine, Spells, IsUnbuilt, spelling, HasForm, text_of, most_lines}

-- no byte of the text is a line feed
abbrev pub IsOneLine : List ℕ → Type 0
IsOneLine [] = Unit {0}
IsOneLine (c ∷ cs) = (c ≢ 10) × IsOneLine cs

not_ten : (c : ℕ) → c ≢ 10 → (c == 10) ≡ false
not_ten c ne = grind (arith, nat_tests)

one_line : (text : List ℕ) → ((k : ℕ) → k < length text → get_or text k 0 ≢ 10) → IsOneLine text
one_line [] free = tt
one_line (c ∷ cs) free = (free 0 (omega arith), one_line cs (λ k h. free (suc k) (omega arith)))

lines_of-line : (text rest : List ℕ) → IsOneLine text → lines_of (text ++ 10 ∷ rest) ≡ text ∷ lines_of rest
lines_of-line [] rest one = refl
lines_of-line (c ∷ cs) rest one = rw (not_ten c one.0, lines_of-line cs rest one.1) refl

lines_of-last : (c : ℕ) (text : List ℕ) → IsOneLine (c ∷ text) → lines_of (c ∷ text) ≡ (c ∷ text) ∷ []
lines_of-last c [] one = rw (not_ten c one.0) refl
lines_of-last c (d ∷ ds) one = rw (not_ten c one.0) (ap (onto_first c) (lines_of-last d ds one.1))

taken : (source : List ℕ) (i : ℕ) → IsFirst 10 source i → IsOneLine (take i source)
taken source i first = one_line (take i source) (λ k h is.
    let early : k < i = omega (arith, length-take i source) in
    first.before k early (sym (get_or-take i source k 0 early) ∙ is))

more_at : (text rest : List ℕ) (b : ℕ) → IsOneLine text → b ≡ 10 → IsNextLine (text ++ b ∷ rest) text rest
more_at text rest b one is = record {
  lines = rw is (lines_of-line text rest one);
  shorter = omega (arith, length-append text (b ∷ rest));
  places = λ some. omega (arith, length-append text (b ∷ rest));
}

last_at : (text rest : List ℕ) → 0 < length text → IsOneLine text → length rest ≡ 0 → IsNextLine (text ++ rest) text rest
last_at (c ∷ cs) [] some one none = record {
  lines = ap lines_of (append-nil (c ∷ cs)) ∙ lines_of-last c cs one;
  shorter = omega (arith, length-append (c ∷ cs) []);
  places = λ more. absurd (omega arith);
}
last_at [] rest some one none = absurd (omega arith)
last_at (c ∷ cs) (d ∷ ds) some one none = absurd (omega arith)

-- a search for the first line feed found none
pub next_line_last : (source text behind : List ℕ) (i : ℕ) → 0 < length source → IsFirst 10 source i → text ≡ take i source → behind ≡ drop i source → length behind ≡ 0 → IsNextLine source text behind
next_line_last source text behind i some first front back none =
    let whole : source ≡ text ++ behind = rw (front, back) (sym (take-append-drop i source)) in
    let one : IsOneLine text = rw front (taken source i first) in
    rw whole (last_at text behind (omega (arith, ap length whole, length-append text behind)) one none)

-- it found one
pub next_line_more : (source text behind rest : List ℕ) (b i : ℕ) → IsFirst 10 source i → text ≡ take i source → behind ≡ drop i source → behind ≡ b ∷ rest → IsNextLine source text rest
next_line_more source text behind rest b i first front back is =
    let whole : source ≡ text ++ (b ∷ rest) = rw (front, ← is, back) (sym (take-append-drop i source)) in
    let one : IsOneLine text = rw front (taken source i first) in
    let within : i < length source = omega (arith, ap length back, ap length is, length-drop i source) in
    let ten : b ≡ 10 = ap (λ (l : List ℕ). get_or l 0 0) (sym is ∙ back) ∙ get_or-drop i source 0 0 ∙ rw add-zero (first.found within) in
    rw whole (more_at text rest b one ten)

-- ---- the lines that are read so far, and what is left

-- These lines were read from the front of the source, and this is left.
pub record HasRead (source : List ℕ) (lines : List Line) (rest : List ℕ) : Type 0 where
  pub text : lines_of source ≡ map spelling lines ++ lines_of rest
  pub form : AllByRecursion HasForm lines
  pub few : length lines ≤ most_lines
  pub places : 0 < length rest → length source ≡ length (text_of lines) + length rest
  pub within : length rest ≤ length source

pub read_none : (source : List ℕ) → HasRead source [] source
read_none source = record { text = refl; form = tt; few = omega arith; places = λ some. omega arith; within = omega arith }

form_more : (lines : List Line) (line : Line) → AllByRecursion HasForm lines → HasForm line → AllByRecursion HasForm (lines ++ line ∷ [])
form_more [] line all form = (form, tt)
form_more (l ∷ ls) line all form = (all.0, form_more ls line all.1 form)

-- one more line
pub read_more : (source rest text behind : List ℕ) (lines : List Line) (line : Line) → HasRead source lines rest → IsNextLine rest text behind → length lines ≢ most_lines → HasForm line → text ≡ spelling line → HasRead source (lines ++ line ∷ []) behind
read_more source rest text behind lines line read next more form is = record {
  text = read.text ∙ ap (λ (ls : List (List ℕ)). map spelling lines ++ ls) (next.lines ∙ ap (λ (t : List ℕ). t ∷ lines_of behind) is) ∙ sym (rw map-append (append_assoc (map spelling lines) (spelling line ∷ []) (lines_of behind)));
  form = form_more lines line read.form form;
  few = omega (arith, read.few, more, length-append lines (line ∷ []));
  places = λ some. omega (arith, next.places some, read.places (omega arith), ap length is, ap length (flat_map-append (λ (l : Line). spelling l ++ 10 ∷ []) lines (line ∷ [])), length-append (text_of lines) (text_of (line ∷ [])), length-append (spelling line) (10 ∷ []), length-append (spelling line ++ 10 ∷ []) []);
  within = omega (arith, next.shorter, read.within);
}

pub all_read : (source rest : List ℕ) (lines : List Line) → HasRead source lines rest → length rest ≡ 0 → Spells source lines
all_read source [] lines read none = record { text = read.text ∙ append-nil (map spelling lines); form = read.form; few = read.few }
all_read source (c ∷ cs) lines read none = absurd (omega arith)

-- the next line is one too many, or has not the form
pub read_unbuilt : (source rest text behind : List ℕ) (lines : List Line) → HasRead source lines rest → IsNextLine rest text behind → (length lines ≡ most_lines) ⊎ ((line : Line) → HasForm line → text ≢ spelling line) → IsUnbuilt source (length source - length rest)
read_unbuilt source rest text behind lines read next cause = record {
  good = lines;
  bad = text;
  more = lines_of behind;
  text = read.text ∙ ap (λ (ls : List (List ℕ)). map spelling lines ++ ls) next.lines;
  form = read.form;
  place = omega (arith, read.places (omega (arith, next.shorter)));
  cause = decided cause;
} where
  decided : (length lines ≡ most_lines) ⊎ ((line : Line) → HasForm line → text ≢ spelling line) → (length lines ≡ most_lines) ⊎ ((length lines < most_lines) × ((line : Line) → HasForm line → text ≢ spelling line))
  decided (inl full) = inl full
  decided (inr unlike) = elim (eq-or-lt_of_le read.few) [ inl full ↦ inl full | inr below ↦ inr (below, unlike) ]

-- ---- a list of sums is not refused

parts_agree : (lines good : List Line) (bad : List ℕ) (more : List (List ℕ)) → map spelling lines ≡ map spelling good ++ bad ∷ more → AllByRecursion HasForm lines → (length good < length lines) × ((line : Line) × HasForm line × (bad ≡ spelling line))
parts_agree [] [] bad more is form = cc
parts_agree [] (g ∷ gs) bad more is form = cc
parts_agree (l ∷ ls) [] bad more is form = (omega arith, (l, form.0, cc))
parts_agree (l ∷ ls) (g ∷ gs) bad more is form =
    let rest = parts_agree ls gs bad more (let tails : map spelling ls ≡ map spelling gs ++ bad ∷ more = cc in tails) form.1 in
    (omega (arith, rest.0), rest.1)

pub not_both : (source : List ℕ) (lines : List Line) (place : ℕ) → Spells source lines → IsUnbuilt source place → ⊥
not_both source lines place spelled unbuilt =
    let agree = parts_agree lines unbuilt.good unbuilt.bad unbuilt.more (sym spelled.text ∙ unbuilt.text) spelled.form in
    elim unbuilt.cause [
      | inl full ↦ omega (arith, agree.0, full, spelled.few)
      | inr unlike ↦ unlike.1 agree.1.0 agree.1.1 agree.1.2
    ]
