-- Each source is a list of sums, or is none from some place on.
use Rattle.std.proofs.Common.{◌≡◌, ◌≢◌, ◌⊎◌, ℕ, zero, suc, ◌<◌, ◌≤◌, ◌^◌, List, [], ◌∷◌, ◌++◌, length, map, Option, None, Some, IfSome, refl, inl, inr, arith}
use Rattle.std.specs.List.{AllByRecursion}
use Rattle.std.proofs.lemmas.Bool.{cases_eq, cases_lt}
use Rattle.cr_tool.specs.declared.sums.Line.{Line}
use Rattle.cr_tool.specs.declared.sums.Line.TheVariants.{Blank, Puts}
use Rattle.cr_tool.specs.Sums.{IsLiteral, lines_of, spelling, HasForm, Spells, IsUnbuilt, most_lines, text_of}

-- ---- a line

same_text : (xs ys : List ℕ) → (xs ≡ ys) ⊎ (xs ≢ ys)
same_text [] [] = inl refl
same_text [] (y ∷ ys) = inr (λ is. let never : ⊥ = cc in never)
same_text (x ∷ xs) [] = inr (λ is. let never : ⊥ = cc in never)
same_text (x ∷ xs) (y ∷ ys) = elim (cases_eq x y) [
  | inl first ↦ elim (same_text xs ys) [
    | inl rest ↦ inl cc
    | inr unlike ↦ inr (λ is. unlike cc)
  ]
  | inr unlike ↦ inr (λ is. unlike cc)
]

-- Some number below a bound, or none: of each it is decided whether it serves.
below : (P : ℕ → Type 0) → ((n : ℕ) → P n ⊎ (P n → ⊥)) → (bound : ℕ) → ((n : ℕ) × (n < bound) × P n) ⊎ ((n : ℕ) → n < bound → P n → ⊥)
below P decided zero = inr (λ n less serves. omega (arith, less))
below P decided (suc k) = elim (decided k) [
  | inl serves ↦ inl (k, omega arith, serves)
  | inr not_last ↦ elim (below P decided k) [
    | inl found ↦ inl (found.0, omega (arith, found.1), found.2)
    | inr before ↦ inr (λ n less serves. elim (cases_lt n k) [
      | inl earlier ↦ before n earlier serves
      | inr last ↦ not_last (let same : n ≡ k = omega (arith, less, last) in rw same at serves)
    ])
  ]
]

abbrev one : ℕ → Line
one n = Puts (record { first = n; second = None })

abbrev two : ℕ → ℕ → Line
two n m = Puts (record { first = n; second = Some m })

record IsGood (text : List ℕ) : Type 0 where
  pub line : Line
  pub form : HasForm line
  pub is : text ≡ spelling line

abbrev IsTwo : List ℕ → ℕ → Type 0
IsTwo text n = (m : ℕ) × (m < 10 ^ 9) × (text ≡ spelling (two n m))

some_two : (text : List ℕ) (n : ℕ) → IsTwo text n ⊎ (IsTwo text n → ⊥)
some_two text n = elim (below (λ m. text ≡ spelling (two n m)) (λ m. same_text text (spelling (two n m))) (10 ^ 9)) [
  | inl found ↦ inl found
  | inr none ↦ inr (λ found. none found.0 found.1 found.2)
]

unlike_all : (text : List ℕ) → text ≢ spelling Blank → ((n : ℕ) → n < 10 ^ 9 → text ≡ spelling (one n) → ⊥) → ((n : ℕ) → n < 10 ^ 9 → IsTwo text n → ⊥) → (first : ℕ) (second : Option ℕ) → IsLiteral first → IfSome second IsLiteral → text ≡ spelling (Puts (record { first = first; second = second })) → ⊥
unlike_all text blank ones twos first None small none is = ones first small is
unlike_all text blank ones twos first (Some m) small also is = twos first small (m, also, is)

unlike_each : (text : List ℕ) → text ≢ spelling Blank → ((n : ℕ) → n < 10 ^ 9 → text ≡ spelling (one n) → ⊥) → ((n : ℕ) → n < 10 ^ 9 → IsTwo text n → ⊥) → (line : Line) → HasForm line → text ≡ spelling line → ⊥
unlike_each text blank ones twos Blank form is = blank is
unlike_each text blank ones twos (Puts s) form is = unlike_all text blank ones twos s.first s.second form.0 form.1 is

good_or_not : (text : List ℕ) → IsGood text ⊎ ((line : Line) → HasForm line → text ≢ spelling line)
good_or_not text = elim (same_text text (spelling Blank)) [
  | inl is ↦ inl (record { line = Blank; form = tt; is = is })
  | inr blank ↦ elim (below (λ n. text ≡ spelling (one n)) (λ n. same_text text (spelling (one n))) (10 ^ 9)) [
    | inl found ↦ inl (record { line = one found.0; form = (found.1, tt); is = found.2 })
    | inr ones ↦ elim (below (IsTwo text) (some_two text) (10 ^ 9)) [
      | inl found ↦ inl (record { line = two found.0 found.2.0; form = (found.1, found.2.1); is = found.2.2 })
      | inr twos ↦ inr (unlike_each text blank ones twos)
    ]
  ]
]

-- ---- the lines of a source

-- at most so many lines, which all have the form
record AreGood (most : ℕ) (texts : List (List ℕ)) : Type 0 where
  pub lines : List Line
  pub text : texts ≡ map spelling lines
  pub form : AllByRecursion HasForm lines
  pub few : length lines ≤ most

-- some good lines, then one too many or one that has not the form
record AreBad (most : ℕ) (texts : List (List ℕ)) : Type 0 where
  pub good : List Line
  pub bad : List ℕ
  pub more : List (List ℕ)
  pub text : texts ≡ map spelling good ++ bad ∷ more
  pub form : AllByRecursion HasForm good
  pub cause : (length good ≡ most) ⊎ ((length good < most) × ((line : Line) → HasForm line → bad ≢ spelling line))

all_good : (most : ℕ) (text : List ℕ) (texts : List (List ℕ)) → IsGood text → AreGood most texts → AreGood (suc most) (text ∷ texts)
all_good most text texts first rest = record {
  lines = first.line ∷ rest.lines;
  text = rw (← first.is, ← rest.text) refl;
  form = (first.form, rest.form);
  few = omega (arith, rest.few);
}

later_bad : (most : ℕ) (text : List ℕ) (texts : List (List ℕ)) → IsGood text → AreBad most texts → AreBad (suc most) (text ∷ texts)
later_bad most text texts first rest = record {
  good = first.line ∷ rest.good;
  bad = rest.bad;
  more = rest.more;
  text = rw (← first.is, ← rest.text) refl;
  form = (first.form, rest.form);
  cause = elim rest.cause [
    | inl full ↦ inl (omega (arith, full))
    | inr unlike ↦ inr (omega (arith, unlike.0), unlike.1)
  ];
}

good_or_bad : (most : ℕ) (texts : List (List ℕ)) → AreGood most texts ⊎ AreBad most texts
good_or_bad most [] = inl (record { lines = []; text = refl; form = tt; few = omega arith })
good_or_bad zero (text ∷ texts) = inr (record { good = []; bad = text; more = texts; text = refl; form = tt; cause = inl refl })
good_or_bad (suc most) (text ∷ texts) = elim (good_or_not text) [
  | inl first ↦ elim (good_or_bad most texts) [
    | inl rest ↦ inl (all_good most text texts first rest)
    | inr rest ↦ inr (later_bad most text texts first rest)
  ]
  | inr unlike ↦ inr (record { good = []; bad = text; more = texts; text = refl; form = tt; cause = inr (omega arith, unlike) })
]

pub taken_or_not : (source : List ℕ) → ((lines : List Line) × Spells source lines) ⊎ ((place : ℕ) × IsUnbuilt source place)
taken_or_not source = elim (good_or_bad most_lines (lines_of source)) [
  | inl all ↦ inl (all.lines, record { text = all.text; form = all.form; few = all.few })
  | inr some ↦ inr (length (text_of some.good), record { good = some.good; bad = some.bad; more = some.more; text = some.text; form = some.form; place = refl; cause = some.cause })
]
