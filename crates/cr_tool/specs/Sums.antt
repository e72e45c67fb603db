-- A list of sums: the programs that are taken so far, and how one is spelled.
use Rattle.std.specs.Prelude.{◌≡◌, ◌≢◌, ◌⊎◌, ℕ, ◌+◌, ◌<◌, ◌≤◌, ◌^◌, ◌==◌, if◌then◌else◌, List, [], ◌∷◌, ◌++◌, length, map, slice_index, Option, Some, None, IfSome, codes}
use Rattle.std.specs.List.{AllByRecursion, flat_map, onto_first}
use Rattle.std.specs.Fmt.{decimal}
use Rattle.cr_tool.specs.declared.sums.Sum.{Sum}
use Rattle.cr_tool.specs.declared.sums.Line.{Line}
use Rattle.cr_tool.specs.declared.sums.Line.TheVariants.{Blank, Puts}

-- the first place where the byte stands, or the length where it does not
pub record IsFirst (byte : ℕ) (bytes : List ℕ) (place : ℕ) : Type 0 where
  pub within : place ≤ length bytes
  pub before : (k : ℕ) → k < place → slice_index bytes k ≢ byte
  pub found : place < length bytes → slice_index bytes place ≡ byte

-- a literal has at most nine digits
abbrev pub IsLiteral : ℕ → Type 0
IsLiteral n = n < 10 ^ 9

abbrev pub plus : Option ℕ → List ℕ
plus None = []
plus (Some n) = codes " + " ++ decimal n

abbrev pub sum_text : Sum → List ℕ
sum_text sum = decimal sum.first ++ plus sum.second

abbrev pub IsSum : Sum → Type 0
IsSum sum = IsLiteral sum.first × IfSome sum.second IsLiteral

-- A line without its line feed. Decimal digits have no leading 0 before another digit.
abbrev pub spelling : Line → List ℕ
spelling Blank = []
spelling (Puts sum) = codes "puts " ++ sum_text sum

abbrev pub HasForm : Line → Type 0
HasForm Blank = Unit {0}
HasForm (Puts sum) = IsSum sum

-- The lines of a source. Each is ended by a line feed, which the last may lack.
abbrev pub lines_of : List ℕ → List (List ℕ)
lines_of [] = []
lines_of (c ∷ cs) = if c == 10 then [] ∷ lines_of cs else onto_first c (lines_of cs)

-- the first line of what is left of a source, and what is left behind it
pub record IsNextLine (source text rest : List ℕ) : Type 0 where
  pub lines : lines_of source ≡ text ∷ lines_of rest
  pub shorter : length rest < length source
  pub places : 0 < length rest → length source ≡ length text + 1 + length rest

-- the most lines that a list of sums has
abbrev pub most_lines : ℕ
most_lines = 1000

-- The source is this list of sums.
pub record Spells (source : List ℕ) (lines : List Line) : Type 0 where
  pub text : lines_of source ≡ map spelling lines
  pub form : AllByRecursion HasForm lines
  pub few : length lines ≤ most_lines

-- the bytes of these lines, each with its line feed
abbrev pub text_of : List Line → List ℕ
text_of lines = flat_map (λ line. spelling line ++ 10 ∷ []) lines

-- The source is no list of sums: `at` is the first byte of the first line that has not the form, or of one too many.
pub record IsUnbuilt (source : List ℕ) (at : ℕ) : Type 0 where
  pub good : List Line
  pub bad : List ℕ
  pub more : List (List ℕ)
  pub text : lines_of source ≡ map spelling good ++ bad ∷ more
  pub form : AllByRecursion HasForm good
  pub place : at ≡ length (text_of good)
  pub cause : (length good ≡ most_lines) ⊎ ((length good < most_lines) × ((line : Line) → HasForm line → bad ≢ spelling line))
