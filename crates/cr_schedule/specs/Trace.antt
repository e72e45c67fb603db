-- The text of a history: one line for each entry.
use Rattle.std.specs.Prelude.{◌≡◌, ℕ, ◌+◌, ◌<◌, List, [], ◌∷◌, ◌++◌, length, All, Option, Some, None, codes, Result, Ok, Err}
use Rattle.std.specs.Fmt.{decimal}
use Rattle.std.specs.List.{flat_map, join_with_byte}
use Rattle.cr_base.specs.declared.ids.FiberId.{FiberId}
use Rattle.cr_schedule.specs.declared.entry.Entry.{Entry}
use Rattle.cr_schedule.specs.declared.entry.Entry.TheVariants.{Steps, Wait, Resume}
use Rattle.cr_schedule.specs.declared.trace_line.TheConstants.{SPACE, LINE_FEED}
use Rattle.cr_schedule.specs.declared.trace.TraceFault.{TraceFault}
use Rattle.cr_schedule.specs.declared.trace.TraceFault.TheVariants.{BadLine, NoMemory}
use Rattle.cr_schedule.specs.Entry.{HasLine}
use Rattle.cr_schedule.specs.History.{Record}

-- a number, or a dash where there is none
abbrev pub optional : Option ℕ → List ℕ
optional None = codes "-"
optional (Some n) = decimal n

abbrev pub optional_fiber : Option FiberId → List ℕ
optional_fiber None = codes "-"
optional_fiber (Some fiber) = decimal fiber.0

abbrev pub fields : Entry → List (List ℕ)
fields (Steps fiber count clause partner partner_clause) =
    codes "s" ∷ decimal fiber.0 ∷ decimal count ∷ optional clause ∷ optional_fiber partner ∷ optional partner_clause ∷ []
fields (Wait fiber) = codes "w" ∷ decimal fiber.0 ∷ []
fields (Resume fiber) = codes "r" ∷ decimal fiber.0 ∷ []

-- the fields with one space between each two
abbrev pub line : Entry → List ℕ
line entry = join_with_byte SPACE (fields entry)

-- each line is ended by a line feed
abbrev pub ended_line : Entry → List ℕ
ended_line entry = line entry ++ LINE_FEED ∷ []

abbrev pub trace : List Entry → List ℕ
trace entries = flat_map ended_line entries

-- the bytes are the trace of these entries
pub record IsTrace (bytes : List ℕ) (entries : List Entry) : Type 0 where
  pub lines : All HasLine entries
  pub text : bytes ≡ trace entries

-- no line with its line feed begins these bytes
abbrev pub BeginsNoLine : List ℕ → Type 0
BeginsNoLine bytes = (entry : Entry) (more : List ℕ) → HasLine entry → bytes ≡ ended_line entry ++ more → ⊥

-- The bytes are the lines of some entries, and then something that begins with no line. That is the
-- line of this number, from 1.
pub record IsFirstBad (bytes : List ℕ) (number : ℕ) : Type 0 where
  pub before : List Entry
  pub rest : List ℕ
  pub lines : All HasLine before
  pub text : bytes ≡ trace before ++ rest
  pub number_is : number ≡ length before + 1
  pub some : 0 < length rest
  pub bad : BeginsNoLine rest

-- What a reader answers, unless memory ran out: a history with P, or a bad line with Q.
abbrev pub Answers : Result Record TraceFault → (List Entry → Type 0) → (ℕ → Type 0) → Type 0
Answers (Ok history) P Q = P history.entries
Answers (Err (BadLine number)) P Q = Q number
Answers (Err NoMemory) P Q = Unit {0}
