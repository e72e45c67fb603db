-- What a sum writes, and in how many reductions.
use Rattle.std.specs.Prelude.{ℕ, zero, suc, ◌+◌, List, [], ◌∷◌, ◌++◌, Option, Some, None}
use Rattle.std.specs.List.{flat_map}
use Rattle.std.specs.Fmt.{decimal}
use Rattle.cr_schedule.specs.declared.entry.Entry.{Entry}
use Rattle.cr_schedule.specs.declared.entry.Entry.TheVariants.{Steps}
use Rattle.cr_tool.specs.declared.evaluation.Stop.{Stop}
use Rattle.cr_tool.specs.declared.evaluation.Stop.TheVariants as stop
use Rattle.cr_tool.specs.declared.sums.Sum.{Sum}

abbrev pub total_of : ℕ → Option ℕ → ℕ
total_of first None = first
total_of first (Some second) = first + second

-- the line that it writes
abbrev pub output_line : Sum → List ℕ
output_line s = decimal (total_of s.first s.second) ++ 10 ∷ []

abbrev pub output_of : List Sum → List ℕ
output_of sums = flat_map output_line sums

abbrev pub additions : Option ℕ → ℕ
additions None = 0
additions (Some n) = 1

-- the reductions of its statement, and the one that goes on to the next
abbrev pub turns : Sum → ℕ
turns s = additions s.second + 2

-- the same where an evaluation stops at the sum: only a sum whose line was written in part counts
abbrev pub turns_at : Stop → Sum → ℕ
turns_at stop.NoMemory s = 0
turns_at stop.Failed s = turns s

-- the reductions of some statements in a row and those that go on to the next
abbrev pub turns_of : List Sum → ℕ
turns_of [] = 0
turns_of (s ∷ ss) = turns s + turns_of ss

-- The history of these reductions: one entry of main, which leaves out the reduction that would go on.
abbrev pub history_of : ℕ → List Entry
history_of zero = []
history_of (suc n) = Steps (record { 0 = 0 }) n None None None ∷ []
