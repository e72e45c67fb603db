-- The program of a list of sums: its core form.
use Rattle.std.specs.Prelude.{◌≡◌, ℕ, pos, List, [], ◌∷◌, map, Option, Some, None}
use Rattle.cr_value.specs.declared.value.Value.TheVariants.{Nil, Small}
use Rattle.cr_tool.specs.declared.sums.Sum.{Sum}
use Rattle.cr_tool.specs.declared.sums.Line.{Line}
use Rattle.cr_tool.specs.declared.sums.Line.TheVariants.{Blank, Puts}
use Rattle.cr_tool.specs.Sums.{Spells}
use Rattle.cr_tool.specs.Term.{Term, value, sum, puts, seq}
use Rattle.cr_tool.specs.State.{State, start}

abbrev pub literal : ℕ → Term
literal n = value (Small (pos n))

abbrev pub operand : ℕ → Option ℕ → Term
operand first None = literal first
operand first (Some second) = sum (literal first) (literal second)

abbrev pub statement : Sum → Term
statement s = puts (operand s.first s.second)

-- an empty line is no statement
abbrev pub sums_of : List Line → List Sum
sums_of [] = []
sums_of (Blank ∷ lines) = sums_of lines
sums_of (Puts s ∷ lines) = s ∷ sums_of lines

-- none: nil; one alone: itself; more: the first, then the rest
abbrev pub sequence : List Term → Term
sequence [] = value Nil
sequence (t ∷ []) = t
sequence (t ∷ u ∷ us) = seq t (sequence (u ∷ us))

abbrev pub program : List Line → Term
program lines = sequence (map statement (sums_of lines))

-- A run of the program that the source spells begins in this state.
pub record Begins (source : List ℕ) (begin : State) : Type 0 where
  pub lines : List Line
  pub spelled : Spells source lines
  pub at_start : begin ≡ start (program lines)
