-- How far an evaluation came.
use Rattle.std.specs.Prelude.{◌≡◌, ℕ, List, [], ◌∷◌, ◌++◌, take, Option, Some, None}
use Rattle.cr_io.specs.Sink.{Appends}
use Rattle.cr_tool.specs.declared.sums.Sum.{Sum}
use Rattle.cr_tool.specs.declared.evaluation.Stop.{Stop}
use Rattle.cr_tool.specs.declared.evaluation.Stop.TheVariants as stop
use Rattle.cr_tool.specs.declared.evaluation.Evaluated.{Evaluated}
use Rattle.cr_tool.specs.Writing.{output_line, output_of, turns_of}

-- The lines of all the sums but the last were written, and of that a front.
pub record FailsAtLast (old : Option (List ℕ)) (sums : List Sum) (new : Option (List ℕ)) : Type 0 where
  pub done : List Sum
  pub last : Sum
  pub parts : sums ≡ done ++ last ∷ []
  pub came : ℕ
  pub written : Appends old (output_of done ++ take came (output_line last)) new

-- What it wrote, up to where it stopped; the last sum's line, where the output failed, as far as it came.
abbrev pub WritesUpTo : Option Stop → Option (List ℕ) → List Sum → Option (List ℕ) → Type 0
WritesUpTo (Some stop.Failed) old sums new = FailsAtLast old sums new
WritesUpTo other old sums new = Appends old (output_of sums) new

-- It evaluated the front of these sums, and all of them if it did not stop.
pub record HasWritten (sums : List Sum) (old new : Option (List ℕ)) (result : Evaluated) : Type 0 where
  pub front : List Sum
  pub rest : List Sum
  pub parts : sums ≡ front ++ rest
  pub all : result.stop ≡ None → rest ≡ []
  pub turns_are : result.turns ≡ turns_of front
  pub writes : WritesUpTo result.stop old front new
