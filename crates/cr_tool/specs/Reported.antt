-- What a command comes to, and its report.
use Rattle.std.specs.Prelude.{◌≡◌, ℕ, ◌*◌, ◌≤◌, List, [], string_bytes}
use Rattle.cr_tool.specs.declared.ending.Ending.{Ending}
use Rattle.cr_tool.specs.declared.ending.Ending.TheVariants as ending
use Rattle.cr_tool.specs.declared.report.Ended.{Ended}
use Rattle.cr_tool.specs.declared.report.Report.{Report}
use Rattle.cr_tool.specs.declared.words.WordsFault.{WordsFault}
use Rattle.cr_tool.specs.declared.words.WordsFault.TheVariants as fault
use Rattle.cr_tool.specs.Sums.{most_lines}
use Rattle.cr_tool.specs.Endings.{status_of, closing}
use Rattle.cr_tool.specs.Outside.{Reading, Writing, Outside, Writes}
use Rattle.cr_tool.specs.Run.{Cause}
use Rattle.cr_tool.specs.Opened.{Tells, LineIs}

-- What reading a source and running its program comes to, with its cause. There are no error lines.
pub record IsEnded (source : Reading) (out : Writing) (ended : Ended) : Type 0 where
  pub bytes : List ℕ
  pub told : Tells source.left bytes
  pub line : LineIs bytes ended.closed.ending (string_bytes ended.closed.line)
  pub cause : (budget : ℕ) (outside : Outside) → 3 * most_lines ≤ budget → Cause ended.closed.ending bytes budget (record outside { source = source; out = out }) ended.history.entries []

-- The report on it, and the closing line.
pub record IsFinished (ended : Ended) (err : Writing) (report : Report) : Type 0 where
  pub ending_is : report.ending ≡ ended.closed.ending
  pub history_is : report.history ≡ ended.history
  pub status : report.status ≡ status_of report.ending
  pub line : (bytes : List ℕ) → LineIs bytes ended.closed.ending (string_bytes ended.closed.line) → Writes err (closing bytes report.ending)

-- the ending of words that are not read
abbrev pub ending_of : WordsFault → Ending
ending_of fault.Usage = ending.Usage
ending_of fault.NoMemory = ending.NoMemory
