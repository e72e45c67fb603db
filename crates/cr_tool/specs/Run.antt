-- What `run` answers, and why.
use Rattle.std.specs.Prelude.{◌≡◌, ◌≢◌, ◌⊎◌, ℕ, ◌≤◌, List, [], ◌++◌, take, IfSome, Some}
use Rattle.cr_io.specs.Sink.{Appends}
use Rattle.cr_schedule.specs.declared.entry.Entry.{Entry}
use Rattle.cr_schedule.specs.Entry.{spent}
use Rattle.cr_tool.specs.declared.ending.Ending.{Ending}
use Rattle.cr_tool.specs.declared.ending.Ending.TheVariants as ending
use Rattle.cr_tool.specs.declared.ending.Which.TheVariants as which
use Rattle.cr_tool.specs.declared.report.Report.{Report}
use Rattle.cr_tool.specs.State.{State, run, without_last, Ends, finished}
use Rattle.cr_tool.specs.Program.{Begins}
use Rattle.cr_tool.specs.Endings.{status_of, closing}
use Rattle.cr_tool.specs.Outside.{Writing, Outside, FailsWriting, WritesWell, Writes, IsWhole}
use Rattle.cr_tool.specs.Refusals.{list_of_sums}
use Rattle.cr_tool.specs.Answer.{IsIdle, CauseBefore, IsExact}

-- The source spells a program, the history is legal for it, and the error lines are those of its run.
pub record IsRun (bytes : List ℕ) (budget : ℕ) (outside : Outside) (history : List Entry) (errors : List ℕ) (begin end : State) : Type 0 where
  pub whole : IsWhole bytes outside.source
  pub begins : Begins bytes begin
  pub legal : run begin history ≡ Some end
  pub errors_are : errors ≡ end.errors
  pub within : spent history ≤ budget

-- The run ends at the reduction whose text could not be written: all that was written before it came out, and of its text a front.
pub record BreaksOff (out : Writing) (history : List Entry) (begin end : State) : Type 0 where
  pub before : State
  pub legal : run begin (without_last history) ≡ Some before
  pub text : List ℕ
  pub some : text ≢ []
  pub writes : end.output ≡ before.output ++ text
  pub came : ℕ
  pub written : Appends out.written (before.output ++ take came text) out.written'

-- What stands at the end of a run that ended so: its state, and what was written of its output.
abbrev pub CauseAfter : Ending → ℕ → Writing → List Entry → State → State → Type 0
CauseAfter ending.Finished budget out history begin end = Ends finished end (spent history) budget × Appends out.written end.output out.written' × WritesWell out
CauseAfter (ending.WriteFault place) budget out history begin end = (place ≡ which.Out) × FailsWriting out × BreaksOff out history begin end
CauseAfter ending.NoMemory budget out history begin end = Appends out.written end.output out.written' × WritesWell out
CauseAfter other budget out history begin end = ⊥

-- The cause of each ending of `run FILE`: one before the run, which is then idle, or one after it.
abbrev pub Cause : Ending → List ℕ → ℕ → Outside → List Entry → List ℕ → Type 0
Cause e bytes budget outside history errors =
    (CauseBefore list_of_sums e bytes outside.source × IsIdle history errors outside)
    ⊎ ((begin : State) × (end : State) × IsRun bytes budget outside history errors begin end × CauseAfter e budget outside.out history begin end)

-- A report on `run FILE`: the source's bytes, which are those that it tells, the error lines of the run, and what follows
-- from them.
pub record IsReport (budget : ℕ) (outside : Outside) (report : Report) : Type 0 where
  pub bytes : List ℕ
  pub told : IfSome outside.source.left (λ left. bytes ≡ left)
  pub errors : List ℕ
  pub cause : Cause report.ending bytes budget outside report.history.entries errors
  pub exact : IsExact list_of_sums ending.Finished report.ending bytes outside
  pub status : report.status ≡ status_of report.ending
  pub errors_written : Writes outside.err (errors ++ closing bytes report.ending)
