-- What a run comes to.
use Rattle.std.specs.Prelude.{◌≡◌, ℕ, ◌*◌, ◌≤◌, List, [], Option, Some, None}
use Rattle.cr_schedule.specs.Entry.{spent}
use Rattle.cr_tool.specs.declared.report.Ended.{Ended}
use Rattle.cr_tool.specs.declared.ending.Ending.{Ending}
use Rattle.cr_tool.specs.declared.ending.Ending.TheVariants as ending
use Rattle.cr_tool.specs.declared.ending.Which.TheVariants as which
use Rattle.cr_tool.specs.declared.evaluation.Stop.{Stop}
use Rattle.cr_tool.specs.declared.evaluation.Stop.TheVariants as stop
use Rattle.cr_tool.specs.declared.sums.Line.{Line}
use Rattle.cr_tool.specs.Sums.{most_lines}
use Rattle.cr_tool.specs.State.{State, start, run}
use Rattle.cr_tool.specs.Program.{program}
use Rattle.cr_tool.specs.Outside.{Writing}
use Rattle.cr_tool.specs.Run.{CauseAfter}

-- the ending of an evaluation that stopped for this reason
abbrev pub ending_of : Option Stop → Ending
ending_of None = ending.Finished
ending_of (Some stop.NoMemory) = ending.NoMemory
ending_of (Some stop.Failed) = ending.WriteFault which.Out

-- The history is legal for the program of these lines, and leads to a state that is the cause of the ending.
pub record IsEndOfRun (lines : List Line) (out : Writing) (ended : Ended) : Type 0 where
  pub end : State
  pub legal : run (start (program lines)) ended.history.entries ≡ Some end
  pub no_errors : end.errors ≡ []
  pub cause : (budget : ℕ) → CauseAfter ended.closed.ending budget out ended.history.entries (start (program lines)) end
  pub few : spent ended.history.entries ≤ 3 * most_lines
