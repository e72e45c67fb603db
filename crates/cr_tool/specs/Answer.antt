-- What a command answers, and why: what holds of every command.
use Rattle.std.specs.Prelude.{◌≡◌, ◌⊎◌, ℕ, ◌<◌, ◌≤◌, List, [], length}
use Rattle.cr_schedule.specs.declared.entry.Entry.{Entry}
use Rattle.cr_tool.specs.declared.ending.Ending.{Ending}
use Rattle.cr_tool.specs.declared.ending.Ending.TheVariants as ending
use Rattle.cr_tool.specs.declared.ending.Refusal.{Refusal}
use Rattle.cr_tool.specs.declared.ending.Which.TheVariants as which
use Rattle.cr_tool.specs.declared.report.Report.{Report}
use Rattle.cr_tool.specs.Endings.{status_of, closing}
use Rattle.cr_tool.specs.Outside.{Reading, Outside, source_limit, FailsReading, ReadsWell, FailsWriting, Writes, IsUntouched, IsWhole}
use Rattle.cr_tool.specs.Refusals.{Demand, Takes, HasRefusal}

-- Nothing was run and nothing written.
pub record IsIdle (history : List Entry) (errors : List ℕ) (outside : Outside) : Type 0 where
  pub no_history : history ≡ []
  pub no_errors : errors ≡ []
  pub no_output : IsUntouched outside.out

-- The cause of an ending that comes before a command does its work, for a source with these bytes.
abbrev pub CauseBefore : Demand → Ending → List ℕ → Reading → Type 0
CauseBefore demand (ending.Refused refusal) bytes source = HasRefusal demand bytes refusal × IsWhole bytes source
CauseBefore demand ending.SourceTooLong bytes source = (source_limit < length bytes) × ReadsWell source
CauseBefore demand (ending.ReadFault place) bytes source = (place ≡ which.Source) × FailsReading source
CauseBefore demand ending.NoMemory bytes source = ReadsWell source
CauseBefore demand other bytes source = ⊥

-- the source is refused so
abbrev pub IsRefusedFor : Demand → Ending → List ℕ → Type 0
IsRefusedFor demand answer bytes = (refusal : Refusal) × HasRefusal demand bytes refusal × (answer ≡ ending.Refused refusal)

-- Where a cause holds and neither memory nor the outside fails, its ending comes. `done` is the ending of what the command takes; each
-- other source is refused.
pub record IsExact (demand : Demand) (done answer : Ending) (bytes : List ℕ) (outside : Outside) : Type 0 where
  pub taken : Takes demand bytes → length bytes ≤ source_limit → (FailsReading outside.source → ⊥) → (FailsWriting outside.out → ⊥)
      → (answer ≡ done) ⊎ (answer ≡ ending.NoMemory)
  pub refused : (Takes demand bytes → ⊥) → length bytes ≤ source_limit → (FailsReading outside.source → ⊥)
      → IsRefusedFor demand answer bytes ⊎ (answer ≡ ending.NoMemory)
  pub too_long : source_limit < length bytes → (FailsReading outside.source → ⊥) → (answer ≡ ending.SourceTooLong) ⊎ (answer ≡ ending.NoMemory)

-- A report on words that are no command line.
pub record IsNoCommand (outside : Outside) (report : Report) : Type 0 where
  pub usage : (report.ending ≡ ending.Usage) ⊎ (report.ending ≡ ending.NoMemory)
  pub status : report.status ≡ status_of report.ending
  pub idle : IsIdle report.history.entries [] outside
  pub line : Writes outside.err (closing [] report.ending)
