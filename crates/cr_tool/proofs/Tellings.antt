-- What a still command tells, to its report.
use Rattle.std.proofs.Common.{◌≡◌, ℕ, List, [], Option, ap, ◌∙◌, inl, inr}
use Rattle.cr_grammar.specs.declared.tree.Tree.{Tree}
use Rattle.cr_schedule.specs.History.{Record}
use Rattle.cr_tool.specs.declared.ending.Closed.{Closed}
use Rattle.cr_tool.specs.declared.ending.Ending.{Ending}
use Rattle.cr_tool.specs.declared.ending.Ending.TheVariants as ending
use Rattle.cr_tool.specs.declared.report.Ended.{Ended}
use Rattle.cr_tool.specs.declared.report.Report.{Report}
use Rattle.cr_tool.specs.declared.words.Still.{Still}
use Rattle.cr_tool.specs.Outside.{Reading, Outside, ReadsWell}
use Rattle.cr_tool.specs.Refusals.{nothing, RefusalsAreExact}
use Rattle.cr_tool.specs.Answer.{IsExact}
use Rattle.cr_tool.specs.Still.{still_text, IsProgramOf, CauseOfTelling, StillCause, IsStillReport}
use Rattle.cr_tool.specs.Opened.{IsClosed}
use Rattle.cr_tool.specs.Telling.{IsTold}
use Rattle.cr_tool.specs.Reported.{IsFinished}
use Rattle.cr_tool.proofs.Closings.{closed_memory}
use Rattle.cr_tool.proofs.EndsOfRuns.{left_alone, untouched}
use Rattle.cr_tool.proofs.Exactness.{exact_before, exact_done, exact_failed}

pub told_closed : (command : Still) (source : Reading) (written : Option (List ℕ)) (faults : ℕ) (closed : Closed) → IsClosed nothing source closed → IsTold command source (left_alone written faults) closed
told_closed command source written faults closed is = record {
  bytes = is.bytes;
  told = is.told;
  cause = λ outside. inl (is.cause, untouched written faults);
  line = is.line;
}

exact_told : (e : Ending) (text bytes : List ℕ) (outside : Outside) (x : Tree) → IsProgramOf bytes outside.source x → CauseOfTelling e text outside.out → IsExact nothing ending.Told e bytes outside
exact_told ending.Told text bytes outside x program cause = exact_done nothing ending.Told bytes outside (x, program.is) program.whole
exact_told (ending.WriteFault place) text bytes outside x program cause =
    exact_failed nothing ending.Told (ending.WriteFault place) bytes outside (x, program.is) program.whole cause.1
exact_told ending.Finished text bytes outside x program cause = absurd cause
exact_told ending.Usage text bytes outside x program cause = absurd cause
exact_told (ending.Refused refusal) text bytes outside x program cause = absurd cause
exact_told ending.SourceTooLong text bytes outside x program cause = absurd cause
exact_told (ending.ReadFault place) text bytes outside x program cause = absurd cause
exact_told ending.NoMemory text bytes outside x program cause = absurd cause

still_exact : RefusalsAreExact → (command : Still) (e : Ending) (bytes : List ℕ) (outside : Outside) → StillCause command e bytes outside → IsExact nothing ending.Told e bytes outside
still_exact law command e bytes outside (inl before) = exact_before law nothing ending.Told e bytes outside before.0
still_exact law command e bytes outside (inr told) = exact_told e (still_text command told.0) bytes outside told.0 told.1 told.2

pub still_reported : RefusalsAreExact → (command : Still) (outside : Outside) (ended : Ended) (report : Report) → IsTold command outside.source outside.out ended.closed → ended.history.entries ≡ [] → IsFinished ended outside.err report → IsStillReport command outside report
still_reported law command outside ended report is none finished = record {
  bytes = is.bytes;
  told = is.told;
  cause = rw finished.ending_is (is.cause outside);
  exact = rw finished.ending_is (still_exact law command ended.closed.ending is.bytes outside (is.cause outside));
  no_history = ap (λ (h : Record). h.entries) finished.history_is ∙ none;
  status = finished.status;
  errors_written = finished.line is.bytes is.line;
}

-- nothing was done, since memory ran out before
pub told_before : (command : Still) (source : Reading) (written : Option (List ℕ)) (faults : ℕ) (closed : Closed) → closed.ending ≡ ending.NoMemory → ReadsWell source → IsTold command source (left_alone written faults) closed
told_before command source written faults closed is well = told_closed command source written faults closed (closed_memory source closed is well nothing)
