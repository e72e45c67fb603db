-- From what a command came to, to its report.
use Rattle.std.proofs.Common.{◌≡◌, ℕ, ◌*◌, ◌≤◌, List, [], ◌++◌, length, Option, None, Some, Result, Ok, Err, OnOk, OnErr, sym, ap, ◌∙◌, arith, refl, inl, inr}
use Rattle.std.specs.Prelude.{string_bytes}
use Rattle.std.proofs.Math.Seq.{take-length}
use Rattle.cr_io.specs.declared.source.Failed.{Failed}
use Rattle.cr_io.specs.Faults.{HasCause}
use Rattle.cr_io.specs.Sink.{Appends, AppendsFront}
use Rattle.cr_schedule.specs.declared.entry.Entry.{Entry}
use Rattle.cr_tool.specs.declared.report.Ended.{Ended}
use Rattle.cr_tool.specs.declared.ending.Ending.{Ending}
use Rattle.cr_tool.specs.declared.ending.Ending.TheVariants as ending
use Rattle.cr_tool.specs.declared.report.Report.{Report}
use Rattle.cr_tool.specs.declared.sums.Line.{Line}
use Rattle.cr_tool.specs.declared.words.RunWords.{RunWords}
use Rattle.cr_tool.specs.Sums.{most_lines}
use Rattle.cr_tool.specs.Words.{IsRunLine}
use Rattle.cr_tool.specs.State.{State, start}
use Rattle.cr_tool.specs.Program.{program}
use Rattle.cr_tool.specs.Endings.{closing}
use Rattle.cr_tool.specs.Closed.{text_by}
use Rattle.cr_tool.specs.Outside.{Reading, Writing, Outside, ReadsWell, Writes}
use Rattle.cr_tool.specs.Refusals.{list_of_sums, RefusalsAreExact}
use Rattle.cr_tool.specs.Run.{CauseAfter, IsReport}
use Rattle.cr_tool.specs.Opened.{LineIs, IsClosed, IsProgram}
use Rattle.cr_tool.specs.Ended.{IsEndOfRun}
use Rattle.cr_tool.specs.Reported.{IsEnded, IsFinished}
use Rattle.cr_tool.proofs.EndsOfRuns.{left_alone, untouched}
use Rattle.cr_tool.proofs.Closings.{closed_memory}
use Rattle.cr_tool.proofs.Exactness.{exact}

-- the line that an ending carries is its closing line
pub text_is : (bytes : List ℕ) (e : Ending) (text : List ℕ) → LineIs bytes e text → text_by e text ≡ closing bytes e
text_is bytes (ending.Refused refusal) text is = is
text_is bytes ending.Told text is = refl
text_is bytes ending.Finished text is = refl
text_is bytes ending.Usage text is = refl
text_is bytes ending.SourceTooLong text is = refl
text_is bytes (ending.ReadFault place) text is = refl
text_is bytes (ending.WriteFault place) text is = refl
text_is bytes ending.NoMemory text is = refl

whole_front : (old new : Option (List ℕ)) (text : List ℕ) → Appends old text new → AppendsFront old text new
whole_front None new text appends = tt
whole_front (Some bytes) new text appends = (length text, appends ∙ ap (λ (t : List ℕ). Some (bytes ++ t)) (sym (take-length text)))

pub writes_by : (sink : Writing) (text : List ℕ) (r : Result (Unit {0}) Failed) → OnOk r (Appends sink.written text sink.written') → OnErr r (AppendsFront sink.written text sink.written') → HasCause sink.faults sink.faults' r → Writes sink text
writes_by sink text (Ok done) ok err cause = record { whole = λ none. ok; front = whole_front sink.written sink.written' text ok }
writes_by sink text (Err failed) ok err cause = record { whole = λ none. absurd (none cause.failed); front = err }

-- no refusal comes after a run
line_after : (bytes text : List ℕ) (e : Ending) (budget : ℕ) (out : Writing) (history : List Entry) (begin end : State) → CauseAfter e budget out history begin end → LineIs bytes e text
line_after bytes text (ending.Refused refusal) budget out history begin end cause = absurd cause
line_after bytes text ending.Told budget out history begin end cause = tt
line_after bytes text ending.Finished budget out history begin end cause = tt
line_after bytes text ending.Usage budget out history begin end cause = tt
line_after bytes text ending.SourceTooLong budget out history begin end cause = tt
line_after bytes text (ending.ReadFault place) budget out history begin end cause = tt
line_after bytes text (ending.WriteFault place) budget out history begin end cause = tt
line_after bytes text ending.NoMemory budget out history begin end cause = tt

pub ended_run : (source : Reading) (out : Writing) (lines : List Line) (ended : Ended) → IsProgram source lines → IsEndOfRun lines out ended → IsEnded source out ended
ended_run source out lines ended opened run = record {
  bytes = opened.bytes;
  told = opened.told;
  line = line_after opened.bytes (string_bytes ended.closed.line) ended.closed.ending 0 out ended.history.entries (start (program lines)) run.end (run.cause 0);
  cause = λ budget outside enough. inr (
    start (program lines),
    run.end,
    record {
      whole = opened.whole;
      begins = record { lines = lines; spelled = opened.spelled; at_start = refl };
      legal = run.legal;
      errors_are = sym run.no_errors;
      within = omega (arith, run.few, enough);
    },
    run.cause budget,
  );
}

-- nothing was run of a source that is no list of sums
pub ended_closed : (source : Reading) (written : Option (List ℕ)) (faults : ℕ) (ended : Ended) → IsClosed list_of_sums source ended.closed → ended.history.entries ≡ [] → IsEnded source (left_alone written faults) ended
ended_closed source written faults ended is none = record {
  bytes = is.bytes;
  told = is.told;
  line = is.line;
  cause = λ budget outside enough. inl (is.cause, record { no_history = none; no_errors = refl; no_output = untouched written faults });
}

-- nothing was done, since memory ran out before
pub ended_before : (source : Reading) (written : Option (List ℕ)) (faults : ℕ) (ended : Ended) → ended.closed.ending ≡ ending.NoMemory → ended.history.entries ≡ [] → ReadsWell source → IsEnded source (left_alone written faults) ended
ended_before source written faults ended is none well = ended_closed source written faults ended (closed_memory source ended.closed is well list_of_sums) none

pub reported : RefusalsAreExact → (budget : ℕ) (outside : Outside) (ended : Ended) (report : Report) → 3 * most_lines ≤ budget → IsEnded outside.source outside.out ended → IsFinished ended outside.err report → IsReport budget outside report
reported law budget outside ended report enough is finished =
    let cause = is.cause budget outside enough in
    record {
      bytes = is.bytes;
      told = is.told;
      errors = [];
      cause = rw (finished.ending_is, finished.history_is) cause;
      exact = rw finished.ending_is (exact law ended.closed.ending is.bytes budget outside ended.history.entries [] cause);
      status = finished.status;
      errors_written = finished.line is.bytes is.line;
    }

-- the budget of a command line is enough for any list of sums
pub enough : (line : List (List ℕ)) (run : RunWords) → IsRunLine line run → 3 * most_lines ≤ run.budget
enough line run is = rw is.says (omega arith)
