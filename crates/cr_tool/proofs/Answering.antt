-- From the words of a command line to its answer.
use Rattle.std.proofs.Common.{◌≡◌, ◌⊎◌, ℕ, List, [], Option, ap, ◌∙◌, refl, inl, inr}
use Rattle.std.specs.Prelude.{string_bytes}
use Rattle.cr_schedule.specs.History.{Record}
use Rattle.cr_tool.specs.declared.ending.Ending.{Ending}
use Rattle.cr_tool.specs.declared.ending.Ending.TheVariants as ending
use Rattle.cr_tool.specs.declared.report.Ended.{Ended}
use Rattle.cr_tool.specs.declared.report.Report.{Report}
use Rattle.cr_tool.specs.declared.words.RunWords.{RunWords}
use Rattle.cr_tool.specs.declared.words.StillWords.{StillWords}
use Rattle.cr_tool.specs.declared.words.Words.{Words}
use Rattle.cr_tool.specs.declared.words.Words.TheVariants.{Run, Still}
use Rattle.cr_tool.specs.declared.words.WordsFault.{WordsFault}
use Rattle.cr_tool.specs.declared.words.WordsFault.TheVariants as fault
use Rattle.cr_tool.specs.Words.{Says}
use Rattle.cr_tool.specs.Outside.{Reading, Writing, Outside, ReadsWell}
use Rattle.cr_tool.specs.Refusals.{RefusalsAreExact}
use Rattle.cr_tool.specs.Run.{IsReport}
use Rattle.cr_tool.specs.Still.{IsStillReport}
use Rattle.cr_tool.specs.Tool.{IsAnswer}
use Rattle.cr_tool.specs.Opened.{LineIs}
use Rattle.cr_tool.specs.Reported.{IsFinished, ending_of}
use Rattle.cr_tool.proofs.CommandLines.{words_memory, same_run, same_still, run_or_still}
use Rattle.cr_tool.proofs.EndsOfRuns.{left_alone, untouched}
use Rattle.cr_tool.proofs.Reports.{enough, ended_before, reported}
use Rattle.cr_tool.proofs.Tellings.{told_before, still_reported}

pub answered_run : (line : List (List ℕ)) (words : RunWords) (outside : Outside) (report : Report) → Says line (Run words) → IsReport words.budget outside report → IsAnswer line outside report
answered_run line words outside report says is = record {
  run = λ others also. rw (same_run line others words also says) is;
  still = λ others also. absurd (run_or_still line words others says also);
  no_command = λ nothing. absurd (nothing (Run words) says);
}

pub answered_still : (line : List (List ℕ)) (words : StillWords) (outside : Outside) (report : Report) → Says line (Still words) → IsStillReport words.command outside report → IsAnswer line outside report
answered_still line words outside report says is = record {
  run = λ others also. absurd (run_or_still line others words also says);
  still = λ others also. rw (same_still line others words also says) is;
  no_command = λ nothing. absurd (nothing (Still words) says);
}

-- ---- words that are not read

usage_or_memory : (f : WordsFault) (e : Ending) → e ≡ ending_of f → (e ≡ ending.Usage) ⊎ (e ≡ ending.NoMemory)
usage_or_memory fault.Usage e is = inl is
usage_or_memory fault.NoMemory e is = inr is

no_refusal : (f : WordsFault) (e : Ending) (text : List ℕ) → e ≡ ending_of f → LineIs [] e text
no_refusal fault.Usage e text is = rw is tt
no_refusal fault.NoMemory e text is = rw is tt

-- the outside of a command that writes no output
abbrev silent : Reading → Reading → Option (List ℕ) → ℕ → Writing → Writing → Outside
silent source old_trace written faults err new_trace = record { source = source; old_trace = old_trace; out = left_alone written faults; err = err; new_trace = new_trace }

pub answered_unread : RefusalsAreExact → (line : List (List ℕ)) (f : WordsFault) (source old_trace : Reading) (written : Option (List ℕ)) (faults : ℕ) (err new_trace : Writing) (ended : Ended) (report : Report) → (f ≡ fault.Usage → (words : Words) → Says line words → ⊥) → ended.closed.ending ≡ ending_of f → ended.history.entries ≡ [] → ReadsWell source → IsFinished ended err report → IsAnswer line (silent source old_trace written faults err new_trace) report
answered_unread law line f source old_trace written faults err new_trace ended report usage is none well finished =
    let outside : Outside = silent source old_trace written faults err new_trace in
    record {
      run = λ words says.
          let memory : ended.closed.ending ≡ ending.NoMemory = is ∙ ap ending_of (words_memory line (Run words) f says usage) in
          reported law words.budget outside ended report (enough line words says) (ended_before source written faults ended memory none well) finished;
      still = λ words says.
          let memory : ended.closed.ending ≡ ending.NoMemory = is ∙ ap ending_of (words_memory line (Still words) f says usage) in
          still_reported law words.command outside ended report (told_before words.command source written faults ended.closed memory well) none finished;
      no_command = λ nothing. record {
        usage = usage_or_memory f report.ending (finished.ending_is ∙ is);
        status = finished.status;
        idle = record { no_history = ap (λ (h : Record). h.entries) finished.history_is ∙ none; no_errors = refl; no_output = untouched written faults };
        line = finished.line [] (no_refusal f ended.closed.ending (string_bytes ended.closed.line) is);
      };
    }
