-- What an evaluation comes to.
use Rattle.std.proofs.Common.{◌≡◌, ◌≢◌, ℕ, suc, zero, ◌*◌, ◌≤◌, List, [], ◌∷◌, ◌++◌, Option, None, Some, sym, ap, ◌∙◌, arith, refl}
use Rattle.std.specs.List.{AllByRecursion}
use Rattle.std.specs.Fmt.{decimal}
use Rattle.std.proofs.lemmas.List.{append-nil, append_assoc}
use Rattle.cr_io.specs.Sink.{Appends}
use Rattle.cr_schedule.specs.Entry.{spent}
use Rattle.cr_tool.specs.declared.sums.Line.{Line}
use Rattle.cr_tool.specs.declared.sums.Sum.{Sum}
use Rattle.cr_tool.specs.declared.report.Ended.{Ended}
use Rattle.cr_tool.specs.declared.ending.Ending.TheVariants as ending
use Rattle.cr_tool.specs.declared.evaluation.Stop.{Stop}
use Rattle.cr_tool.specs.declared.evaluation.Stop.TheVariants as stop
use Rattle.cr_tool.specs.declared.evaluation.Evaluated.{Evaluated}
use Rattle.cr_tool.specs.Sums.{HasForm, most_lines}
use Rattle.cr_tool.specs.State.{State, start, run, without_last}
use Rattle.cr_tool.specs.Program.{sums_of, program}
use Rattle.cr_tool.specs.Writing.{total_of, output_line, output_of, turns_of, history_of}
use Rattle.cr_tool.specs.Evaluated.{HasWritten, FailsAtLast, WritesUpTo}
use Rattle.cr_tool.specs.Outside.{Writing, FailsWriting, WritesWell, IsUntouched}
use Rattle.cr_tool.specs.Run.{CauseAfter, BreaksOff}
use Rattle.cr_tool.specs.Ended.{ending_of, IsEndOfRun}
use Rattle.cr_tool.proofs.Done.{output_more}
use Rattle.cr_tool.proofs.RunOfSums.{Reaches, reaches, reaches_before, turns_whole}

pub appends_none : (written : Option (List ℕ)) → Appends written [] written
appends_none None = tt
appends_none (Some bytes) = ap (λ (b : List ℕ). Some b) (sym (append-nil bytes))

-- a sink that no call was given
abbrev pub left_alone : Option (List ℕ) → ℕ → Writing
left_alone written faults = record { written = written; written' = written; faults = faults; faults' = faults }

pub untouched : (written : Option (List ℕ)) (faults : ℕ) → IsUntouched (left_alone written faults)
untouched written faults = record { no_bytes = appends_none written; no_fault = refl }

-- nothing was run, since memory ran out before
pub idle_end : (lines : List Line) (written : Option (List ℕ)) (faults : ℕ) (ended : Ended) → ended.closed.ending ≡ ending.NoMemory → ended.history.entries ≡ [] → IsEndOfRun lines (left_alone written faults) ended
idle_end lines written faults ended is none = record {
  end = start (program lines);
  legal = rw none refl;
  no_errors = refl;
  cause = λ budget. rw is (appends_none written, refl);
  few = rw none (omega arith);
}

spent-history : (turns : ℕ) → spent (history_of turns) ≤ turns
spent-history zero = omega arith
spent-history (suc n) = omega arith

ends_not : (text : List ℕ) → text ++ 10 ∷ [] ≢ []
ends_not [] is = cc
ends_not (c ∷ cs) is = cc

-- where the last line was written in part, the last reduction is the one that writes it
breaks_off : (lines : List Line) (front rest : List Sum) (out : Writing) (end : State) → AllByRecursion HasForm lines → sums_of lines ≡ front ++ rest → end.output ≡ output_of front → FailsAtLast out.written front out.written' → BreaksOff out (history_of (turns_of front)) (start (program lines)) end
breaks_off lines front rest out end form parts output fails =
    let whole : sums_of lines ≡ fails.done ++ fails.last ∷ rest = parts ∙ ap (λ (s : List Sum). s ++ rest) fails.parts ∙ append_assoc fails.done (fails.last ∷ []) rest in
    let r = reaches_before lines fails.done fails.last rest form whole in
    record {
      before = r.end;
      legal = ap (λ (s : List Sum). run (start (program lines)) (without_last (history_of (turns_of s)))) fails.parts ∙ r.legal;
      text = output_line fails.last;
      some = ends_not (decimal (total_of fails.last.first fails.last.second));
      writes = output ∙ ap output_of fails.parts ∙ output_more fails.done fails.last ∙ ap (λ (o : List ℕ). o ++ output_line fails.last) (sym r.output);
      came = fails.came;
      written = rw r.output fails.written;
    }

cause : (why : Option Stop) (lines : List Line) (front rest : List Sum) (budget : ℕ) (out : Writing) (r : Reaches lines (history_of (turns_of front)) front rest) → AllByRecursion HasForm lines → sums_of lines ≡ front ++ rest → (why ≡ None → rest ≡ []) → WritesUpTo why out.written front out.written' → (why ≡ Some stop.Failed → FailsWriting out) → ((why ≡ Some stop.Failed → ⊥) → WritesWell out) → CauseAfter (ending_of why) budget out (history_of (turns_of front)) (start (program lines)) r.end
cause None lines front rest budget out r form parts all writes fails well = (r.ended (all refl), rw r.output writes, well (λ is. let never : ⊥ = cc in never))
cause (Some stop.NoMemory) lines front rest budget out r form parts all writes fails well = (rw r.output writes, well (λ is. let never : ⊥ = cc in never))
cause (Some stop.Failed) lines front rest budget out r form parts all writes fails well = (refl, fails refl, breaks_off lines front rest out r.end form parts r.output writes)

pub end_of_run : (lines : List Line) (out : Writing) (evaluated : Evaluated) (ended : Ended) → AllByRecursion HasForm lines → HasWritten (sums_of lines) out.written out.written' evaluated → (evaluated.stop ≡ Some stop.Failed → FailsWriting out) → ((evaluated.stop ≡ Some stop.Failed → ⊥) → WritesWell out) → evaluated.turns ≤ 3 * most_lines → ended.closed.ending ≡ ending_of evaluated.stop → ended.history.entries ≡ history_of evaluated.turns → IsEndOfRun lines out ended
end_of_run lines out evaluated ended form wrote fails well bound is history =
    let r = reaches lines wrote.front wrote.rest form wrote.parts in
    let entries : ended.history.entries ≡ history_of (turns_of wrote.front) = history ∙ ap history_of wrote.turns_are in
    record {
      end = r.end;
      legal = rw entries r.legal;
      no_errors = r.no_errors;
      cause = λ budget. rw (is, entries) (cause evaluated.stop lines wrote.front wrote.rest budget out r form wrote.parts wrote.all wrote.writes fails well);
      few = rw entries (omega (arith, spent-history (turns_of wrote.front), wrote.turns_are));
    }

pub turns_of_evaluated : (sums : List Sum) (old new : Option (List ℕ)) (evaluated : Evaluated) → HasWritten sums old new evaluated → evaluated.turns ≡ 1 → ⊥
turns_of_evaluated sums old new evaluated wrote one = turns_whole wrote.front (sym wrote.turns_are ∙ one)
