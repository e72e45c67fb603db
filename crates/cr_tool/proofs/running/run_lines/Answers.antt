use Rattle.std.proofs.Common.{List, ◌++◌, ◌∙◌, ap}
use Rattle.cr_schedule.specs.declared.entry.Entry.{Entry}
use Rattle.cr_schedule.specs.History.{Record}
use Rattle.cr_tool.specs.Writing.{history_of}
use Rattle.cr_tool.specs.Outside.{writing}
use Rattle.cr_tool.proofs.EndsOfRuns.{idle_end, end_of_run, turns_of_evaluated}
use Rattle.cr_tool.proofs.running.run_lines.Goals as goal

pub returns-then-is_err : goal.returns-then-is_err
returns-then-is_err g c =
    let k = g.K.Sink in
    idle_end c.args.lines.now (k.written c.args.out.now) (k.faults c.args.out.now) c.new.result c.new.ensures.ending (ap (λ (h : Record). h.entries) c.new.ensures.history ∙ c.reserve.ensures.entries ∙ c.new-history.ensures)

pub record-requires-clause-whole : goal.record-requires-clause-whole
record-requires-clause-whole g c = turns_of_evaluated _ _ _ c.evaluate-evaluated.result c.evaluate-evaluated.ensures.written

pub returns : goal.returns
returns g c =
    end_of_run c.args.lines.now (writing g.K.Sink c.args.out.now c.evaluate-evaluated.new.out) c.evaluate-evaluated.result c.new-2.result c.requires.form c.evaluate-evaluated.ensures.written c.evaluate-evaluated.ensures.fault c.evaluate-evaluated.ensures.steady c.evaluate-evaluated.ensures.bound (c.new-2.ensures.ending ∙ c.ending_of.ensures) (ap (λ (h : Record). h.entries) c.new-2.ensures.history ∙ c.record.ensures ∙ ap (λ (es : List Entry). es ++ history_of c.evaluate-evaluated.result.turns) (c.reserve.ensures.entries ∙ c.new-history.ensures))
