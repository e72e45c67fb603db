use Rattle.std.proofs.Common.{ap, ◌∙◌, refl}
use Rattle.cr_schedule.specs.History.{Record}
use Rattle.cr_tool.specs.Outside.{reading, writing}
use Rattle.cr_tool.proofs.Answering.{answered_unread}
use Rattle.cr_tool.proofs.command.tool.Goals as goal

pub returns-in-Err-clause-answer : goal.returns-in-Err-clause-answer
returns-in-Err-clause-answer g c =
    let k = g.K.Sink in
    answered_unread c.refusals_are_exact.ensures c.args.words.now c.in-Err.fault (reading g.S.Source c.args.source.now c.args.source.now) (reading g.T.Source c.args.old_trace.now c.args.old_trace.now) (k.written c.args.out) (k.faults c.args.out) (writing g.E.Sink c.args.err c.make_report-report.new.err) (writing g.R.Sink c.args.new_trace.now c.args.new_trace.now) c.new-ended.result c.make_report-report.result (λ is. (c.read_words.ensures.usage).0 (cc (c.in-Err.is, is))) (c.new-ended.ensures.ending ∙ c.ending_of.ensures) (ap (λ (h : Record). h.entries) c.new-ended.ensures.history ∙ c.new.ensures) refl c.make_report-report.ensures
