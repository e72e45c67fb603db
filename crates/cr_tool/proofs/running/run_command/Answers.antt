use Rattle.cr_tool.specs.Outside.{Outside, reading, writing}
use Rattle.cr_tool.proofs.Reports.{enough, reported}
use Rattle.cr_tool.proofs.running.run_command.Goals as goal

pub returns-clause-report : goal.returns-clause-report
returns-clause-report g c = λ old_trace.
    let outside : Outside = record {
      source = reading g.S.Source c.args.source.now c.read_and_run-ended.new.source;
      old_trace = old_trace;
      out = writing g.K.Sink c.args.out c.read_and_run-ended.new.out;
      err = writing g.E.Sink c.args.err c.make_report-report.new.err;
      new_trace = writing g.R.Sink c.args.new_trace.now c.args.new_trace.now;
    } in
    reported c.refusals_are_exact.ensures c.args.words.now.budget outside c.read_and_run-ended.result c.make_report-report.result (enough c.requires.words.0 c.args.words.now c.requires.words.1) c.read_and_run-ended.ensures c.make_report-report.ensures
