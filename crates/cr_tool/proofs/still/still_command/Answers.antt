use Rattle.cr_tool.specs.Outside.{Outside, reading, writing}
use Rattle.cr_tool.proofs.Tellings.{still_reported}
use Rattle.cr_tool.proofs.still.still_command.Goals as goal

pub returns-clause-report : goal.returns-clause-report
returns-clause-report g c = λ new_trace.
    let outside : Outside = record {
      source = reading g.S.Source c.args.source.now c.tell-closed.new.source;
      old_trace = reading g.T.Source c.args.old_trace.now c.args.old_trace.now;
      out = writing g.K.Sink c.args.out.now c.tell-closed.new.out;
      err = writing g.E.Sink c.args.err.now c.make_report.new.err;
      new_trace = new_trace;
    } in
    still_reported c.refusals_are_exact.ensures c.args.words.now.command outside (record { closed = c.tell-closed.result; history = c.new-history.result }) c.make_report.result c.tell-closed.ensures c.new-history.ensures c.make_report.ensures
