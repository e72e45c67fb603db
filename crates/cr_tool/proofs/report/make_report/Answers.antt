use Rattle.std.proofs.Common.{refl}
use Rattle.cr_tool.specs.Outside.{writing}
use Rattle.cr_tool.proofs.Reports.{text_is, writes_by}
use Rattle.cr_tool.proofs.report.make_report.Goals as goal

pub returns : goal.returns
returns g c =
    let err = writing g.E.Sink c.args.err.now c.put_all.new.sink in
    record {
      ending_is = refl;
      history_is = refl;
      status = c.status_of.ensures;
      line = λ bytes is. rw (← text_is bytes c.args.ended.closed.ending _ is, ← c.text.ensures, ← c.as_bytes.ensures.value) (writes_by err _ c.put_all.result c.put_all.ensures.ok c.put_all.ensures.err c.put_all.ensures.cause);
    }
