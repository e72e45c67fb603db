use Rattle.cr_tool.specs.Outside.{reading, writing}
use Rattle.cr_tool.proofs.Reports.{ended_run}
use Rattle.cr_tool.proofs.running.read_and_run.Goals as goal

pub returns-in-Ok : goal.returns-in-Ok
returns-in-Ok g c =
    ended_run (reading g.S.Source c.args.source.now c.open.new.source) (writing g.K.Sink c.args.out.now c.run_lines.new.out) c.in-Ok.lines.items c.run_lines.result c.in-Ok.ensures (rw c.deref.ensures.value at c.run_lines.ensures)
