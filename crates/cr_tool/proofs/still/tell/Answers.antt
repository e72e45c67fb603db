use Rattle.cr_tool.specs.Outside.{reading}
use Rattle.cr_tool.specs.Refusals.{nothing}
use Rattle.cr_tool.proofs.Tellings.{told_closed}
use Rattle.cr_tool.proofs.still.tell.Goals as goal

pub returns-in-Err : goal.returns-in-Err
returns-in-Err g c =
    let k = g.K.Sink in
    told_closed c.args.command (reading g.S.Source c.args.source.now c.read_source.new.source) (k.written c.args.out.now) (k.faults c.args.out.now) c.in-Err.closed (c.in-Err.ensures nothing)
