use Rattle.cr_schedule.proofs.Lines.{found_is, none_is}
use Rattle.cr_schedule.proofs.trace_line.first_entry.Goals as goal

pub returns-clause-found : goal.returns-clause-found
returns-clause-found c = found_is c.args.bytes.now c.entry_at.result c.entry_at.ensures

pub returns-clause-none : goal.returns-clause-none
returns-clause-none c = none_is c.args.bytes.now c.entry_at.result c.entry_at.ensures
