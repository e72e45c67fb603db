use Rattle.cr_schedule.proofs.Traces.{same_history, same_bad_line, not_both}
use Rattle.cr_schedule.proofs.trace.one_history.Goals as goal

pub returns-clause-history : goal.returns-clause-history
returns-clause-history c = same_history

pub returns-clause-bad_line : goal.returns-clause-bad_line
returns-clause-bad_line c = same_bad_line

pub returns-clause-not_both : goal.returns-clause-not_both
returns-clause-not_both c = not_both
