use Rattle.std.proofs.Common.{◌≡◌, ◌++◌, length, All}
use Rattle.cr_schedule.specs.Entry.{HasLine}
use Rattle.cr_schedule.specs.Trace.{trace}
use Rattle.cr_schedule.proofs.trace.read_trace.Given as goal

abbrev pub invariant-loop-rest : goal.invariant-loop-rest
invariant-loop-rest l = (l.bytes ≡ trace l.history.entries ++ l.rest) × All HasLine l.history.entries

abbrev pub decreases-loop-rest : goal.decreases-loop-rest
decreases-loop-rest l = length l.rest
