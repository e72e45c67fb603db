use Rattle.std.proofs.Common.{◌≡◌, ◌≤◌, drop}
use Rattle.cr_schedule.specs.Reading.{value_after}
use Rattle.cr_schedule.proofs.trace_line.value_of.Given as goal

abbrev pub invariant-loop-digit : goal.invariant-loop-digit
invariant-loop-digit l = (l.value ≤ l.most) × (value_after l.value (drop l.digit-index l.digits) ≡ value_after 0 l.digits)
