use Rattle.std.proofs.Common.{◌≡◌, ◌++◌, drop}
use Rattle.cr_flow.specs.Captured.{flagged}
use Rattle.cr_flow.proofs.capture.flagged.Given as goal

abbrev pub invariant-loop-number : goal.invariant-loop-number
invariant-loop-number l = l.found.items ++ flagged l.number (drop l.number l.slots) ≡ flagged 0 l.slots
