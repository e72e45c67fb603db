use Rattle.std.proofs.Common.{◌≡◌, take}
use Rattle.cr_schedule.specs.Entry.{spent}
use Rattle.cr_schedule.proofs.history.History.spent.Given as goal

abbrev pub invariant-loop-at : goal.invariant-loop-at
invariant-loop-at l = l.total ≡ spent (take l.at l.self.entries)
