use Rattle.std.proofs.Common.{◌≡◌, ◌≤◌, ◌^◌, length, drop}
use Rattle.cr_core.specs.Settle.{settled_from}
use Rattle.cr_core.proofs.settle.settle_scopes.Given as goal

abbrev pub invariant-loop-at : goal.invariant-loop-at
invariant-loop-at l = settled_from l.rows l.at (drop l.at l.rows) l.scopes ≡ settled_from l.rows 0 l.rows l.fn.scopes
