use Rattle.std.proofs.Common.{◌≡◌, ◌-◌, Some}
use Rattle.cr_core.specs.Tree.{leaves_spawn}
use Rattle.cr_lowering.proofs.capture.leaves_spawn.Given as goal

abbrev pub invariant-loop-i : goal.invariant-loop-i
invariant-loop-i l = leaves_spawn l.scopes (l.up - l.i) l.at ≡ leaves_spawn l.scopes l.up (Some l.fn.from)
