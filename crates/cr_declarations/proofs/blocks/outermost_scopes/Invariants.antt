use Rattle.std.proofs.Common.{◌≡◌, length}
use Rattle.cr_declarations.specs.Marking.{AreOutermost}
use Rattle.cr_declarations.proofs.blocks.outermost_scopes.Given as goal

abbrev pub invariant-loop-number : goal.invariant-loop-number
invariant-loop-number l = (length l.list.items ≡ l.number) × AreOutermost l.core.scopes l.list.items
