use Rattle.std.proofs.Common.{◌≡◌, drop}
use Rattle.cr_lowering.specs.Marking.{marked_from}
use Rattle.cr_lowering.proofs.capture.mark_captured.Given as goal

abbrev pub invariant-loop-row : goal.invariant-loop-row
invariant-loop-row l = marked_from (drop l.row-index l.rows) l.scopes ≡ marked_from l.rows l.fn.scopes
