use Rattle.std.proofs.Common.{◌≡◌, ◌++◌, drop}
use Rattle.cr_pieces.specs.Pieces.{escaped}
use Rattle.cr_pieces.proofs.bytes.put_escaped.Given as goal

abbrev pub invariant-loop-i : goal.invariant-loop-i
invariant-loop-i l = l.out.items ++ escaped (drop l.i l.text) ≡ l.initial.out.items ++ escaped l.text
