use Rattle.std.proofs.Common.{◌≡◌, ◌++◌}
use Rattle.cr_pieces.specs.Pieces.{spaces}
use Rattle.cr_pieces.proofs.put.put_blank.Given as goal

abbrev pub invariant-loop-i : goal.invariant-loop-i
invariant-loop-i l = l.out.items ≡ l.initial.out.items ++ spaces l._i
