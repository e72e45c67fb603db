use Rattle.std.proofs.Common.{◌+◌, ◌-◌, length}
use Rattle.cr_atoms.proofs.type_set.join.Given as goal
use Rattle.cr_atoms.proofs.Merge.{Merges}

abbrev pub decreases-loop-i : goal.decreases-loop-i
decreases-loop-i l = length l.a - l.i + (length l.b - l.j)

abbrev pub invariant-loop-i : goal.invariant-loop-i
invariant-loop-i l = Merges l.a l.b l.i l.j l.atoms.items
