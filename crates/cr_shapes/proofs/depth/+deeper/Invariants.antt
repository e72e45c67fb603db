use Rattle.std.proofs.Common.{◌≡◌, ◌+◌, ◌-◌, ◌*◌, drop}
use Rattle.std.specs.List.{list_any}
use Rattle.cr_shapes.specs.Written.{is_deeper, some_atom}
use Rattle.cr_shapes.proofs.depth.+deeper.Given as goal

abbrev pub decreases-has_deeper : goal.decreases-has_deeper
decreases-has_deeper l = 2 * l.depth + 1

abbrev pub decreases-is_deeper : goal.decreases-is_deeper
decreases-is_deeper l = 2 * l.depth

abbrev pub invariant-has_deeper-loop-atom : goal.invariant-has_deeper-loop-atom
invariant-has_deeper-loop-atom l = list_any (is_deeper l.rows l.depth) (drop l.atom-index l.atom-items) ≡ some_atom l.rows (is_deeper l.rows l.depth) l.fn.union

abbrev pub invariant-is_deeper-loop-argument : goal.invariant-is_deeper-loop-argument
invariant-is_deeper-loop-argument l =
    list_any (some_atom l.rows (is_deeper l.rows (l.depth - 1))) (drop l.argument-index l.argument-items) ≡ is_deeper l.rows l.depth l.fn.atom
