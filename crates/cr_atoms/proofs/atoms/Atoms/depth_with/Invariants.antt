use Rattle.std.proofs.Common.{◌≡◌, ◌≤◌, max, map, drop}
use Rattle.cr_atoms.specs.declared.atoms.TheConstants.{DEEPEST}
use Rattle.cr_atoms.specs.Table.{depth_of, greatest}
use Rattle.cr_atoms.proofs.atoms.Atoms.depth_with.Given as goal

abbrev pub invariant-loop-set : goal.invariant-loop-set
invariant-loop-set l =
    (max l.most (greatest (map (λ set. greatest (map (depth_of l.self) set)) (drop l.set-index l.args))) ≡ greatest (map (λ set. greatest (map (depth_of l.self) set)) l.args))
    × (l.most ≤ DEEPEST)
