use Rattle.std.proofs.Common.{◌≡◌, ◌≤◌, max, map, drop}
use Rattle.cr_atoms.specs.declared.atoms.TheConstants.{DEEPEST}
use Rattle.cr_atoms.specs.Table.{depth_of, greatest}
use Rattle.cr_atoms.proofs.atoms.Atoms.greatest_depth.Given as goal

abbrev pub invariant-loop-atom : goal.invariant-loop-atom
invariant-loop-atom l =
    (max l.most (greatest (map (depth_of l.self) (drop l.atom-index l.set))) ≡ greatest (map (depth_of l.self) l.set)) × (l.most ≤ DEEPEST)
