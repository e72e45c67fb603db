use Rattle.std.proofs.Common.{◌≡◌, ◌++◌, drop}
use Rattle.std.specs.List.{filter_map}
use Rattle.cr_names.specs.Above.{edge_of}
use Rattle.cr_names.proofs.above.edges.Given as goal

abbrev pub invariant-loop-row : goal.invariant-loop-row
invariant-loop-row l =
    l.edges.items ++ filter_map (edge_of l.lookup.core.now) (drop l.row-index l.row-items) ≡ filter_map (edge_of l.lookup.core.now) l.row-items
