use Rattle.std.proofs.Common.{◌≡◌, drop}
use Rattle.cr_names.specs.Growing.{with_edges}
use Rattle.cr_names.proofs.above.lists.Given as goal

abbrev pub invariant-loop-edge : goal.invariant-loop-edge
invariant-loop-edge l = with_edges l.lists.items (drop l.edge-index l.edges) ≡ with_edges l.initial.lists.items l.edges
