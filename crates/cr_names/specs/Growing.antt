-- How lists of what stands above grow, edge by edge.
use Rattle.std.specs.Prelude.{ℕ, List, [], ◌∷◌, ◌++◌, Option, Some, None, slice_get, slice_set}
use Rattle.cr_base.specs.declared.ids.ClassId.{ClassId}
use Rattle.cr_names.specs.declared.above.Edge.{Edge}
use Rattle.cr_names.specs.Above.{class_id}

abbrev pub with_above : List (List ClassId) → ℕ → ℕ → Option (List ClassId) → List (List ClassId)
with_above lists n above None = lists
with_above lists n above (Some list) = slice_set lists n (list ++ class_id above ∷ [])

abbrev pub with_edge : List (List ClassId) → Edge → List (List ClassId)
with_edge lists edge = with_above lists edge.below.0 edge.above.0 (slice_get lists edge.below.0)

abbrev pub with_edges : List (List ClassId) → List Edge → List (List ClassId)
with_edges lists [] = lists
with_edges lists (edge ∷ edges) = with_edges (with_edge lists edge) edges
