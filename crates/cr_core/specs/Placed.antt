-- Rows by what they are sorted by.
use Rattle.std.specs.Prelude.{ℕ, suc, Bool, not, List, Option, [], ◌∷◌, if◌then◌else◌}
use Rattle.cr_base.specs.declared.ids.NodeId.{NodeId}
use Rattle.cr_core.specs.declared.form.ScopeId.{ScopeId}
use Rattle.cr_core.specs.declared.row.Row.{Row}
use Rattle.cr_core.specs.declared.order.Placed.{Placed}
use Rattle.cr_core.specs.Arena.{node_id}
use Rattle.cr_core.specs.Order.{is_in}

abbrev pub row_of : Placed → NodeId
row_of placed = node_id placed.row

abbrev pub placed_of : ℕ → Row → Placed
placed_of n row = record { source = not row.place.prelude; at = row.place.at; row = n }

abbrev pub placed_in : Option ScopeId → ℕ → List Row → List Placed
placed_in scope n [] = []
placed_in scope n (row ∷ rows) =
    if is_in scope row then placed_of n row ∷ placed_in scope (suc n) rows else placed_in scope (suc n) rows
