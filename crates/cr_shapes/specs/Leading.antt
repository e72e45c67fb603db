-- The least offence of the first rows.
use Rattle.std.specs.Prelude.{◌≡◌, ℕ, ◌<◌, ◌≤◌, ◌⊎◌, true, List, Option, Some, None, if◌then◌else◌}
use Rattle.cr_core.specs.declared.row.Row.{Row}
use Rattle.cr_core.specs.Arena.{node_id}
use Rattle.cr_core.specs.Order.{stands_before}
use Rattle.cr_core.specs.Tree.{Contents}
use Rattle.cr_shapes.specs.declared.offence.What.{What}
use Rattle.cr_shapes.specs.declared.offence.Offence.{Offence}
use Rattle.cr_shapes.specs.Offences.{IsOffence, code}

-- the offence of least code of a node, or that it has none
abbrev pub IsFirstAt : Contents → ℕ → Option What → Type 0
IsFirstAt t n None = (what : What) → ¬ (IsOffence t n what)
IsFirstAt t n (Some what) = IsOffence t n what × ((other : What) → IsOffence t n other → code what ≤ code other)

-- an offence stands no later than that of this node and code
abbrev pub IsNoLater : Contents → Offence → ℕ → What → Type 0
IsNoLater t o m what = (stands_before t.rows o.node (node_id m) ≡ true) ⊎ ((m ≡ o.node.0) × (code o.what ≤ code what))

-- the offence is the least of the first n rows
pub record IsBest (t : Contents) (n : ℕ) (o : Offence) : Type 0 where
  pub there : IsOffence t o.node.0 o.what
  pub low : o.node.0 < n
  pub least : (m : ℕ) (what : What) → m < n → IsOffence t m what → IsNoLater t o m what

abbrev pub IsLeastBelow : Contents → ℕ → Option Offence → Type 0
IsLeastBelow t n None = (m : ℕ) (what : What) → m < n → ¬ (IsOffence t m what)
IsLeastBelow t n (Some o) = IsBest t n o

-- the one of two that stands first
abbrev pub earlier : List Row → Option Offence → Offence → Offence
earlier rows None next = next
earlier rows (Some best) next = if stands_before rows next.node best.node then next else best
