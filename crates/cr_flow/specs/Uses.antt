-- What is asked for: nodes by their ranks.
use Rattle.std.specs.Prelude.{◌≡◌, ◌<◌, ℕ, Bool, true, false, not, ◌&&◌, ◌==◌, Option, Some, None, List, slice_get, if◌then◌else◌}
use Rattle.cr_base.specs.declared.ids.NodeId.{NodeId}
use Rattle.cr_core.specs.declared.form.Form.{Form}
use Rattle.cr_core.specs.declared.form.Form.TheVariants as f
use Rattle.cr_core.specs.declared.form.ScopeId.{ScopeId}
use Rattle.cr_core.specs.declared.row.Row.{Row}
use Rattle.cr_core.specs.Tree.{Contents}
use Rattle.cr_flow.specs.declared.variable.Variable.{Variable}
use Rattle.cr_flow.specs.declared.variable.Variable.TheVariants.{Local, Field}
use Rattle.cr_flow.specs.Ways.{Acts}
use Rattle.cr_flow.specs.Assigned.{IsAssigned}

-- a read of another variable is no use of this one
abbrev pub reads_other : Variable → Form → Bool
reads_other (Local of slot) (f.Local local) = not ((local.scope.0 == of.0) && (local.slot == slot))
reads_other (Field name) (f.Local local) = true
reads_other (Field name) (f.Field read) = not (read.0 == name.0)
reads_other (Local of slot) (f.Field read) = true
reads_other x form = false

abbrev pub rank_of : Variable → Option (Option ℕ) → Option Row → Option ℕ
rank_of x None row = None
rank_of x (Some None) row = None
rank_of x (Some (Some k)) None = None
rank_of x (Some (Some k)) (Some row) = if reads_other x row.form then None else Some k

-- the rank of a node that uses the variable
abbrev pub rank : List Row → List (Option ℕ) → Variable → NodeId → Option ℕ
rank rows ranks x n = rank_of x (slice_get ranks n.0) (slice_get rows n.0)

abbrev pub is_asked : Option NodeId → NodeId → Bool
is_asked None n = false
is_asked (Some only) n = n.0 == only.0

-- with one node of rank 0
abbrev pub asked : List Row → Option NodeId → List (Option ℕ) → Variable → NodeId → Option ℕ
asked rows only ranks x n = if is_asked only n then Some 0 else rank rows ranks x n

-- Some way comes to a use of this rank without an assignment, and to none of a lower rank.
pub record IsFirst (t : Contents) (scope : ScopeId) (x : Variable) (ranks : List (Option ℕ)) (k : ℕ) : Type 0 where
  pub node : NodeId
  pub ranked : rank t.rows ranks x node ≡ Some k
  pub bare : ¬ (IsAssigned t scope x (Acts node))
  pub lower : (n : NodeId) (j : ℕ) → rank t.rows ranks x n ≡ Some j → j < k → IsAssigned t scope x (Acts n)

abbrev pub IsFirstUse : Contents → ScopeId → Variable → List (Option ℕ) → Option ℕ → Type 0
IsFirstUse t scope x ranks (Some k) = IsFirst t scope x ranks k
IsFirstUse t scope x ranks None = (n : NodeId) (j : ℕ) → rank t.rows ranks x n ≡ Some j → IsAssigned t scope x (Acts n)
