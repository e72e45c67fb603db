-- The order of the text: the prelude's nodes first, then by place, at one place a node before its parts.
use Rattle.std.specs.Prelude.{ℕ, suc, Bool, true, false, not, ◌==◌, List, [], ◌∷◌, Option, Some, None, slice_get, IsPermutation, IsSortedBy, if◌then◌else◌}
use Rattle.std.specs.declared.cmp.Ordering.{Ordering}
use Rattle.std.specs.Ordering.{ordering_then, bool_cmp, nat_cmp, is_lt}
use Rattle.cr_base.specs.declared.ids.NodeId.{NodeId}
use Rattle.cr_core.specs.declared.form.ScopeId.{ScopeId}
use Rattle.cr_core.specs.declared.row.Place.{Place}
use Rattle.cr_core.specs.declared.row.Row.{Row}
use Rattle.cr_core.specs.Arena.{node_id}

abbrev pub text_order : Place → ℕ → Place → ℕ → Ordering
text_order p m q n = ordering_then (bool_cmp (not p.prelude) (not q.prelude)) (ordering_then (nat_cmp p.at q.at) (nat_cmp m n))

abbrev pub row_before : NodeId → Option Row → NodeId → Option Row → Bool
row_before m (Some q) n (Some r) = is_lt (text_order q.place m.0 r.place n.0)
row_before m q n r = false

-- whether one node stands before another
abbrev pub stands_before : List Row → NodeId → NodeId → Bool
stands_before rows m n = row_before m (slice_get rows m.0) n (slice_get rows n.0)

-- whether a row stands in this scope; where none is given, each does
abbrev pub is_in : Option ScopeId → Row → Bool
is_in None row = true
is_in (Some scope) row = row.within.scope.0 == scope.0

-- the numbers of the rows there, of rows of which the first has this number
abbrev pub nodes_in : Option ScopeId → ℕ → List Row → List NodeId
nodes_in scope n [] = []
nodes_in scope n (row ∷ rows) =
    if is_in scope row then node_id n ∷ nodes_in scope (suc n) rows else nodes_in scope (suc n) rows

-- These are the nodes of the tree that stand in the scope, each once, in the order of the text.
pub record AreInOrder (rows : List Row) (scope : Option ScopeId) (nodes : List NodeId) : Type 0 where
  pub all : IsPermutation (nodes_in scope 0 rows) nodes
  pub sorted : IsSortedBy (stands_before rows) nodes
