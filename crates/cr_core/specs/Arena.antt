-- The rows of core trees, in preorder.
use Rattle.std.specs.Prelude.{ℕ, suc, ◌+◌, List, [], ◌∷◌, ◌++◌, Option, Some, None}
use Rattle.cr_base.specs.declared.ids.NodeId.{NodeId}
use Rattle.cr_core.specs.declared.form.Form.{Form}
use Rattle.cr_core.specs.declared.form.Form.TheVariants as f
use Rattle.cr_core.specs.declared.form.ScopeId.{ScopeId}
use Rattle.cr_core.specs.declared.row.Row.{Row}
use Rattle.cr_core.specs.declared.row.Within.{Within}
use Rattle.cr_core.specs.Core.{Core, none, node, size}

abbrev pub node_id : ℕ → NodeId
node_id n = record { 0 = n }

-- what a form opens for its parts
pub data Opening : Type 0 where
  Opens : ScopeId → Opening  -- a scope
  Turns : Opening  -- a loop
  Plain : Opening

abbrev pub opening : Form → Opening
opening (f.Program scope) = Opens scope
opening (f.Def name scope result written) = Opens scope
opening (f.Block scope) = Opens scope
opening f.While = Turns
opening other = Plain

-- what surrounds the parts of row n, which opens this and is itself surrounded so
abbrev pub inside_opening : Opening → ℕ → Within → Within
inside_opening (Opens scope) n w = record { parent = Some (node_id n); scope = scope; turn = None }
inside_opening Turns n w = record { parent = Some (node_id n); scope = w.scope; turn = Some (node_id n) }
inside_opening Plain n w = record { parent = Some (node_id n); scope = w.scope; turn = w.turn }

abbrev pub inside : Form → ℕ → Within → Within
inside form n w = inside_opening (opening form) n w

-- the first rows of the trees, where the first tree begins at row n
abbrev pub starts : ℕ → Core → List NodeId
starts n none = []
starts n (node form at ps rest) = node_id n ∷ starts (suc (n + size ps)) rest

-- the rows of the trees from row n on, in what surrounds them
abbrev pub layout : Within → ℕ → Core → List Row
layout w n none = []
layout w n (node form at ps rest) =
    record { form = form; place = at; within = w; parts = starts (suc n) ps }
    ∷ (layout (inside form n w) (suc n) ps ++ layout w (suc (n + size ps)) rest)

-- what surrounds whole trees: no row, the first scope, no loop
abbrev pub outermost : Within
outermost = record { parent = None; scope = record { 0 = 0 }; turn = None }

abbrev pub rows : Core → List Row
rows c = layout outermost 0 c
