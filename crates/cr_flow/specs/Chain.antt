-- Chains of rows that no limit bounds: rows that go on as their last part, and first parts in first parts.
use Rattle.std.specs.Prelude.{◌≡◌, ◌<◌, ℕ, Bool, true, false, if◌then◌else◌, Option, Some, None, List, [], ◌∷◌, length, slice_get}
use Rattle.cr_base.specs.declared.ids.NodeId.{NodeId}
use Rattle.cr_core.specs.declared.form.Form.{Form}
use Rattle.cr_core.specs.declared.form.Form.TheVariants as f
use Rattle.cr_core.specs.declared.row.Row.{Row}
use Rattle.cr_flow.specs.declared.chain.Trail.{Trail}
use Rattle.cr_flow.specs.Control.{is_test, heads}
use Rattle.cr_flow.specs.Ways.{IsRow, IsHead, IsLast}

-- a statement and the rest
abbrev pub statement_of : List NodeId → Option Trail
statement_of [] = None
statement_of (a ∷ []) = None
statement_of (a ∷ b ∷ []) = Some (record { first = a; branch = None; rest = b })
statement_of (a ∷ b ∷ c ∷ cs) = None

-- a condition, what is done where it holds, and the rest
abbrev pub condition_of : List NodeId → Option Trail
condition_of [] = None
condition_of (a ∷ []) = None
condition_of (a ∷ b ∷ []) = None
condition_of (a ∷ b ∷ c ∷ []) = Some (record { first = a; branch = Some b; rest = c })
condition_of (a ∷ b ∷ c ∷ d ∷ ds) = None

abbrev pub trail_of : Form → List NodeId → Option Trail
trail_of f.Seq ps = statement_of ps
trail_of f.If ps = condition_of ps
trail_of form ps = None

abbrev pub trail_in : Option Row → Option Trail
trail_in None = None
trail_in (Some r) = trail_of r.form r.parts

-- the first part of a row that takes its parts in order
abbrev pub first_in : Option Row → Option NodeId
first_in None = None
first_in (Some r) = if is_test r.form then None else slice_get (heads r.form r.parts) 0

abbrev pub parent_in : Option Row → Option NodeId
parent_in None = None
parent_in (Some r) = r.within.parent

-- first parts lead from the row n down to the row m
pub data LeadsTo (rows : List Row) (n : NodeId) : NodeId → Type 0 where
  stays : LeadsTo rows n n
  down : (p c : NodeId) → LeadsTo rows n p → first_in (slice_get rows p.0) ≡ Some c → LeadsTo rows n c

-- a row leads to rows behind it
pub record IsBehind (rows : List Row) (n c : NodeId) : Type 0 where
  pub later : n.0 < c.0
  pub there : c.0 < length rows

pub record IsForward (rows : List Row) : Type 0 where
  pub heads : (n c : NodeId) (i : ℕ) (r : Row) → IsRow rows n r → IsHead r i c → IsBehind rows n c
  pub lasts : (n c : NodeId) (r : Row) → IsRow rows n r → IsLast r c → IsBehind rows n c
  pub parts : (n c : NodeId) (i : ℕ) (r : Row) → IsRow rows n r → slice_get r.parts i ≡ Some c → IsBehind rows n c
  pub up : (n c : NodeId) → first_in (slice_get rows n.0) ≡ Some c → parent_in (slice_get rows c.0) ≡ Some n
