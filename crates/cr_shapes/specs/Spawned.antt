-- Blocks with which fibers begin, and what stands in them.
use Rattle.std.specs.Prelude.{◌≡◌, ℕ, Bool, true, false, List, Option, Some, slice_get}
use Rattle.cr_base.specs.declared.ids.NodeId.{NodeId}
use Rattle.cr_core.specs.declared.form.Form.{Form}
use Rattle.cr_core.specs.declared.form.Form.TheVariants as f
use Rattle.cr_core.specs.declared.form.ScopeId.{ScopeId}
use Rattle.cr_core.specs.declared.row.Row.{Row}
use Rattle.cr_core.specs.Arena.{node_id}
use Rattle.cr_core.specs.Tree.{form_at}

-- whether a fiber begins with the block of this form: of `spawn` and `ctx.spawn`, and of `Isolated.new`
abbrev pub begins_fiber : Option Form → Bool
begins_fiber (Some (f.Spawn context)) = true
begins_fiber (Some (f.New question block)) = true
begins_fiber other = false

-- row m is around row n: row n is a part of it, or of a row that it is around
pub data IsAround (rows : List Row) (m : ℕ) : ℕ → Type 0 where
  parent : (n : ℕ) (row : Row) → slice_get rows n ≡ Some row → row.within.parent ≡ Some (node_id m) → IsAround rows m n
  further : (n : ℕ) (row : Row) (p : NodeId) → slice_get rows n ≡ Some row → row.within.parent ≡ Some p → IsAround rows m p.0 → IsAround rows m n

-- row m is such a block
pub record IsSpawnedBlock (rows : List Row) (m : ℕ) : Type 0 where
  pub row : Row
  pub scope : ScopeId
  pub stands : slice_get rows m ≡ Some row
  pub form : row.form ≡ f.Block scope
  pub begins : begins_fiber (form_at rows row.within.parent) ≡ true

-- row n stands in such a block, at any depth
pub record IsSpawned (rows : List Row) (n : ℕ) : Type 0 where
  pub block : ℕ
  pub is : IsSpawnedBlock rows block
  pub around : IsAround rows block n
