-- Rows that stand in no block with which a fiber begins.
use Rattle.std.proofs.Common.{◌≡◌, ℕ, false, true, List, Some, None, ◌⊎◌, inl, inr, sym, ap, ◌∙◌, subst}
use Rattle.std.specs.Prelude.{slice_get}
use Rattle.std.proofs.lemmas.Bool.{both_ways}
use Rattle.std.proofs.lemmas.Option.{same_Some}
use Rattle.cr_base.specs.declared.ids.NodeId.{NodeId}
use Rattle.cr_core.specs.declared.form.Form.{Form}
use Rattle.cr_core.specs.declared.row.Row.{Row}
use Rattle.cr_core.specs.Arena.{node_id}
use Rattle.cr_core.specs.Shape.{role}
use Rattle.cr_core.specs.Tree.{form_at}
use Rattle.cr_shapes.specs.Spawned.{begins_fiber, IsAround, IsSpawnedBlock, IsSpawned}
use Rattle.cr_shapes.specs.Spawned as s
use Rattle.cr_shapes.proofs.Scoped.{is_no_block}

outwards : (rows : List Row) (m n : ℕ) (row : Row) → IsAround rows m n → slice_get rows n ≡ Some row → (row.within.parent ≡ Some (node_id m)) ⊎ ((p : NodeId) × (row.within.parent ≡ Some p) × IsAround rows m p.0)
outwards rows m n row (s.parent j r there up) at = inl (ap (λ (x : Row). x.within.parent) (same_Some row r (sym at ∙ there)) ∙ up)
outwards rows m n row (s.further j r p there up more) at = inr (p, ap (λ (x : Row). x.within.parent) (same_Some row r (sym at ∙ there)) ∙ up, more)

pub at_top : (rows : List Row) (n : ℕ) (row : Row) → slice_get rows n ≡ Some row → row.within.parent ≡ None → ¬ (IsSpawned rows n)
at_top rows n row at none spawned = elim (outwards rows spawned.block n row spawned.around at) [
  | inl o ↦ let clash : None ≡ Some (node_id spawned.block) = sym none ∙ o in absurd cc
  | inr o ↦ let clash : None ≡ Some o.0 = sym none ∙ o.1 in absurd cc
]

pub further_out : (rows : List Row) (n p : ℕ) (row : Row) → slice_get rows n ≡ Some row → row.within.parent ≡ Some (node_id p) → ¬ (IsSpawnedBlock rows p) → ¬ (IsSpawned rows p) → ¬ (IsSpawned rows n)
further_out rows n p row at up block outer spawned = elim (outwards rows spawned.block n row spawned.around at) [
  | inl o ↦
      let same : node_id spawned.block ≡ node_id p = same_Some (node_id spawned.block) (node_id p) (sym o ∙ up) in
      block (subst (λ (j : NodeId). IsSpawnedBlock rows j.0) same spawned.is)
  | inr o ↦
      let same : o.0 ≡ node_id p = same_Some o.0 (node_id p) (sym o.1 ∙ up) in
      outer (record { block = spawned.block; is = spawned.is; around = subst (λ (j : NodeId). IsAround rows spawned.block j.0) same o.2 })
]

pub no_block : (rows : List Row) (n : ℕ) (row : Row) → slice_get rows n ≡ Some row → is_no_block (role row.form) ≡ true → ¬ (IsSpawnedBlock rows n)
no_block rows n row at other is =
    let form = ap (λ (x : Row). x.form) (same_Some row is.row (sym at ∙ is.stands)) ∙ is.form in
    both_ways (is_no_block (role row.form)) (ap (λ (x : Form). is_no_block (role x)) form) other

pub no_fiber : (rows : List Row) (n : ℕ) (row : Row) → slice_get rows n ≡ Some row → begins_fiber (form_at rows row.within.parent) ≡ false → ¬ (IsSpawnedBlock rows n)
no_fiber rows n row at other is =
    both_ways (begins_fiber (form_at rows row.within.parent)) other (ap (λ (x : Row). begins_fiber (form_at rows x.within.parent)) (same_Some row is.row (sym at ∙ is.stands)) ∙ is.begins)
