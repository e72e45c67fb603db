-- What touches neither of two variables leads to the same without an assignment to the one and to the other.
use Rattle.std.proofs.Common.{◌≡◌, ℕ, zero, suc, ◌-◌, Bool, true, false, List, [], ◌∷◌, length, Option, Some, None, refl, sym, ap, ◌∙◌}
use Rattle.std.specs.Prelude.{slice_get, map, if◌then◌else◌}
use Rattle.cr_base.specs.declared.ids.NodeId.{NodeId}
use Rattle.cr_core.specs.declared.form.Form.{Form}
use Rattle.cr_core.specs.declared.row.Row.{Row}
use Rattle.cr_flow.specs.declared.variable.Variable.{Variable}
use Rattle.cr_flow.specs.declared.outs.Outs.{Outs}
use Rattle.cr_flow.specs.Control.{is_test, is_clause, is_choice, has_arm, assigns, heads, last}
use Rattle.cr_flow.specs.Ways.{IsRow, IsHead, IsLast}
use Rattle.cr_flow.specs.Outs.{none, join, here, act, beside, acted, chain, tested, caught, at_node, own_outs, clause_outs, clauses_outs, arms_outs, inner, outs_in, outs_to, reach}
use Rattle.cr_flow.proofs.Reaching.{map_same, clauses_same}

-- Rows that touch a variable, with all rows of which they are parts: the parts of the others are none of them. Elsewhere the two have
-- the same ranks, and no assignment to one of them alone.
pub record AreAlike (rows : List Row) (touched : NodeId → Bool) (t u : NodeId → Option ℕ) (x y : Variable) : Type 0 where
  pub heads : (n c : NodeId) (i : ℕ) (r : Row) → IsRow rows n r → IsHead r i c → touched n ≡ false → touched c ≡ false
  pub lasts : (n c : NodeId) (r : Row) → IsRow rows n r → IsLast r c → touched n ≡ false → touched c ≡ false
  pub ranks : (n : NodeId) → touched n ≡ false → t n ≡ u n
  pub assigned : (n : NodeId) (r : Row) → IsRow rows n r → touched n ≡ false → assigns r.form x ≡ assigns r.form y

acted_alike : (k : Option ℕ) (form : Form) (o : Outs) (x y : Variable) → assigns form x ≡ assigns form y → acted k x form o ≡ acted k y form o
acted_alike k form o x y e = ap (λ (b : Bool). if b then here k else join (here k) (join (act form) (beside form o))) e

module _ (rows : List Row) (touched : NodeId → Bool) (t u : NodeId → Option ℕ) (x y : Variable) (h : AreAlike rows touched t u x y) where
  abbrev AreSame : (NodeId → Outs) → (NodeId → Outs) → Type 0
  AreSame g k = (c : NodeId) → touched c ≡ false → g c ≡ k c

  last_alike : (g k : NodeId → Outs) (n : NodeId) (r : Row) → IsRow rows n r → touched n ≡ false → AreSame g k → at_node g (last r.parts) ≡ at_node k (last r.parts)
  last_alike g k n r is off same = by (last r.parts) refl
    where
      by : (o : Option NodeId) → last r.parts ≡ o → at_node g o ≡ at_node k o
      by None w = refl
      by (Some c) w = same c (h.lasts n c r is w off)

  own_alike : (g k : NodeId → Outs) (n : NodeId) (r : Row) → IsRow rows n r → touched n ≡ false → AreSame g k → own_outs g r ≡ own_outs k r
  own_alike g k n r is off same = ap (λ (o : Outs). if has_arm r.form then o else none) (last_alike g k n r is off same)

  clause_alike : (g k : NodeId → Outs) (c : NodeId) → touched c ≡ false → AreSame g k → (o : Option Row) → slice_get rows c.0 ≡ o → clause_outs g o ≡ clause_outs k o
  clause_alike g k c off same None is = refl
  clause_alike g k c off same (Some s) is = ap (λ (o : Outs). if is_clause s.form then o else none) (last_alike g k c s is off same)

  arms_alike : (g k : NodeId → Outs) (n : NodeId) (r : Row) → IsRow rows n r → touched n ≡ false → AreSame g k → arms_outs g rows r ≡ arms_outs k rows r
  arms_alike g k n r is off same =
      let a = own_alike g k n r is off same in
      let b = clauses_same g k rows (own_outs g r) (heads r.form r.parts) (λ i c at. clause_alike g k c (h.heads n c i r is at off) same (slice_get rows c.0) refl) in
      ap (λ (o : Outs). if is_choice r.form then o else own_outs g r) b
      ∙ ap (λ (o : Outs). if is_choice r.form then clauses_outs k rows o (heads r.form r.parts) else o) a

  in_alike : (g k : NodeId → Outs) (n : NodeId) (o : Option Row) → slice_get rows n.0 ≡ o → touched n ≡ false → AreSame g k → outs_in g rows t x n o ≡ outs_in k rows u y n o
  in_alike g k n None is off same = refl
  in_alike g k n (Some r) is off same =
      let hs = heads r.form r.parts in
      let a = map_same g k hs (λ i c at. same c (h.heads n c i r is at off)) in
      let b = arms_alike g k n r is off same in
      ap (λ (os : List Outs). caught r.form (if is_test r.form then tested (t n) r.form os else chain none (acted (t n) x r.form (arms_outs g rows r)) os)) a
      ∙ ap (λ (o : Outs). caught r.form (if is_test r.form then tested (t n) r.form (map k hs) else chain none (acted (t n) x r.form o) (map k hs))) b
      ∙ ap (λ (v : Option ℕ). caught r.form (if is_test r.form then tested v r.form (map k hs) else chain none (acted v x r.form (arms_outs k rows r)) (map k hs))) (h.ranks n off)
      ∙ ap (λ (o : Outs). caught r.form (if is_test r.form then tested (u n) r.form (map k hs) else chain none o (map k hs))) (acted_alike (u n) r.form (arms_outs k rows r) x y (h.assigned n r is off))

  to_alike : (k : ℕ) (n : NodeId) → touched n ≡ false → outs_to k rows t x n ≡ outs_to k rows u y n
  to_alike zero n off = refl
  to_alike (suc k) n off = in_alike (outs_to k rows t x) (outs_to k rows u y) n (slice_get rows n.0) refl off (λ c e. to_alike k c e)

  pub alike : (n : NodeId) → touched n ≡ false → reach rows t x n ≡ reach rows u y n
  unfolding reach
  alike n off = to_alike (length rows - n.0) n off
