-- What is computed of a node from its parts, to a depth of as many rows as follow it, is that of its parts at their depths.
use Rattle.std.proofs.Common.{◌≡◌, ℕ, zero, suc, ◌+◌, ◌-◌, ◌<◌, ◌≤◌, List, [], ◌∷◌, length, Option, Some, None, refl, sym, ap, ◌∙◌, arith}
use Rattle.std.specs.Prelude.{slice_get}
use Rattle.std.proofs.lemmas.Option.{slice_get_within}
use Rattle.cr_base.specs.declared.ids.NodeId.{NodeId}
use Rattle.cr_core.specs.declared.row.Row.{Row}
use Rattle.cr_core.specs.declared.row.Within.{Within}
use Rattle.cr_core.specs.Shape.{Role}
use Rattle.cr_core.specs.Arena.{inside}
use Rattle.cr_core.specs.Standing.{AreParts, IsArena}
use Rattle.cr_meaning.specs.World.{World}
use Rattle.cr_meaning.specs.Term.{Term, part, literal, node_by, terms_by, tree_by, tree_to, tree}
use Rattle.cr_stack.specs.Way.{weights_by, weight_by, weight_to, weight}

-- behind row n, and there
abbrev pub InRange : ℕ → ℕ → List NodeId → Type 0
InRange n many [] = Unit {0}
InRange n many (p ∷ ps) = (n < p.0) × (p.0 < many) × InRange n many ps

in_range : (rs : List Row) (w : Within) (n low : ℕ) (ps : List NodeId) (ks : List Role) → n < low → AreParts rs w low ps ks → InRange n (length rs) ps
in_range rs w n low [] [] lt h = tt
in_range rs w n low [] (k ∷ ks) lt h = absurd h
in_range rs w n low (p ∷ ps) [] lt h = absurd h
in_range rs w n low (p ∷ ps) (k ∷ ks) lt h =
    let a = h.0 in
    let b = slice_get_within rs p.0 h.1.row h.1.stands in
    (omega (arith, a), b, in_range rs w n (suc p.0) ps ks (omega (arith, a)) h.2)

parts_in_range : (rs : List Row) (n : ℕ) (r : Row) → IsArena rs → slice_get rs n ≡ Some r → InRange n (length rs) r.parts
parts_in_range rs n r arena e =
    let is = arena.each n r e in in_range rs (inside r.form n r.within) n (suc n) r.parts is.there_for (omega arith) is.parts

-- ---- trees

terms_same : (f g : NodeId → Term) (n many : ℕ) (ps : List NodeId) → ((p : NodeId) → n < p.0 → p.0 < many → f p ≡ g p) → InRange n many ps → terms_by f ps ≡ terms_by g ps
terms_same f g n many [] e h = refl
terms_same f g n many (p ∷ ps) e h =
    ap (λ t. part t (terms_by f ps)) (e p h.0 h.1) ∙ ap (part (g p)) (terms_same f g n many ps e h.2)

module _ (P : World) (arena : IsArena P.rows) where
  by_same : (f g : NodeId → Term) (n : NodeId) (o : Option Row) → slice_get P.rows n.0 ≡ o → ((p : NodeId) → n.0 < p.0 → p.0 < length P.rows → f p ≡ g p) → tree_by P f n o ≡ tree_by P g n o
  by_same f g n None is e = refl
  by_same f g n (Some r) is e =
      ap (node_by (literal P r.form) n r.form) (terms_same f g n.0 (length P.rows) r.parts e (parts_in_range P.rows n.0 r arena is))

  deep : (j k : ℕ) (n : NodeId) → n.0 < length P.rows → length P.rows ≤ j + n.0 → length P.rows ≤ k + n.0 → tree_to P j n ≡ tree_to P k n
  deep zero k n lt a b = absurd (omega arith)
  deep (suc j) zero n lt a b = absurd (omega arith)
  deep (suc j) (suc k) n lt a b =
      by_same (tree_to P j) (tree_to P k) n (slice_get P.rows n.0) refl (λ p np pc. deep j k p pc (omega arith) (omega arith))

  below : (k : ℕ) (n : NodeId) → n.0 < length P.rows → suc k ≡ length P.rows - n.0 → tree P n ≡ tree_by P (tree P) n (slice_get P.rows n.0)
  unfolding tree
  below k n lt e =
      ap (λ d. tree_to P d n) (sym e)
      ∙ by_same (tree_to P k) (λ p. tree_to P (length P.rows - p.0) p) n (slice_get P.rows n.0) refl (λ p np pc. deep k (length P.rows - p.0) p pc (omega arith) (omega arith))

  -- a node's tree has the trees of its parts
  pub tree_is : (n : NodeId) (r : Row) → slice_get P.rows n.0 ≡ Some r → tree P n ≡ node_by (literal P r.form) n r.form (terms_by (tree P) r.parts)
  tree_is n r e =
      let lt = slice_get_within P.rows n.0 r e in
      let s : suc (length P.rows - n.0 - 1) ≡ length P.rows - n.0 = omega arith in
      below (length P.rows - n.0 - 1) n lt s ∙ ap (tree_by P (tree P) n) e

-- ---- weights

weights_same : (f g : NodeId → ℕ) (n many : ℕ) (ps : List NodeId) → ((p : NodeId) → n < p.0 → p.0 < many → f p ≡ g p) → InRange n many ps → weights_by f ps ≡ weights_by g ps
weights_same f g n many [] e h = refl
weights_same f g n many (p ∷ ps) e h =
    ap (λ t. t + weights_by f ps) (e p h.0 h.1) ∙ ap (λ t. g p + t) (weights_same f g n many ps e h.2)

module _ (rows : List Row) (arena : IsArena rows) where
  weight_same : (f g : NodeId → ℕ) (n : NodeId) (o : Option Row) → slice_get rows n.0 ≡ o → ((p : NodeId) → n.0 < p.0 → p.0 < length rows → f p ≡ g p) → weight_by f o ≡ weight_by g o
  weight_same f g n None is e = refl
  weight_same f g n (Some r) is e = ap (λ w. 2 + w) (weights_same f g n.0 (length rows) r.parts e (parts_in_range rows n.0 r arena is))

  deep_weight : (j k : ℕ) (n : NodeId) → n.0 < length rows → length rows ≤ j + n.0 → length rows ≤ k + n.0 → weight_to rows j n ≡ weight_to rows k n
  deep_weight zero k n lt a b = absurd (omega arith)
  deep_weight (suc j) zero n lt a b = absurd (omega arith)
  deep_weight (suc j) (suc k) n lt a b =
      weight_same (weight_to rows j) (weight_to rows k) n (slice_get rows n.0) refl (λ p np pc. deep_weight j k p pc (omega arith) (omega arith))

  weight_below : (k : ℕ) (n : NodeId) → n.0 < length rows → suc k ≡ length rows - n.0 → weight rows n ≡ weight_by (weight rows) (slice_get rows n.0)
  unfolding weight
  weight_below k n lt e =
      ap (λ d. weight_to rows d n) (sym e)
      ∙ weight_same (weight_to rows k) (λ p. weight_to rows (length rows - p.0) p) n (slice_get rows n.0) refl (λ p np pc. deep_weight k (length rows - p.0) p pc (omega arith) (omega arith))

  -- a node weighs two more than its parts
  pub weight_is : (n : NodeId) (r : Row) → slice_get rows n.0 ≡ Some r → weight rows n ≡ 2 + weights_by (weight rows) r.parts
  weight_is n r e =
      let lt = slice_get_within rows n.0 r e in
      let s : suc (length rows - n.0 - 1) ≡ length rows - n.0 = omega arith in
      weight_below (length rows - n.0 - 1) n lt s ∙ ap (weight_by (weight rows)) e
