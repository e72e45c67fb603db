-- How many calls are in progress in a stack's term: as many as its layers are; a core tree has none.
use Rattle.std.proofs.Common.{◌≡◌, ℕ, zero, suc, ◌+◌, ◌-◌, List, [], ◌∷◌, length, Option, Some, None, refl, ap, ◌∙◌, arith}
use Rattle.std.specs.Prelude.{slice_get, drop}
use Rattle.cr_base.specs.declared.ids.NodeId.{NodeId}
use Rattle.cr_value.specs.declared.value.Value.{Value}
use Rattle.cr_core.specs.declared.form.Form.{Form}
use Rattle.cr_core.specs.declared.row.Row.{Row}
use Rattle.cr_core.specs.Shape as shape
use Rattle.cr_core.specs.Shape.{Role}
use Rattle.cr_meaning.specs.World.{World}
use Rattle.cr_meaning.specs.Term.{Term, Terms, Node, none, part, literal, node_by, terms_by, tree_by, tree_to, tree}
use Rattle.cr_meaning.specs.Redex.{skipped, frames, frames_among}
use Rattle.cr_stack.specs.declared.around.Around.{Around}
use Rattle.cr_stack.specs.declared.around.Around.TheVariants as a
use Rattle.cr_stack.specs.declared.around.Now.{Now}
use Rattle.cr_stack.specs.declared.around.Now.TheVariants as now
use Rattle.cr_stack.specs.Layers.{Layers, join, all_values, given, behind, place, ready, ready_by, partly, partly_by, clauses_with, choice_by, in_first, choosing, choosing_by, filled, plug, now_of, term, frame_of, frame_count}
use Rattle.cr_stack.specs.Neat.{Lacks, IsChoosing, IsNeatAround, AreNeat, IsNeat}
use Rattle.cr_stack.proofs.Nodes.{drop_next}

in_join : (ts us : Terms) → frames_among (join ts us) ≡ frames_among ts + frames_among us
in_join none us = omega arith
in_join (part t ts) us = omega (arith, in_join ts us)

in_values : (vs : List Value) → frames_among (all_values vs) ≡ 0
in_values [] = refl
in_values (v ∷ vs) = omega (arith, in_values vs)

in_terms : (g : NodeId → Term) (ns : List NodeId) → ((n : NodeId) → frames (g n) ≡ 0) → frames_among (terms_by g ns) ≡ 0
in_terms g [] h = refl
in_terms g (n ∷ ns) h = omega (arith, h n, in_terms g ns h)

module _ (P : World) where
  in_node : (n : NodeId) (form : Form) (ts : Terms) (o : Option Value) → frames_among ts ≡ 0 → frames (node_by o n form ts) ≡ 0
  in_node n form ts None h = h
  in_node n form ts (Some v) h = refl

  in_tree_by : (g : NodeId → Term) (n : NodeId) (o : Option Row) → ((n : NodeId) → frames (g n) ≡ 0) → frames (tree_by P g n o) ≡ 0
  in_tree_by g n None h = refl
  in_tree_by g n (Some r) h = in_node n r.form (terms_by g r.parts) (literal P r.form) (in_terms g r.parts h)

  in_tree_to : (d : ℕ) (n : NodeId) → frames (tree_to P d n) ≡ 0
  in_tree_to zero n = refl
  in_tree_to (suc d) n = in_tree_by (tree_to P d) n (slice_get P.rows n.0) (in_tree_to d)

  in_tree : (n : NodeId) → frames (tree P n) ≡ 0
  unfolding tree
  in_tree n = in_tree_to (length P.rows - n.0) n

  in_given : (k : ℕ) (ns : List NodeId) (vs : List Value) → frames_among (given P k ns vs) ≡ 0
  in_given zero ns vs = in_values vs
  in_given (suc k) [] vs = in_values vs
  in_given (suc k) (n ∷ ns) vs = omega (arith, in_tree n, in_given k ns vs)

  in_behind : (k : ℕ) (ns : List NodeId) → frames_among (behind P k ns) ≡ 0
  in_behind k ns = in_terms (tree P) (drop k ns) in_tree

  in_ready_by : (n : NodeId) (vs : List Value) (o : Option Row) → frames (ready_by P n vs o) ≡ 0
  in_ready_by n vs None = refl
  in_ready_by n vs (Some r) =
      omega (arith, in_join (given P (skipped r.form) r.parts vs) (behind P (place r vs) r.parts), in_given (skipped r.form) r.parts vs, in_behind (place r vs) r.parts)

  in_ready : (n : NodeId) (vs : List Value) → frames (ready P n vs) ≡ 0
  in_ready n vs = in_ready_by n vs (slice_get P.rows n.0)

  in_clauses : (ns : List NodeId) (vss : List (List Value)) → frames_among (clauses_with P ns vss) ≡ 0
  in_clauses ns [] = refl
  in_clauses [] (vs ∷ vss) = refl
  in_clauses (n ∷ ns) (vs ∷ vss) = omega (arith, in_ready n vs, in_clauses ns vss)

  in_choice_by : (n : NodeId) (vss : List (List Value)) (o : Option Row) → frames (choice_by P n vss o) ≡ 0
  in_choice_by n vss None = refl
  in_choice_by n vss (Some r) =
      omega (arith, in_join (clauses_with P r.parts vss) (behind P (length vss) r.parts), in_clauses r.parts vss, in_behind (length vss) r.parts)

  in_partly : (n : NodeId) (vs : List Value) (k : Role) (t : Term) → Lacks P.rows n vs k → frames (partly P n vs t) ≡ frames t
  in_partly n vs k t h =
      let r = h.at.row in
      let rest = behind P (place r vs + 1) r.parts in
      let j = in_join (given P (skipped r.form) r.parts vs) (part t rest) in
      let g = in_given (skipped r.form) r.parts vs in
      let b = in_behind (place r vs + 1) r.parts in
      let all : frames (partly_by P n vs t (Some r)) ≡ frames t = omega (arith, j, g, b) in
      ap (λ o. frames (partly_by P n vs t o)) h.at.stands ∙ all

  in_choosing : (n : NodeId) (vss : List (List Value)) (vs : List Value) (t : Term) → IsChoosing P.rows n vss vs → frames (choosing P n vss vs t) ≡ frames t
  in_choosing n vss vs t h =
      let r = h.chooses.at.row in
      let c = in_partly h.clause vs shape.Clause t h.lacks in
      let rest = behind P (length vss + 1) r.parts in
      let j = in_join (clauses_with P r.parts vss) (part (partly P h.clause vs t) rest) in
      let g = in_clauses r.parts vss in
      let b = in_behind (length vss + 1) r.parts in
      let all : frames (Node n r.form (join (clauses_with P r.parts vss) (part (partly P h.clause vs t) rest))) ≡ frames t = omega (arith, j, g, b, c) in
      ap (λ o. frames (choosing_by P n vss vs t o)) h.chooses.at.stands
      ∙ ap (λ ds. frames (Node n r.form (join (clauses_with P r.parts vss) (in_first P ds vs t)))) (drop_next r.parts (length vss) h.clause h.next)
      ∙ all

  in_filled : (k : Around) (t : Term) → IsNeatAround P.rows k → frames (filled P k t) ≡ frame_of k + frames t
  in_filled (a.Part n vs) t h = omega (arith, in_partly n vs shape.Term t h)
  in_filled (a.Choice n vss vs) t h = omega (arith, in_choosing n vss vs t h)
  in_filled (a.Turn n) t h = omega arith
  in_filled (a.Frame gives) t h = omega arith
  in_filled a.Body t h = omega arith

  in_plug : (ks : List Around) (t : Term) → AreNeat P.rows ks → frames (plug P ks t) ≡ frame_count ks + frames t
  in_plug [] t h = omega arith
  in_plug (k ∷ ks) t h = omega (arith, in_filled k (plug P ks t) h.0, in_plug ks t h.1)

  in_now : (n : Now) → frames (now_of P n) ≡ 0
  in_now (now.Node n) = in_tree n
  in_now (now.Value v) = refl
  in_now (now.Ready n vs) = in_ready n vs
  in_now (now.Choice n vss) = in_choice_by n vss (slice_get P.rows n.0)
  in_now (now.Sent channel item) = refl

  pub frames_are : (s : Layers) → IsNeat P.rows s → frame_count s.around ≡ frames (term P s)
  frames_are s h = omega (arith, in_plug s.around (now_of P s.focus) h.around, in_now s.focus)
