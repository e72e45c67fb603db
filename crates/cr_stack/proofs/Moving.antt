-- Each step of the way keeps the term, and leaves less.
use Rattle.std.proofs.Common.{◌≡◌, ℕ, zero, suc, ◌+◌, ◌<◌, ◌≤◌, List, [], ◌∷◌, ◌++◌, length, Option, Some, None, refl, sym, ap, ◌∙◌, subst, arith, length-append}
use Rattle.std.specs.Prelude.{slice_get, drop}
use Rattle.std.proofs.lemmas.Option.{same_Some}
use Rattle.cr_base.specs.declared.ids.NodeId.{NodeId}
use Rattle.cr_value.specs.declared.value.Value.{Value}
use Rattle.cr_core.specs.declared.form.Form.{Form}
use Rattle.cr_core.specs.declared.form.Form.TheVariants as f
use Rattle.cr_core.specs.declared.row.Row.{Row}
use Rattle.cr_core.specs.Shape as shape
use Rattle.cr_core.specs.Shape.{Role, role}
use Rattle.cr_core.specs.Standing.{IsArena}
use Rattle.cr_core.specs.Tree.{Contents, IsCore}
use Rattle.cr_meaning.specs.World.{World}
use Rattle.cr_meaning.specs.Term.{Term, Terms, Val, Node, part, literal, node_by, terms_by, tree}
use Rattle.cr_meaning.specs.Redex.{skipped}
use Rattle.cr_stack.specs.declared.around.Around.{Around}
use Rattle.cr_stack.specs.declared.around.Now.{Now}
use Rattle.cr_stack.specs.Layers.{IsWorldOf, join, all_values, given, behind, place, ready, ready_by, partly, partly_by, clauses_with, choice, choice_by, in_first, choosing, choosing_by, filled, plug, now_of, frame_of, frame_count}
use Rattle.cr_stack.specs.Neat.{IsNeatAround, IsNeatNow, AreNeat}
use Rattle.cr_stack.specs.Way.{weights_by, weight, weight_from, left_at, left_now, left_around, Leads, first_ready, choosing_ready, choosing_ready_by}
use Rattle.cr_stack.proofs.Nodes.{drop_next}
use Rattle.cr_stack.proofs.Plugs.{plug_append, neat_front, neat_append}
use Rattle.cr_stack.proofs.Stacks.{frame_count_append}
use Rattle.cr_stack.proofs.Unrolled.{tree_is}

-- ---- lists of layers

around_append : (rows : List Row) (ks ls : List Around) → left_around rows (ks ++ ls) ≡ left_around rows ks + left_around rows ls
around_append rows [] ls = omega arith
around_append rows (k ∷ ks) ls = omega (arith, around_append rows ks ls)

-- ---- terms

plus_suc : (j k : ℕ) → j + (k + 1) ≡ j + k + 1
plus_suc j k = omega arith

length_more : (vs : List Value) (v : Value) → length (vs ++ v ∷ []) ≡ length vs + 1
length_more vs v = omega (arith, length-append vs (v ∷ []))

pub place_more : (r : Row) (vs : List Value) (v : Value) → place r (vs ++ v ∷ []) ≡ place r vs + 1
place_more r vs v = omega (arith, length_more vs v)

module _ (P : World) where
  values_more : (vs : List Value) (v : Value) (us : Terms) → join (all_values (vs ++ v ∷ [])) us ≡ join (all_values vs) (part (Val v) us)
  values_more [] v us = refl
  values_more (w ∷ vs) v us = ap (part (Val w)) (values_more vs v us)

  given_more : (k : ℕ) (ns : List NodeId) (vs : List Value) (v : Value) (us : Terms) → join (given P k ns (vs ++ v ∷ [])) us ≡ join (given P k ns vs) (part (Val v) us)
  given_more zero ns vs v us = values_more vs v us
  given_more (suc k) [] vs v us = values_more vs v us
  given_more (suc k) (n ∷ ns) vs v us = ap (part (tree P n)) (given_more k ns vs v us)

  given_all : (k : ℕ) (ns : List NodeId) → join (given P k ns []) (behind P k ns) ≡ terms_by (tree P) ns
  given_all zero ns = refl
  given_all (suc k) [] = refl
  given_all (suc k) (n ∷ ns) = ap (part (tree P n)) (given_all k ns)

  -- a value for the next part
  value_by : (n : NodeId) (vs : List Value) (v : Value) (o : Option Row) → partly_by P n vs (Val v) o ≡ ready_by P n (vs ++ v ∷ []) o
  value_by n vs v None = refl
  value_by n vs v (Some r) =
      ap (Node n r.form)
      (sym (given_more (skipped r.form) r.parts vs v (behind P (place r vs + 1) r.parts))
      ∙ ap (λ k. join (given P (skipped r.form) r.parts (vs ++ v ∷ [])) (behind P k r.parts)) (sym (place_more r vs v)))

  pub value_taken : (n : NodeId) (vs : List Value) (v : Value) → partly P n vs (Val v) ≡ ready P n (vs ++ v ∷ [])
  value_taken n vs v = value_by n vs v (slice_get P.rows n.0)

  -- the next part as it stands
  next_by : (n p : NodeId) (vs : List Value) (r : Row) → slice_get r.parts (place r vs) ≡ Some p → partly_by P n vs (tree P p) (Some r) ≡ ready_by P n vs (Some r)
  next_by n p vs r e =
      ap (λ ds. Node n r.form (join (given P (skipped r.form) r.parts vs) (terms_by (tree P) ds))) (sym (drop_next r.parts (place r vs) p e))

  pub next_stands : (n p : NodeId) (vs : List Value) (r : Row) → slice_get P.rows n.0 ≡ Some r → slice_get r.parts (place r vs) ≡ Some p → partly P n vs (tree P p) ≡ ready P n vs
  next_stands n p vs r s e = ap (partly_by P n vs (tree P p)) s ∙ next_by n p vs r e ∙ sym (ap (ready_by P n vs) s)

  -- a node without values
  none_by : (n : NodeId) (r : Row) → ready_by P n [] (Some r) ≡ Node n r.form (terms_by (tree P) r.parts)
  none_by n r =
      let z : place r [] ≡ skipped r.form = omega arith in
      ap (λ k. Node n r.form (join (given P (skipped r.form) r.parts []) (behind P k r.parts))) z ∙ ap (Node n r.form) (given_all (skipped r.form) r.parts)

  pub ready_first : (n : NodeId) (r : Row) → IsArena P.rows → slice_get P.rows n.0 ≡ Some r → literal P r.form ≡ None → ready P n [] ≡ tree P n
  ready_first n r arena s lit =
      ap (ready_by P n []) s ∙ none_by n r
      ∙ sym (tree_is P arena n r s ∙ ap (λ o. node_by o n r.form (terms_by (tree P) r.parts)) lit)

  pub tree_value : (n : NodeId) (r : Row) (v : Value) → IsArena P.rows → slice_get P.rows n.0 ≡ Some r → literal P r.form ≡ Some v → tree P n ≡ Val v
  tree_value n r v arena s lit = tree_is P arena n r s ∙ ap (λ o. node_by o n r.form (terms_by (tree P) r.parts)) lit

  -- ---- choices

  pub choice_first : (n : NodeId) (r : Row) → IsArena P.rows → slice_get P.rows n.0 ≡ Some r → literal P r.form ≡ None → choice P n [] ≡ tree P n
  choice_first n r arena s lit =
      ap (choice_by P n []) s
      ∙ sym (tree_is P arena n r s ∙ ap (λ o. node_by o n r.form (terms_by (tree P) r.parts)) lit)

  first_taken : (ds : List NodeId) (vs : List Value) (v : Value) → in_first P ds vs (Val v) ≡ first_ready P ds (vs ++ v ∷ [])
  first_taken [] vs v = refl
  first_taken (c ∷ ds) vs v = ap (λ t. part t (terms_by (tree P) ds)) (value_taken c vs v)

  choice_value_by : (n : NodeId) (vss : List (List Value)) (vs : List Value) (v : Value) (o : Option Row) → choosing_by P n vss vs (Val v) o ≡ choosing_ready_by P n vss (vs ++ v ∷ []) o
  choice_value_by n vss vs v None = refl
  choice_value_by n vss vs v (Some r) = ap (λ us. Node n r.form (join (clauses_with P r.parts vss) us)) (first_taken (drop (length vss) r.parts) vs v)

  pub choice_value : (n : NodeId) (vss : List (List Value)) (vs : List Value) (v : Value) → choosing P n vss vs (Val v) ≡ choosing_ready P n vss (vs ++ v ∷ [])
  choice_value n vss vs v = choice_value_by n vss vs v (slice_get P.rows n.0)

  -- with the next clause made out
  at_clause : (n c : NodeId) (vss : List (List Value)) (vs : List Value) (t : Term) (r : Row) → slice_get P.rows n.0 ≡ Some r → slice_get r.parts (length vss) ≡ Some c → choosing P n vss vs t ≡ Node n r.form (join (clauses_with P r.parts vss) (part (partly P c vs t) (behind P (length vss + 1) r.parts)))
  at_clause n c vss vs t r s e =
      ap (choosing_by P n vss vs t) s
      ∙ ap (λ ds. Node n r.form (join (clauses_with P r.parts vss) (in_first P ds vs t))) (drop_next r.parts (length vss) c e)

  ready_clause : (n c : NodeId) (vss : List (List Value)) (vs : List Value) (r : Row) → slice_get P.rows n.0 ≡ Some r → slice_get r.parts (length vss) ≡ Some c → choosing_ready P n vss vs ≡ Node n r.form (join (clauses_with P r.parts vss) (part (ready P c vs) (behind P (length vss + 1) r.parts)))
  ready_clause n c vss vs r s e =
      ap (choosing_ready_by P n vss vs) s
      ∙ ap (λ ds. Node n r.form (join (clauses_with P r.parts vss) (first_ready P ds vs))) (drop_next r.parts (length vss) c e)

  pub clause_next : (n c : NodeId) (vss : List (List Value)) (vs : List Value) (t : Term) (r : Row) → slice_get P.rows n.0 ≡ Some r → slice_get r.parts (length vss) ≡ Some c → partly P c vs t ≡ ready P c vs → choosing P n vss vs t ≡ choosing_ready P n vss vs
  clause_next n c vss vs t r s e q =
      at_clause n c vss vs t r s e
      ∙ ap (λ u. Node n r.form (join (clauses_with P r.parts vss) (part u (behind P (length vss + 1) r.parts)))) q
      ∙ sym (ready_clause n c vss vs r s e)

  pub clause_first : (n c : NodeId) (vss : List (List Value)) (r : Row) → slice_get P.rows n.0 ≡ Some r → slice_get r.parts (length vss) ≡ Some c → ready P c [] ≡ tree P c → choosing_ready P n vss [] ≡ choice P n vss
  clause_first n c vss r s e q =
      ready_clause n c vss [] r s e
      ∙ ap (λ u. Node n r.form (join (clauses_with P r.parts vss) (part u (behind P (length vss + 1) r.parts)))) q
      ∙ ap (λ ds. Node n r.form (join (clauses_with P r.parts vss) (terms_by (tree P) ds))) (sym (drop_next r.parts (length vss) c e))
      ∙ sym (ap (choice_by P n vss) s)

  clauses_more : (c : NodeId) (ns : List NodeId) (vss : List (List Value)) (vs : List Value) (us : Terms) → slice_get ns (length vss) ≡ Some c → join (clauses_with P ns vss) (part (ready P c vs) us) ≡ join (clauses_with P ns (vss ++ vs ∷ [])) us
  clauses_more c [] [] vs us e = absurd (cc)
  clauses_more c [] (ws ∷ vss) vs us e = absurd (cc)
  clauses_more c (n ∷ ns) [] vs us e = let s : n ≡ c = same_Some n c e in ap (λ x. part (ready P x vs) us) (sym s)
  clauses_more c (n ∷ ns) (ws ∷ vss) vs us e = ap (part (ready P n ws)) (clauses_more c ns vss vs us e)

  pub clause_done : (n c : NodeId) (vss : List (List Value)) (vs : List Value) (r : Row) → slice_get P.rows n.0 ≡ Some r → slice_get r.parts (length vss) ≡ Some c → choosing_ready P n vss vs ≡ choice P n (vss ++ vs ∷ [])
  clause_done n c vss vs r s e =
      let l : length vss + 1 ≡ length (vss ++ vs ∷ []) = omega (arith, length-append vss (vs ∷ [])) in
      ready_clause n c vss vs r s e
      ∙ ap (Node n r.form) (clauses_more c r.parts vss vs (behind P (length vss + 1) r.parts) e)
      ∙ ap (λ k. Node n r.form (join (clauses_with P r.parts (vss ++ vs ∷ [])) (behind P k r.parts))) l
      ∙ sym (ap (choice_by P n (vss ++ vs ∷ [])) s)

pub clause_no_literal : (P : World) (form : Form) → role form ≡ shape.Clause → literal P form ≡ None
clause_no_literal P f.Send e = refl
clause_no_literal P f.Receive e = refl
clause_no_literal P f.ReceiveOrNil e = refl
clause_no_literal P other e = absurd (cc)

-- ---- weights

pub weight_next : (rows : List Row) (ns : List NodeId) (k : ℕ) (n : NodeId) → slice_get ns k ≡ Some n → weight_from rows k ns ≡ weight rows n + weight_from rows (k + 1) ns
weight_next rows ns k n e = ap (weights_by (weight rows)) (drop_next ns k n e)

pub weight_less : (rows : List Row) (k : ℕ) (ns : List NodeId) → weight_from rows k ns ≤ weights_by (weight rows) ns
weight_less rows zero ns = omega arith
weight_less rows (suc k) [] = omega arith
weight_less rows (suc k) (n ∷ ns) = omega (arith, weight_less rows k ns)

-- ---- steps

pub to_world : (t : Contents) (P : World) → IsWorldOf P t → (n : NodeId) (r : Row) → slice_get t.rows n.0 ≡ Some r → slice_get P.rows n.0 ≡ Some r
to_world t P w n r e = ap (λ rows. slice_get rows n.0) w.rows ∙ e

pub arena_of : (t : Contents) (P : World) → IsCore t → IsWorldOf P t → IsArena P.rows
arena_of t P core w = subst IsArena (sym w.rows) core.arena

-- one that leaves the layers alone
pub leads_still : (t : Contents) (ks ls : List Around) (x : World → Term) (most : ℕ) (to : Now) → ls ≡ ks → ((P : World) → IsWorldOf P t → now_of P to ≡ x P) → left_now t.rows to < most → IsNeatNow t.rows to → Leads t ks x most ls to
leads_still t ks ls x most to e same lt n =
    record {
      same = λ P w. ap (λ l. plug P l (now_of P to)) e ∙ ap (plug P ks) (same P w);
      less = let q = ap (left_around t.rows) e in omega (arith, q, lt);
      neat = λ h. subst (AreNeat t.rows) (sym e) h;
      focus = n;
      count = ap frame_count e;
    }

-- one that puts a layer inside
pub leads_into : (t : Contents) (ks ls : List Around) (x : World → Term) (most : ℕ) (k : Around) (to : Now) → ls ≡ ks ++ k ∷ [] → ((P : World) → IsWorldOf P t → filled P k (now_of P to) ≡ x P) → left_at t.rows k + left_now t.rows to < most → IsNeatAround t.rows k → IsNeatNow t.rows to → frame_of k ≡ 0 → Leads t ks x most ls to
leads_into t ks ls x most k to e same lt nk n z =
    record {
      same = λ P w. ap (λ l. plug P l (now_of P to)) e ∙ plug_append P ks (k ∷ []) (now_of P to) ∙ ap (plug P ks) (same P w);
      less = let q = ap (left_around t.rows) e in let r = around_append t.rows ks (k ∷ []) in omega (arith, q, r, lt);
      neat = λ h. subst (AreNeat t.rows) (sym e) (neat_append t.rows ks (k ∷ []) h (nk, tt));
      focus = n;
      count = let q = ap frame_count e in let r = frame_count_append ks (k ∷ []) in omega (arith, q, r, z);
    }

-- one that begins with a layer less
pub leads_out : (t : Contents) (ks ls : List Around) (k : Around) (x y : World → Term) (most all : ℕ) (to : Now) → ((P : World) → IsWorldOf P t → x P ≡ filled P k (y P)) → most ≤ left_at t.rows k + all → frame_of k ≡ 0 → Leads t ks x most ls to → Leads t (ks ++ k ∷ []) y all ls to
leads_out t ks ls k x y most all to same le z h =
    record {
      same = λ P w. h.same P w ∙ ap (plug P ks) (same P w) ∙ sym (plug_append P ks (k ∷ []) (y P));
      less = let q = h.less in let r = around_append t.rows ks (k ∷ []) in omega (arith, q, r, le);
      neat = λ n. h.neat (neat_front t.rows ks (k ∷ []) n);
      focus = h.focus;
      count = let q = h.count in let r = frame_count_append ks (k ∷ []) in omega (arith, q, r, z);
    }

-- one from what stands for the same
pub leads_as : (t : Contents) (ks ls : List Around) (x y : World → Term) (most all : ℕ) (to : Now) → ((P : World) → IsWorldOf P t → x P ≡ y P) → most ≤ all → Leads t ks x most ls to → Leads t ks y all ls to
leads_as t ks ls x y most all to same le h =
    record {
      same = λ P w. h.same P w ∙ ap (plug P ks) (same P w);
      less = let q = h.less in omega (arith, q, le);
      neat = h.neat;
      focus = h.focus;
      count = h.count;
    }
