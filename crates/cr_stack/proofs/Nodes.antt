-- Nodes some of whose parts have values, by what a row lacks.
use Rattle.std.proofs.Common.{◌≡◌, ℕ, zero, suc, ◌+◌, ◌<◌, ◌≤◌, true, false, List, [], ◌∷◌, length, Some, None, refl, sym, ap, subst, arith, length-drop}
use Rattle.std.specs.Prelude.{slice_get, drop}
use Rattle.cr_base.specs.declared.ids.NodeId.{NodeId}
use Rattle.cr_value.specs.declared.value.Value.{Value}
use Rattle.cr_core.specs.declared.form.Form.{Form}
use Rattle.cr_core.specs.declared.form.Form.TheVariants as f
use Rattle.cr_core.specs.Shape as shape
use Rattle.cr_core.specs.Shape.{Role, role}
use Rattle.cr_meaning.specs.World.{World}
use Rattle.cr_meaning.specs.Term.{Term, Terms, Node, none, part, terms_by, tree}
use Rattle.cr_meaning.specs.Redex.{skipped, last_reduced, is_clause, count, redex}
use Rattle.cr_stack.specs.Layers.{join, all_values, given, behind, place, ready, ready_by, partly, partly_by, clauses_with, choice, choice_by, in_first, choosing, choosing_by}
use Rattle.cr_stack.specs.Neat.{until, is_choice, Lacks, HasAll, HaveAll, IsChoosing, HasChosen}
use Rattle.cr_stack.proofs.Spots.{Behind, Past, Shows, node_shows, both_show, IsRedex, node_is_redex, clause_has_none}

-- ---- forms

pub term_is_no_clause : (form : Form) → role form ≡ shape.Term → is_clause form ≡ false
term_is_no_clause f.Send e = absurd (cc)
term_is_no_clause f.Receive e = absurd (cc)
term_is_no_clause f.ReceiveOrNil e = absurd (cc)
term_is_no_clause other e = refl

clause_is_clause : (form : Form) → role form ≡ shape.Clause → is_clause form ≡ true
clause_is_clause f.Send e = refl
clause_is_clause f.Receive e = refl
clause_is_clause f.ReceiveOrNil e = refl
clause_is_clause other e = absurd (cc)

pub choice_skips_none : (form : Form) → is_choice form ≡ true → skipped form ≡ 0
choice_skips_none (f.Select otherwise) e = refl
choice_skips_none other e = absurd (cc)

-- ---- how many parts there are

count_join : (ts us : Terms) → count (join ts us) ≡ count ts + count us
count_join none us = omega arith
count_join (part t ts) us = omega (arith, count_join ts us)

count_values : (vs : List Value) → count (all_values vs) ≡ length vs
count_values [] = refl
count_values (v ∷ vs) = omega (arith, count_values vs)

count_terms : (g : NodeId → Term) (ns : List NodeId) → count (terms_by g ns) ≡ length ns
count_terms g [] = refl
count_terms g (n ∷ ns) = omega (arith, count_terms g ns)

-- the nodes from a place on
pub drop_next : (ns : List NodeId) (k : ℕ) (n : NodeId) → slice_get ns k ≡ Some n → drop k ns ≡ n ∷ drop (k + 1) ns
drop_next ns k n e = let s : suc k ≡ k + 1 = omega arith in subst (λ j. drop k ns ≡ n ∷ drop j ns) s (by_suc ns k e)
  where
    by_suc : (ns : List NodeId) (k : ℕ) → slice_get ns k ≡ Some n → drop k ns ≡ n ∷ drop (suc k) ns
    by_suc [] k e = absurd (cc)
    by_suc (m ∷ ns) zero e = let s : m ≡ n = cc in ap (λ x. x ∷ ns) s
    by_suc (m ∷ ns) (suc k) e = by_suc ns k e

module _ (P : World) where
  count_given : (k : ℕ) (ns : List NodeId) (vs : List Value) → k ≤ length ns → count (given P k ns vs) ≡ k + length vs
  count_given zero ns vs le = omega (arith, count_values vs)
  count_given (suc k) [] vs le = absurd (omega arith)
  count_given (suc k) (n ∷ ns) vs le = omega (arith, count_given k ns vs (omega arith))

  count_partly : (k : ℕ) (ns : List NodeId) (vs : List Value) (t : Term) → k + length vs < length ns → count (join (given P k ns vs) (part t (behind P (k + length vs + 1) ns))) ≡ length ns
  count_partly k ns vs t lt =
      omega (arith, count_join (given P k ns vs) (part t (behind P (k + length vs + 1) ns)), count_given k ns vs (omega arith), count_terms (tree P) (drop (k + length vs + 1) ns), length-drop (k + length vs + 1) ns)

  count_ready : (k : ℕ) (ns : List NodeId) (vs : List Value) → k + length vs ≤ length ns → count (join (given P k ns vs) (behind P (k + length vs) ns)) ≡ length ns
  count_ready k ns vs le =
      omega (arith, count_join (given P k ns vs) (behind P (k + length vs) ns), count_given k ns vs (omega arith), count_terms (tree P) (drop (k + length vs) ns), length-drop (k + length vs) ns)

  -- ---- the next part, and none

  behind_values : (until : ℕ) (vs : List Value) → length vs < until → Behind zero until (all_values vs)
  behind_values zero vs lt = absurd (omega arith)
  behind_values (suc until) [] lt = tt
  behind_values (suc until) (v ∷ vs) lt = (refl, behind_values until vs (omega arith))

  behind_given : (k until : ℕ) (ns : List NodeId) (vs : List Value) → k ≤ length ns → k + length vs < until → Behind k until (given P k ns vs)
  behind_given zero until ns vs le lt = behind_values until vs (omega arith)
  behind_given (suc k) zero ns vs le lt = absurd (omega arith)
  behind_given (suc k) (suc until) [] vs le lt = absurd (omega arith)
  behind_given (suc k) (suc until) (n ∷ ns) vs le lt = behind_given k until ns vs (omega arith) (omega arith)

  past_values : (until : ℕ) (vs : List Value) (us : Terms) → length vs ≡ until → Past zero until (join (all_values vs) us)
  past_values zero vs us e = tt
  past_values (suc until) [] us e = absurd (omega arith)
  past_values (suc until) (v ∷ vs) us e = (refl, past_values until vs us (omega arith))

  past_given : (k until : ℕ) (ns : List NodeId) (vs : List Value) (us : Terms) → k ≤ length ns → k + length vs ≡ until → Past k until (join (given P k ns vs) us)
  past_given zero until ns vs us le e = past_values until vs us (omega arith)
  past_given (suc k) zero ns vs us le e = tt
  past_given (suc k) (suc until) [] vs us le e = absurd (omega arith)
  past_given (suc k) (suc until) (n ∷ ns) vs us le e = past_given k until ns vs us (omega arith) (omega arith)

  -- ---- a node

  pub partly_shows : (n : NodeId) (vs : List Value) (k : Role) → Lacks P.rows n vs k → Shows (partly P n vs)
  partly_shows n vs k h =
      let r = h.at.row in
      let few : place r vs < length r.parts = let a = h.fewer in let b = h.there in omega (arith, a, b) in
      subst (λ o. Shows (λ t. partly_by P n vs t o)) (sym h.at.stands)
      (node_shows n r.form (until r) (given P (skipped r.form) r.parts vs) (behind P (place r vs + 1) r.parts)
      (λ t. ap (last_reduced r.form) (count_partly (skipped r.form) r.parts vs t few))
      (behind_given (skipped r.form) (until r) r.parts vs (omega (arith, few)) h.fewer))

  with_all : (n : NodeId) (vs : List Value) (k : Role) (h : HasAll P.rows n vs k) → (last_reduced h.at.row.form (count (join (given P (skipped h.at.row.form) h.at.row.parts vs) (behind P (place h.at.row vs) h.at.row.parts))) ≡ until h.at.row) × Past (skipped h.at.row.form) (until h.at.row) (join (given P (skipped h.at.row.form) h.at.row.parts vs) (behind P (place h.at.row vs) h.at.row.parts))
  with_all n vs k h =
      let r = h.at.row in
      let few : place r vs ≤ length r.parts = let a = h.all in let b = h.there in omega (arith, a, b) in (
        ap (last_reduced r.form) (count_ready (skipped r.form) r.parts vs few),
        past_given (skipped r.form) (until r) r.parts vs (behind P (place r vs) r.parts) (omega (arith, few)) h.all,
      )

  pub ready_is_redex : (n : NodeId) (vs : List Value) → HasAll P.rows n vs shape.Term → IsRedex (ready P n vs)
  ready_is_redex n vs h =
      let r = h.at.row in
      let w = with_all n vs shape.Term h in
      subst (λ o. IsRedex (ready_by P n vs o)) (sym h.at.stands) (node_is_redex n r.form (until r) _ w.0 w.1 (term_is_no_clause r.form h.at.role_is))

  clause_is_done : (n : NodeId) (vs : List Value) → HasAll P.rows n vs shape.Clause → redex (ready P n vs) ≡ None
  clause_is_done n vs h =
      let r = h.at.row in
      let w = with_all n vs shape.Clause h in
      subst (λ o. redex (ready_by P n vs o) ≡ None) (sym h.at.stands) (clause_has_none n r.form (until r) _ w.0 w.1 (clause_is_clause r.form h.at.role_is))

  -- ---- a choice

  count_clauses : (ns : List NodeId) (vss : List (List Value)) → HaveAll P.rows ns vss → count (clauses_with P ns vss) ≡ length vss
  count_clauses ns [] h = refl
  count_clauses [] (vs ∷ vss) h = absurd h
  count_clauses (n ∷ ns) (vs ∷ vss) h = omega (arith, count_clauses ns vss h.1)

  behind_clauses : (until : ℕ) (ns : List NodeId) (vss : List (List Value)) → HaveAll P.rows ns vss → length vss < until → Behind zero until (clauses_with P ns vss)
  behind_clauses zero ns vss h lt = absurd (omega arith)
  behind_clauses (suc until) ns [] h lt = tt
  behind_clauses (suc until) [] (vs ∷ vss) h lt = absurd h
  behind_clauses (suc until) (n ∷ ns) (vs ∷ vss) h lt = (clause_is_done n vs h.0, behind_clauses until ns vss h.1 (omega arith))

  past_clauses : (until : ℕ) (ns : List NodeId) (vss : List (List Value)) (us : Terms) → HaveAll P.rows ns vss → length vss ≡ until → Past zero until (join (clauses_with P ns vss) us)
  past_clauses zero ns vss us h e = tt
  past_clauses (suc until) ns [] us h e = absurd (omega arith)
  past_clauses (suc until) [] (vs ∷ vss) us h e = absurd h
  past_clauses (suc until) (n ∷ ns) (vs ∷ vss) us h e = (clause_is_done n vs h.0, past_clauses until ns vss us h.1 (omega arith))

  count_choosing : (ns : List NodeId) (vss : List (List Value)) (t : Term) → HaveAll P.rows ns vss → length vss < length ns → count (join (clauses_with P ns vss) (part t (behind P (length vss + 1) ns))) ≡ length ns
  count_choosing ns vss t h lt =
      omega (arith, count_join (clauses_with P ns vss) (part t (behind P (length vss + 1) ns)), count_clauses ns vss h, count_terms (tree P) (drop (length vss + 1) ns), length-drop (length vss + 1) ns)

  count_choice : (ns : List NodeId) (vss : List (List Value)) → HaveAll P.rows ns vss → length vss ≤ length ns → count (join (clauses_with P ns vss) (behind P (length vss) ns)) ≡ length ns
  count_choice ns vss h le =
      omega (arith, count_join (clauses_with P ns vss) (behind P (length vss) ns), count_clauses ns vss h, count_terms (tree P) (drop (length vss) ns), length-drop (length vss) ns)

  pub choosing_shows : (n : NodeId) (vss : List (List Value)) (vs : List Value) → IsChoosing P.rows n vss vs → Shows (choosing P n vss vs)
  choosing_shows n vss vs h =
      let r = h.chooses.at.row in
      let before = clauses_with P r.parts vss in
      let after = behind P (length vss + 1) r.parts in
      let few : length vss < length r.parts = let a = h.more in let b = h.chooses.there in omega (arith, a, b) in
      let outer : Shows (λ t. Node n r.form (join before (part t after))) =
      node_shows n r.form (until r) before after
      (λ t. ap (last_reduced r.form) (count_choosing r.parts vss t h.chooses.clauses few))
      (subst (λ j. Behind j (until r) before) (sym (choice_skips_none r.form h.chooses.choice)) (behind_clauses (until r) r.parts vss h.chooses.clauses h.more)) in
      subst (λ o. Shows (λ t. choosing_by P n vss vs t o)) (sym h.chooses.at.stands)
      (subst (λ ds. Shows (λ t. Node n r.form (join before (in_first P ds vs t)))) (sym (drop_next r.parts (length vss) h.clause h.next))
      (both_show (λ t. Node n r.form (join before (part t after))) (partly P h.clause vs) outer (partly_shows h.clause vs shape.Clause h.lacks)))

  pub choice_is_redex : (n : NodeId) (vss : List (List Value)) → HasChosen P.rows n vss → IsRedex (choice P n vss)
  choice_is_redex n vss h =
      let r = h.chooses.at.row in
      let few : length vss ≤ length r.parts = let a = h.chooses.upto in let b = h.chooses.there in omega (arith, a, b) in
      subst (λ o. IsRedex (choice_by P n vss o)) (sym h.chooses.at.stands)
      (node_is_redex n r.form (until r) _
      (ap (last_reduced r.form) (count_choice r.parts vss h.chooses.clauses few))
      (subst (λ j. Past j (until r) (join (clauses_with P r.parts vss) (behind P (length vss) r.parts))) (sym (choice_skips_none r.form h.chooses.choice))
      (past_clauses (until r) r.parts vss (behind P (length vss) r.parts) h.chooses.clauses h.all))
      (term_is_no_clause r.form h.chooses.at.role_is))
