-- Going on with a choice: to its next clause, within that, and to the choice itself.
use Rattle.std.proofs.Common.{◌≡◌, ℕ, ◌+◌, ◌<◌, ◌≤◌, true, false, List, [], ◌∷◌, ◌++◌, length, Option, Some, None, refl, sym, ap, ◌∙◌, subst, arith, length-append}
use Rattle.std.specs.Prelude.{slice_get, drop, slice_index_or}
use Rattle.std.proofs.lemmas.Option.{same_Some}
use Rattle.cr_base.specs.declared.ids.NodeId.{NodeId}
use Rattle.cr_value.specs.declared.value.Value.{Value}
use Rattle.cr_core.specs.declared.row.Row.{Row}
use Rattle.cr_core.specs.Shape as shape
use Rattle.cr_core.specs.Shape.{Role, role}
use Rattle.cr_core.specs.Tree.{Contents, IsCore}
use Rattle.cr_meaning.specs.World.{World}
use Rattle.cr_meaning.specs.Term.{Val, literal, tree}
use Rattle.cr_meaning.specs.Redex.{skipped, last_reduced}
use Rattle.cr_stack.specs.declared.around.Around.{Around}
use Rattle.cr_stack.specs.declared.around.Around.TheVariants as a
use Rattle.cr_stack.specs.declared.around.Now.{Now}
use Rattle.cr_stack.specs.declared.around.Now.TheVariants as now
use Rattle.cr_stack.specs.Layers.{place, choice}
use Rattle.cr_stack.specs.Neat.{until, is_choice, Stands, IsTerm, HasAll, HaveAll, Chooses, IsChoosing}
use Rattle.cr_stack.specs.Way.{weight, weight_from, weights_by, left_by, left_in, left_of_choice, Leads, Underway, ChoiceUnderway, left_ready, left_choice, left_first, left_clause, choosing_ready}
use Rattle.cr_stack.proofs.Nodes.{drop_next, choice_skips_none}
use Rattle.cr_stack.proofs.Table.{has_parts, plain_role, choice_role, clause_is_plain, clause_has_some}
use Rattle.cr_stack.proofs.Unrolled.{weight_is}
use Rattle.cr_stack.proofs.Moving.{place_more, next_stands, ready_first, choice_first, choice_value, clause_next, clause_first, clause_done, clause_no_literal, weight_next, weight_less, to_world, arena_of, leads_still, leads_into, leads_out, leads_as}
use Rattle.cr_stack.proofs.Resuming.{row_is, part_is, read_there, underway_more}

-- ---- what is left

left_next : (rows : List Row) (vss : List (List Value)) (vs : List Value) (c : NodeId) (r rc : Row) (o : Option Row) → o ≡ Some r → slice_get rows c.0 ≡ Some rc → slice_get r.parts (length vss) ≡ Some c → left_of_choice rows vss vs o ≡ 1 + weight_from rows (place rc vs + 1) rc.parts + weight_from rows (length vss + 1) r.parts
left_next rows vss vs c r rc o e ec next =
    ap (left_of_choice rows vss vs) e
    ∙ ap (left_in rows vs) (drop_next r.parts (length vss) c next)
    ∙ ap (λ p. left_by rows vs p + weight_from rows (length vss + 1) r.parts) ec

left_clause_is : (rows : List Row) (vss : List (List Value)) (vs : List Value) (c : NodeId) (r rc : Row) (o : Option Row) → o ≡ Some r → slice_get rows c.0 ≡ Some rc → slice_get r.parts (length vss) ≡ Some c → left_clause rows vss vs o ≡ 2 + weight_from rows (place rc vs) rc.parts + weight_from rows (length vss + 1) r.parts
left_clause_is rows vss vs c r rc o e ec next =
    ap (left_clause rows vss vs) e
    ∙ ap (left_first rows vs) (drop_next r.parts (length vss) c next)
    ∙ ap (λ p. left_ready rows vs p + weight_from rows (length vss + 1) r.parts) ec

module _ (t : Contents) (core : IsCore t) (ks ls : List Around) (n : NodeId) (r : Row) (e : slice_get t.rows n.0 ≡ Some r) where
  -- the clause at a place of a choice
  pub clause_at : (vss : List (List Value)) (c : NodeId) → Chooses t.rows n vss → length vss < until r → slice_get r.parts (length vss) ≡ Some c → Stands t.rows c shape.Clause
  clause_at vss c h lt next =
      let s = row_is t.rows n shape.Term r h.at e in
      let yes : is_choice r.form ≡ true = subst (λ x. is_choice x.form ≡ true) s h.choice in
      let z = choice_skips_none r.form yes in
      subst (Stands t.rows c) (choice_role r.form yes) (part_is t.rows n.0 r (length vss) c core.arena e (omega (arith, z)) lt next)

  -- the next clause, by what the code reads
  module _ (vss : List (List Value)) (ds : List NodeId) (i : ℕ) (d : NodeId) (same : ds ≡ r.parts) (is : i ≡ length vss) where
    pub clause_there : length vss < until r → slice_get r.parts (length vss) ≡ Some (slice_index_or ds i d)
    clause_there lt =
        let there = (has_parts t.rows n.0 r core.arena e).upto in
        read_there r.parts ds (length vss) i d same is (omega (arith, lt, there))

    pub next_clause : (vs : List Value) → ChoiceUnderway t.rows n vss vs → slice_get r.parts (length vss) ≡ Some (slice_index_or ds i d)
    next_clause vs h = clause_there (subst (λ x. length vss < until x) (row_is t.rows n shape.Term r h.chooses.at e) h.more)

    module _ (u : ℕ) (upto : u ≡ last_reduced r.form (length ds)) where
      upto_is : u ≡ until r
      upto_is = upto ∙ ap (λ ps. last_reduced r.form (length ps)) same

      pub is_more : i < u → length vss < until r
      is_more lt = let l = upto_is in omega (arith, is, l, lt)

      pub is_end : u ≤ i → until r ≤ length vss
      is_end ge = let l = upto_is in omega (arith, is, l, ge)

  module _ (c : NodeId) (rc : Row) (ec : slice_get t.rows c.0 ≡ Some rc) where
    clause_role : Stands t.rows c shape.Clause → role rc.form ≡ shape.Clause
    clause_role h = subst (λ x. role x.form ≡ shape.Clause) (row_is t.rows c shape.Clause rc h ec) h.role_is

    part_of_clause : (p : NodeId) (i : ℕ) → role rc.form ≡ shape.Clause → skipped rc.form ≤ i → i < until rc → slice_get rc.parts i ≡ Some p → IsTerm t.rows p
    part_of_clause p i is ge lt there =
        subst (Stands t.rows p) (plain_role rc.form (clause_is_plain rc.form is)) (part_is t.rows c.0 rc i p core.arena ec ge lt there)

    pub first_within : Stands t.rows c shape.Clause → skipped rc.form < length rc.parts
    first_within h =
        let some = clause_has_some rc.form (length rc.parts) (clause_role h) in
        let there = (has_parts t.rows c.0 rc core.arena ec).upto in
        omega (arith, some, there)

    -- ---- the next clause

    pub choice_part : (p : NodeId) (vss : List (List Value)) (none : List Value) → none ≡ [] → Chooses t.rows n vss → length vss < until r → slice_get r.parts (length vss) ≡ Some c → slice_get rc.parts (skipped rc.form) ≡ Some p → ls ≡ ks ++ a.Choice n vss none ∷ [] → Leads t ks (λ P. choice P n vss) (left_choice t.rows vss (slice_get t.rows n.0)) ls (now.Node p)
    choice_part p vss none empty h lt next first more =
        let s = row_is t.rows n shape.Term r h.at e in
        let at = clause_at vss c h lt next in
        let sc = row_is t.rows c shape.Clause rc at ec in
        let is = clause_role at in
        let parts = has_parts t.rows c.0 rc core.arena ec in
        let some = clause_has_some rc.form (length rc.parts) is in
        let z : place rc [] ≡ skipped rc.form = omega arith in
        let there : slice_get rc.parts (place rc []) ≡ Some p = ap (slice_get rc.parts) z ∙ first in
        let left = left_next t.rows vss [] c r rc (slice_get t.rows n.0) e ec next in
        let most : left_choice t.rows vss (slice_get t.rows n.0) ≡ 1 + weight_from t.rows (length vss) r.parts = ap (left_choice t.rows vss) e in
        let w1 = weight_next t.rows r.parts (length vss) c next in
        let w2 = weight_is t.rows core.arena c rc ec in
        let w3 = weight_next t.rows rc.parts (place rc []) p there in
        let w4 = weight_less t.rows (place rc []) rc.parts in
        leads_into t ks ls (λ P. choice P n vss) (left_choice t.rows vss (slice_get t.rows n.0)) (a.Choice n vss []) (now.Node p) (more ∙ ap (λ vs. ks ++ a.Choice n vss vs ∷ []) empty)
        (λ P w.
        let er = to_world t P w n r e in
        let ew = to_world t P w c rc ec in
        clause_next P n c vss [] (tree P p) r er next (next_stands P c p [] rc ew there)
        ∙ clause_first P n c vss r er next (ready_first P c rc (arena_of t P core w) ew (clause_no_literal P rc.form is)))
        (omega (arith, left, most, w1, w2, w3, w4))
        (record {
          chooses = h;
          more = subst (λ x. length vss < until x) (sym s) lt;
          clause = c;
          next = subst (λ x. slice_get x.parts (length vss) ≡ Some c) (sym s) next;
          lacks = record {
            at = at;
            plain = subst (λ x. is_choice x.form ≡ false) (sym sc) (clause_is_plain rc.form is);
            fewer = subst (λ x. place x [] < until x) (sym sc) (omega (arith, some, z));
            there = subst (λ x. until x ≤ length x.parts) (sym sc) parts.upto;
          };
        })
        (part_of_clause p (skipped rc.form) is (omega arith) some first)
        refl

    -- ---- within a clause

    pub clause_part : (p : NodeId) (vss : List (List Value)) (vs : List Value) → ChoiceUnderway t.rows n vss vs → slice_get r.parts (length vss) ≡ Some c → place rc vs < until rc → slice_get rc.parts (place rc vs) ≡ Some p → ls ≡ ks ++ a.Choice n vss vs ∷ [] → Leads t ks (λ P. choosing_ready P n vss vs) (left_clause t.rows vss vs (slice_get t.rows n.0)) ls (now.Node p)
    clause_part p vss vs h next lt there more =
        let s = row_is t.rows n shape.Term r h.chooses.at e in
        let same : h.clause ≡ c = same_Some h.clause c (sym (subst (λ x. slice_get x.parts (length vss) ≡ Some h.clause) s h.next) ∙ next) in
        let u : Underway t.rows c vs shape.Clause = subst (λ x. Underway t.rows x vs shape.Clause) same h.underway in
        let sc = row_is t.rows c shape.Clause rc u.at ec in
        let left = left_next t.rows vss vs c r rc (slice_get t.rows n.0) e ec next in
        let most = left_clause_is t.rows vss vs c r rc (slice_get t.rows n.0) e ec next in
        let w = weight_next t.rows rc.parts (place rc vs) p there in
        leads_into t ks ls (λ P. choosing_ready P n vss vs) (left_clause t.rows vss vs (slice_get t.rows n.0)) (a.Choice n vss vs) (now.Node p) more
        (λ P w. clause_next P n c vss vs (tree P p) r (to_world t P w n r e) next (next_stands P c p vs rc (to_world t P w c rc ec) there))
        (omega (arith, left, most, w))
        (record {
          chooses = h.chooses;
          more = h.more;
          clause = c;
          next = subst (λ x. slice_get x.parts (length vss) ≡ Some c) (sym s) next;
          lacks = record { at = u.at; plain = u.plain; fewer = subst (λ x. place x vs < until x) (sym sc) lt; there = u.there };
        })
        (part_of_clause p (place rc vs) (clause_role u.at) (omega arith) lt there)
        refl

    -- by what the code reads
    module _ (vss : List (List Value)) (vs : List Value) (ps : List NodeId) (i u : ℕ) (h : ChoiceUnderway t.rows n vss vs) (next : slice_get r.parts (length vss) ≡ Some c) (same : ps ≡ rc.parts) (is : i ≡ place rc vs) (upto : u ≡ last_reduced rc.form (length ps)) where
      clause_upto : u ≡ until rc
      clause_upto = upto ∙ ap (λ ps. last_reduced rc.form (length ps)) same

      pub clause_step : (d : NodeId) (wss : List (List Value)) → wss ≡ vss → i < u → ls ≡ ks ++ a.Choice n wss vs ∷ [] → Leads t ks (λ P. choosing_ready P n vss vs) (left_clause t.rows vss vs (slice_get t.rows n.0)) ls (now.Node (slice_index_or ps i d))
      clause_step d wss ws lt more =
          let l = clause_upto in
          let few : place rc vs < until rc = omega (arith, is, l, lt) in
          let there = (has_parts t.rows c.0 rc core.arena ec).upto in
          clause_part (slice_index_or ps i d) vss vs h next few (read_there rc.parts ps (place rc vs) i d same is (omega (arith, few, there)))
          (more ∙ ap (λ us. ks ++ a.Choice n us vs ∷ []) ws)

      pub clause_end : u ≤ i → until rc ≤ place rc vs
      clause_end ge = let l = clause_upto in omega (arith, is, l, ge)

    pub clause_all : (vss : List (List Value)) (vs : List Value) (wss : List (List Value)) (to : Now) → wss ≡ vss ++ vs ∷ [] → slice_get r.parts (length vss) ≡ Some c → Leads t ks (λ P. choice P n wss) (left_choice t.rows wss (slice_get t.rows n.0)) ls to → Leads t ks (λ P. choosing_ready P n vss vs) (left_clause t.rows vss vs (slice_get t.rows n.0)) ls to
    clause_all vss vs wss to is next h =
        let most = left_clause_is t.rows vss vs c r rc (slice_get t.rows n.0) e ec next in
        let l : length (vss ++ vs ∷ []) ≡ length vss + 1 = omega (arith, length-append vss (vs ∷ [])) in
        let left : left_choice t.rows (vss ++ vs ∷ []) (slice_get t.rows n.0) ≡ 1 + weight_from t.rows (length vss + 1) r.parts =
        ap (left_choice t.rows (vss ++ vs ∷ [])) e ∙ ap (λ k. 1 + weight_from t.rows k r.parts) l in
        leads_as t ks ls (λ P. choice P n (vss ++ vs ∷ [])) (λ P. choosing_ready P n vss vs) (left_choice t.rows (vss ++ vs ∷ []) (slice_get t.rows n.0)) (left_clause t.rows vss vs (slice_get t.rows n.0)) to
        (λ P w. sym (clause_done P n c vss vs r (to_world t P w n r e) next))
        (omega (arith, most, left))
        (subst (λ us. Leads t ks (λ P. choice P n us) (left_choice t.rows us (slice_get t.rows n.0)) ls to) is h)

    pub chooses_more : (vss : List (List Value)) (vs : List Value) (wss : List (List Value)) → wss ≡ vss ++ vs ∷ [] → ChoiceUnderway t.rows n vss vs → slice_get r.parts (length vss) ≡ Some c → until rc ≤ place rc vs → Chooses t.rows n wss
    chooses_more vss vs wss is h next ge =
        let s = row_is t.rows n shape.Term r h.chooses.at e in
        let same : h.clause ≡ c = same_Some h.clause c (sym (subst (λ x. slice_get x.parts (length vss) ≡ Some h.clause) s h.next) ∙ next) in
        let u : Underway t.rows c vs shape.Clause = subst (λ x. Underway t.rows x vs shape.Clause) same h.underway in
        let sc = row_is t.rows c shape.Clause rc u.at ec in
        let over : until u.at.row ≤ place u.at.row vs = subst (λ x. until x ≤ place x vs) (sym sc) ge in
        let upto = u.upto in
        let l : length (vss ++ vs ∷ []) ≡ length vss + 1 = omega (arith, length-append vss (vs ∷ [])) in
        let lt = h.more in
        subst (Chooses t.rows n) (sym is)
        (record {
          at = h.chooses.at;
          choice = h.chooses.choice;
          upto = omega (arith, l, lt);
          there = h.chooses.there;
          clauses = more h.chooses.at.row.parts vss h.chooses.clauses (subst (λ x. slice_get x.parts (length vss) ≡ Some c) (sym s) next) (record { at = u.at; all = omega (arith, upto, over); there = u.there });
        })
      where
        more : (ns : List NodeId) (vss : List (List Value)) → HaveAll t.rows ns vss → slice_get ns (length vss) ≡ Some c → HasAll t.rows c vs shape.Clause → HaveAll t.rows ns (vss ++ vs ∷ [])
        more [] [] h there all = absurd (cc)
        more (m ∷ ns) [] h there all = (subst (λ x. HasAll t.rows x vs shape.Clause) (sym (same_Some m c there)) all, tt)
        more [] (ws ∷ vss) h there all = absurd h
        more (m ∷ ns) (ws ∷ vss) h there all = (h.0, more ns vss h.1 there all)

  pub choice_all : (vss : List (List Value)) → Chooses t.rows n vss → until r ≤ length vss → ls ≡ ks → Leads t ks (λ P. choice P n vss) (left_choice t.rows vss (slice_get t.rows n.0)) ls (now.Choice n vss)
  choice_all vss h ge still =
      let s = row_is t.rows n shape.Term r h.at e in
      let most : left_choice t.rows vss (slice_get t.rows n.0) ≡ 1 + weight_from t.rows (length vss) r.parts = ap (left_choice t.rows vss) e in
      let upto = h.upto in
      let over : until h.at.row ≤ length vss = subst (λ x. until x ≤ length vss) (sym s) ge in
      leads_still t ks ls (λ P. choice P n vss) (left_choice t.rows vss (slice_get t.rows n.0)) (now.Choice n vss) still (λ P w. refl)
      (omega (arith, most))
      (record { chooses = h; all = omega (arith, upto, over) })

  -- ---- into a choice

  pub enter_choice : (to : Now) → ((P : World) → P.texts ≡ t.texts → literal P r.form ≡ None) → Leads t ks (λ P. choice P n []) (left_choice t.rows [] (slice_get t.rows n.0)) ls to → Leads t ks (λ P. tree P n) (weight t.rows n) ls to
  enter_choice to lit h =
      let w = weight_is t.rows core.arena n r e in
      let most : left_choice t.rows [] (slice_get t.rows n.0) ≡ 1 + weights_by (weight t.rows) r.parts = ap (left_choice t.rows []) e in
      leads_as t ks ls (λ P. choice P n []) (λ P. tree P n) (left_choice t.rows [] (slice_get t.rows n.0)) (weight t.rows n) to
      (λ P w. choice_first P n r (arena_of t P core w) (to_world t P w n r e) (lit P w.texts))
      (omega (arith, w, most)) h

  pub enter_choice_by : (js : List Around) (vss : List (List Value)) (to : Now) → js ≡ ks → vss ≡ [] → ((P : World) → P.texts ≡ t.texts → literal P r.form ≡ None) → Leads t js (λ P. choice P n vss) (left_choice t.rows vss (slice_get t.rows n.0)) ls to → Leads t ks (λ P. tree P n) (weight t.rows n) ls to
  enter_choice_by js vss to same none lit h =
      enter_choice to lit
      (subst (λ l. Leads t l (λ P. choice P n []) (left_choice t.rows [] (slice_get t.rows n.0)) ls to) same
      (subst (λ us. Leads t js (λ P. choice P n us) (left_choice t.rows us (slice_get t.rows n.0)) ls to) none h))

  pub chooses_first : (h : IsTerm t.rows n) → is_choice r.form ≡ true → Chooses t.rows n []
  chooses_first h chosen =
      let s = row_is t.rows n shape.Term r h e in
      let parts = has_parts t.rows n.0 r core.arena e in
      record {
        at = h;
        choice = subst (λ x. is_choice x.form ≡ true) (sym s) chosen;
        upto = omega arith;
        there = subst (λ x. until x ≤ length x.parts) (sym s) parts.upto;
        clauses = tt;
      }

-- ---- a value more

left_more : (rows : List Row) (vss : List (List Value)) (vs : List Value) (v : Value) (o : Option Row) → left_clause rows vss (vs ++ v ∷ []) o ≤ left_of_choice rows vss vs o + 1
left_more rows vss vs v None = omega arith
left_more rows vss vs v (Some r) = in_first_of (drop (length vss) r.parts)
  where
    one : (o : Option Row) → left_ready rows (vs ++ v ∷ []) o ≤ left_by rows vs o + 1
    one None = omega arith
    one (Some r) = let e = ap (λ k. weight_from rows k r.parts) (place_more r vs v) in omega (arith, e)

    in_first_of : (ds : List NodeId) → left_first rows (vs ++ v ∷ []) ds ≤ left_in rows vs ds + 1
    in_first_of [] = omega arith
    in_first_of (c ∷ ds) = let o = one (slice_get rows c.0) in omega (arith, o)

pub taken_in_choice : (t : Contents) (ks ls : List Around) (n : NodeId) (vss : List (List Value)) (vs ws : List Value) (v : Value) (to : Now) → ws ≡ vs ++ v ∷ [] → Leads t ks (λ P. choosing_ready P n vss ws) (left_clause t.rows vss ws (slice_get t.rows n.0)) ls to → Leads t (ks ++ a.Choice n vss vs ∷ []) (λ P. Val v) 1 ls to
taken_in_choice t ks ls n vss vs ws v to is h =
    leads_out t ks ls (a.Choice n vss vs) (λ P. choosing_ready P n vss (vs ++ v ∷ [])) (λ P. Val v) (left_clause t.rows vss (vs ++ v ∷ []) (slice_get t.rows n.0)) 1 to
    (λ P w. sym (choice_value P n vss vs v)) (left_more t.rows vss vs v (slice_get t.rows n.0)) refl
    (subst (λ us. Leads t ks (λ P. choosing_ready P n vss us) (left_clause t.rows vss us (slice_get t.rows n.0)) ls to) is h)

pub choice_underway_more : (rows : List Row) (n : NodeId) (vss : List (List Value)) (vs ws : List Value) (v : Value) → ws ≡ vs ++ v ∷ [] → IsChoosing rows n vss vs → ChoiceUnderway rows n vss ws
choice_underway_more rows n vss vs ws v is h =
    record { chooses = h.chooses; more = h.more; clause = h.clause; next = h.next; underway = underway_more rows h.clause shape.Clause vs ws v is h.lacks }

-- the same by equal lists of clauses
pub taken_in_choice_by : (t : Contents) (ks ls : List Around) (n : NodeId) (vss wss : List (List Value)) (vs ws : List Value) (v : Value) (to : Now) → wss ≡ vss → ws ≡ vs ++ v ∷ [] → Leads t ks (λ P. choosing_ready P n wss ws) (left_clause t.rows wss ws (slice_get t.rows n.0)) ls to → Leads t (ks ++ a.Choice n vss vs ∷ []) (λ P. Val v) 1 ls to
taken_in_choice_by t ks ls n vss wss vs ws v to same is h =
    taken_in_choice t ks ls n vss vs ws v to is
    (subst (λ us. Leads t ks (λ P. choosing_ready P n us ws) (left_clause t.rows us ws (slice_get t.rows n.0)) ls to) same h)

pub choice_underway_more_by : (rows : List Row) (n : NodeId) (vss wss : List (List Value)) (vs ws : List Value) (v : Value) → wss ≡ vss → ws ≡ vs ++ v ∷ [] → IsChoosing rows n vss vs → ChoiceUnderway rows n wss ws
choice_underway_more_by rows n vss wss vs ws v same is h =
    subst (λ us. ChoiceUnderway rows n us ws) (sym same) (choice_underway_more rows n vss vs ws v is h)
