-- Going on with a node: into it, to its next part, and to the node itself.
use Rattle.std.proofs.Common.{◌≡◌, ℕ, ◌+◌, ◌<◌, ◌≤◌, false, List, [], ◌∷◌, ◌++◌, length, Option, Some, None, refl, sym, ap, ◌∙◌, subst, arith}
use Rattle.std.specs.Prelude.{slice_get, slice_index_or}
use Rattle.std.proofs.lemmas.Option.{same_Some, slice_get-get_or}
use Rattle.cr_base.specs.declared.ids.NodeId.{NodeId}
use Rattle.cr_value.specs.declared.value.Value.{Value}
use Rattle.cr_core.specs.declared.row.Row.{Row}
use Rattle.cr_core.specs.Shape as shape
use Rattle.cr_core.specs.Shape.{Role, role}
use Rattle.cr_core.specs.Standing.{IsArena}
use Rattle.cr_core.specs.Tree.{Contents, IsCore}
use Rattle.cr_meaning.specs.World.{World}
use Rattle.cr_meaning.specs.Term.{Val, literal, tree}
use Rattle.cr_meaning.specs.Redex.{skipped, last_reduced}
use Rattle.cr_stack.specs.declared.around.Around.{Around}
use Rattle.cr_stack.specs.declared.around.Around.TheVariants as a
use Rattle.cr_stack.specs.declared.around.Now.{Now}
use Rattle.cr_stack.specs.declared.around.Now.TheVariants as now
use Rattle.cr_stack.specs.Layers.{place, ready}
use Rattle.cr_stack.specs.Neat.{until, is_choice, Stands, IsTerm, Lacks}
use Rattle.cr_stack.specs.Way.{weight, weight_from, left_by, Leads, Underway, left_ready}
use Rattle.cr_stack.proofs.Table.{reduced_role, has_parts, plain_role}
use Rattle.cr_stack.proofs.Unrolled.{weight_is}
use Rattle.cr_stack.proofs.Moving.{place_more, value_taken, next_stands, ready_first, tree_value, weight_next, weight_less, to_world, arena_of, leads_still, leads_into, leads_out, leads_as}

pub row_is : (rows : List Row) (n : NodeId) (k : Role) (r : Row) (h : Stands rows n k) → slice_get rows n.0 ≡ Some r → h.row ≡ r
row_is rows n k r h e = same_Some h.row r (sym h.stands ∙ e)

-- a part of a row that is reduced before it
pub part_is : (rows : List Row) (n : ℕ) (r : Row) (i : ℕ) (p : NodeId) → IsArena rows → slice_get rows n ≡ Some r → skipped r.form ≤ i → i < until r → slice_get r.parts i ≡ Some p → Stands rows p (reduced_role r.form)
part_is rows n r i p arena e ge lt there =
    let h = (has_parts rows n r arena e).part i ge lt in
    let s : h.it ≡ p = same_Some h.it p (sym h.there ∙ there) in
    subst (λ q. Stands rows q (reduced_role r.form)) s h.stands

-- what the code reads there
pub read_there : (ps ds : List NodeId) (j i : ℕ) (d : NodeId) → ds ≡ ps → i ≡ j → j < length ps → slice_get ps j ≡ Some (slice_index_or ds i d)
read_there ps ds j i d same is lt =
    slice_get-get_or ps j d lt
    ∙ ap (λ xs. Some (slice_index_or xs j d)) (sym same)
    ∙ ap (λ k. Some (slice_index_or ds k d)) (sym is)

module _ (t : Contents) (core : IsCore t) (ks ls : List Around) (n : NodeId) (r : Row) (e : slice_get t.rows n.0 ≡ Some r) where
  pub resume_part : (p : NodeId) (vs : List Value) → Underway t.rows n vs shape.Term → place r vs < until r → slice_get r.parts (place r vs) ≡ Some p → ls ≡ ks ++ a.Part n vs ∷ [] → Leads t ks (λ P. ready P n vs) (left_ready t.rows vs (slice_get t.rows n.0)) ls (now.Node p)
  resume_part p vs h lt there more =
      let s = row_is t.rows n shape.Term r h.at e in
      let plain : is_choice r.form ≡ false = subst (λ x. is_choice x.form ≡ false) s h.plain in
      let left : left_by t.rows vs (slice_get t.rows n.0) ≡ 1 + weight_from t.rows (place r vs + 1) r.parts = ap (left_by t.rows vs) e in
      let most : left_ready t.rows vs (slice_get t.rows n.0) ≡ 2 + weight_from t.rows (place r vs) r.parts = ap (left_ready t.rows vs) e in
      let next = weight_next t.rows r.parts (place r vs) p there in
      leads_into t ks ls (λ P. ready P n vs) (left_ready t.rows vs (slice_get t.rows n.0)) (a.Part n vs) (now.Node p) more
      (λ P w. next_stands P n p vs r (to_world t P w n r e) there)
      (omega (arith, left, most, next))
      (record { at = h.at; plain = h.plain; fewer = subst (λ x. place x vs < until x) (sym s) lt; there = h.there })
      (subst (Stands t.rows p) (plain_role r.form plain) (part_is t.rows n.0 r (place r vs) p core.arena e (omega arith) lt there))
      refl

  pub resume_ready : (vs : List Value) → Underway t.rows n vs shape.Term → until r ≤ place r vs → ls ≡ ks → Leads t ks (λ P. ready P n vs) (left_ready t.rows vs (slice_get t.rows n.0)) ls (now.Ready n vs)
  resume_ready vs h ge still =
      let s = row_is t.rows n shape.Term r h.at e in
      let most : left_ready t.rows vs (slice_get t.rows n.0) ≡ 2 + weight_from t.rows (place r vs) r.parts = ap (left_ready t.rows vs) e in
      let upto = h.upto in
      let over : until h.at.row ≤ place h.at.row vs = subst (λ x. until x ≤ place x vs) (sym s) ge in
      leads_still t ks ls (λ P. ready P n vs) (left_ready t.rows vs (slice_get t.rows n.0)) (now.Ready n vs) still (λ P w. refl)
      (omega (arith, most))
      (record { at = h.at; all = omega (arith, upto, over); there = h.there })

  -- the same by what the code reads
  module _ (vs : List Value) (ds : List NodeId) (i u : ℕ) (h : Underway t.rows n vs shape.Term) (same : ds ≡ r.parts) (is : i ≡ place r vs) (upto : u ≡ last_reduced r.form (length ds)) where
    upto_is : u ≡ until r
    upto_is = upto ∙ ap (λ ps. last_reduced r.form (length ps)) same

    pub resume_step : (d : NodeId) → i < u → ls ≡ ks ++ a.Part n vs ∷ [] → Leads t ks (λ P. ready P n vs) (left_ready t.rows vs (slice_get t.rows n.0)) ls (now.Node (slice_index_or ds i d))
    resume_step d lt more =
        let l = upto_is in
        let few : place r vs < until r = omega (arith, is, l, lt) in
        let there = (has_parts t.rows n.0 r core.arena e).upto in
        resume_part (slice_index_or ds i d) vs h few (read_there r.parts ds (place r vs) i d same is (omega (arith, few, there))) more

    pub resume_end : u ≤ i → ls ≡ ks → Leads t ks (λ P. ready P n vs) (left_ready t.rows vs (slice_get t.rows n.0)) ls (now.Ready n vs)
    resume_end ge still = let l = upto_is in resume_ready vs h (omega (arith, is, l, ge)) still

  -- ---- into a node

  pub enter_value : (v : Value) → ((P : World) → P.texts ≡ t.texts → literal P r.form ≡ Some v) → ls ≡ ks → Leads t ks (λ P. tree P n) (weight t.rows n) ls (now.Value v)
  enter_value v lit still =
      let w = weight_is t.rows core.arena n r e in
      leads_still t ks ls (λ P. tree P n) (weight t.rows n) (now.Value v) still
      (λ P w. sym (tree_value P n r v (arena_of t P core w) (to_world t P w n r e) (lit P w.texts)))
      (omega (arith, w)) tt

  pub enter_parts : (to : Now) → ((P : World) → P.texts ≡ t.texts → literal P r.form ≡ None) → Leads t ks (λ P. ready P n []) (left_ready t.rows [] (slice_get t.rows n.0)) ls to → Leads t ks (λ P. tree P n) (weight t.rows n) ls to
  enter_parts to lit h =
      let w = weight_is t.rows core.arena n r e in
      let most : left_ready t.rows [] (slice_get t.rows n.0) ≡ 2 + weight_from t.rows (place r []) r.parts = ap (left_ready t.rows []) e in
      let few = weight_less t.rows (place r []) r.parts in
      leads_as t ks ls (λ P. ready P n []) (λ P. tree P n) (left_ready t.rows [] (slice_get t.rows n.0)) (weight t.rows n) to
      (λ P w. ready_first P n r (arena_of t P core w) (to_world t P w n r e) (lit P w.texts))
      (omega (arith, w, most, few)) h

  pub enter_parts_by : (js : List Around) (vs : List Value) (to : Now) → js ≡ ks → vs ≡ [] → ((P : World) → P.texts ≡ t.texts → literal P r.form ≡ None) → Leads t js (λ P. ready P n vs) (left_ready t.rows vs (slice_get t.rows n.0)) ls to → Leads t ks (λ P. tree P n) (weight t.rows n) ls to
  enter_parts_by js vs to same none lit h =
      enter_parts to lit
      (subst (λ l. Leads t l (λ P. ready P n []) (left_ready t.rows [] (slice_get t.rows n.0)) ls to) same
      (subst (λ us. Leads t js (λ P. ready P n us) (left_ready t.rows us (slice_get t.rows n.0)) ls to) none h))

  pub underway_first : (h : IsTerm t.rows n) → is_choice r.form ≡ false → Underway t.rows n [] shape.Term
  underway_first h plain =
      let s = row_is t.rows n shape.Term r h e in
      let parts = has_parts t.rows n.0 r core.arena e in
      let from = parts.from in
      record {
        at = h;
        plain = subst (λ x. is_choice x.form ≡ false) (sym s) plain;
        upto = subst (λ x. place x [] ≤ until x) (sym s) (omega (arith, from));
        there = subst (λ x. until x ≤ length x.parts) (sym s) parts.upto;
      }

-- ---- a value more

left_more : (rows : List Row) (vs : List Value) (v : Value) (o : Option Row) → left_ready rows (vs ++ v ∷ []) o ≤ left_by rows vs o + 1
left_more rows vs v None = omega arith
left_more rows vs v (Some r) = let e = ap (λ k. weight_from rows k r.parts) (place_more r vs v) in omega (arith, e)

pub taken : (t : Contents) (ks ls : List Around) (n : NodeId) (vs ws : List Value) (v : Value) (to : Now) → ws ≡ vs ++ v ∷ [] → Leads t ks (λ P. ready P n ws) (left_ready t.rows ws (slice_get t.rows n.0)) ls to → Leads t (ks ++ a.Part n vs ∷ []) (λ P. Val v) 1 ls to
taken t ks ls n vs ws v to is h =
    leads_out t ks ls (a.Part n vs) (λ P. ready P n (vs ++ v ∷ [])) (λ P. Val v) (left_ready t.rows (vs ++ v ∷ []) (slice_get t.rows n.0)) 1 to
    (λ P w. sym (value_taken P n vs v)) (left_more t.rows vs v (slice_get t.rows n.0)) refl
    (subst (λ us. Leads t ks (λ P. ready P n us) (left_ready t.rows us (slice_get t.rows n.0)) ls to) is h)

pub underway_more : (rows : List Row) (n : NodeId) (k : Role) (vs ws : List Value) (v : Value) → ws ≡ vs ++ v ∷ [] → Lacks rows n vs k → Underway rows n ws k
underway_more rows n k vs ws v is h =
    let few = h.fewer in
    let more = place_more h.at.row vs v in
    subst (λ us. Underway rows n us k) (sym is) (record { at = h.at; plain = h.plain; upto = omega (arith, few, more); there = h.there })
