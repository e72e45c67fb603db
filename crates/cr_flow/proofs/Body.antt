-- The body of a scope of a core tree.
use Rattle.std.proofs.Common.{◌≡◌, ℕ, zero, suc, ◌-◌, ◌<◌, Bool, true, false, List, [], ◌∷◌, ◌++◌, length, Option, Some, None, refl, sym, ap, ◌∙◌, subst, arith}
use Rattle.std.specs.Prelude.{slice_get}
use Rattle.std.proofs.lemmas.Option.{same_Some}
use Rattle.cr_base.specs.declared.ids.NodeId.{NodeId}
use Rattle.cr_core.specs.declared.form.Form.{Form}
use Rattle.cr_core.specs.declared.form.Form.TheVariants as f
use Rattle.cr_core.specs.declared.form.ScopeId.{ScopeId}
use Rattle.cr_core.specs.declared.row.Row.{Row}
use Rattle.cr_core.specs.declared.row.Within.{Within}
use Rattle.cr_core.specs.declared.scope.Scope.{Scope}
use Rattle.cr_core.specs.Shape.{Role, Term, Union, Portion, one, portions, where_told, Fits}
use Rattle.cr_core.specs.Arena.{node_id, Opening, Opens, opening, inside_opening, inside}
use Rattle.cr_core.specs.Standing.{AreParts}
use Rattle.cr_core.specs.Tree.{Contents, last_or, scope_of, IsCore}
use Rattle.cr_flow.specs.Control.{last}
use Rattle.cr_flow.specs.Ways.{IsRow, IsLast}
use Rattle.cr_flow.proofs.Parts.{scope_id, scope_same, node_same, last_inside, one_parent}
use Rattle.cr_flow.proofs.Visited.{IsBody}

rest_none : (front rest : List Role) → [] ≡ front ++ rest → rest ≡ []
rest_none [] rest e = sym e
rest_none (k ∷ front) rest e = absurd (cc)

one_fits : (rest : List Role) → rest ≡ [] → Fits (one Term ∷ []) rest → ⊥
one_fits [] e h = h
one_fits (k ∷ rest) e h = absurd (cc)

result_fits : (told : Bool) (rest : List Role) → rest ≡ [] → Fits (where_told told Union ++ one Term ∷ []) rest → ⊥
result_fits false rest e h = one_fits rest e h
result_fits true [] e h = h
result_fits true (k ∷ rest) e h = absurd (cc)

-- what opens a scope has parts
has_parts : (form : Form) (k : ScopeId) → opening form ≡ Opens k → Fits (portions form) [] → ⊥
has_parts (f.Program scope) k o h = one_fits h.1 (rest_none h.0 h.1 h.2) h.4
has_parts (f.Block scope) k o h = one_fits h.1 (rest_none h.0 h.1 h.2) h.4
has_parts (f.Def name scope result written) k o h = result_fits result h.1 (rest_none h.0 h.1 h.2) h.4
has_parts form k o h = absurd (cc)

abbrev IsMade : List NodeId → Type 0
IsMade ps = (p : NodeId) × (more : List NodeId) × (ps ≡ p ∷ more)

parts_some : (form : Form) (k : ScopeId) (rs : List Row) (w : Within) (low : ℕ) (ps : List NodeId) (ks : List Role) → opening form ≡ Opens k → Fits (portions form) ks → AreParts rs w low ps ks → IsMade ps
parts_some form k rs w low (p ∷ ps) ks o s h = (p, ps, refl)
parts_some form k rs w low [] [] o s h = absurd (has_parts form k o s)
parts_some form k rs w low [] (j ∷ ks) o s h = absurd h

at_last : (p : NodeId) (ps : List NodeId) → slice_get (p ∷ ps) (length ps) ≡ Some (last_or p ps)
at_last p [] = refl
at_last p (q ∷ ps) = at_last q ps

last_is : (p : NodeId) (ps : List NodeId) → last (p ∷ ps) ≡ Some (last_or p ps)
last_is p ps = let e : length ps ≡ length (p ∷ ps) - 1 = omega arith in subst (λ (i : ℕ). slice_get (p ∷ ps) i ≡ Some (last_or p ps)) e (at_last p ps)

module _ (t : Contents) (core : IsCore t) where
  opened_last : (n : NodeId) (r : Row) (k : ScopeId) (s : Scope) → IsRow t.rows n r → opening r.form ≡ Opens k → slice_get t.scopes k.0 ≡ Some s → IsLast r s.body
  opened_last n r k s a o e =
      let w = (core.rows n.0 r a).opens k o in
      let h = core.arena.each n.0 r a in
      let some = parts_some r.form k t.rows (inside r.form n.0 r.within) (suc n.0) r.parts h.there_for o h.shape h.parts in
      let same : w.0 ≡ s = same_Some w.0 s (sym w.1 ∙ e) in
      let made : w.0.body ≡ last_or some.0 some.1 = ap (λ (v : Scope). v.body) w.2 ∙ ap (λ (ps : List NodeId). last_or (node_id n.0) ps) some.2 in
      ap last some.2 ∙ last_is some.0 some.1 ∙ ap Some (sym made ∙ ap (λ (v : Scope). v.body) same)

  opened_once : (n m : NodeId) (q s : Row) (k : ScopeId) → IsRow t.rows n q → IsRow t.rows m s → opening q.form ≡ Opens k → opening s.form ≡ Opens k → n ≡ m
  opened_once n m q s k a b o p =
      let w = (core.rows n.0 q a).opens k o in
      one_parent t.rows core.arena n m q s w.0.body (last_inside t.rows core.arena n q w.0.body a (opened_last n q k w.0 a o w.1)) (last_inside t.rows core.arena m s w.0.body b (opened_last m s k w.0 b p w.1))

  pub body_of : (scope : ScopeId) (s : Scope) → slice_get t.scopes scope.0 ≡ Some s → IsBody t.rows scope s.body
  body_of scope s e =
      let k = core.scopes scope.0 s e in
      let o : opening k.row.form ≡ Opens scope = k.opened ∙ ap Opens (scope_same (scope_id scope.0) scope refl) in
      let w = last_inside t.rows core.arena (node_id k.opener) k.row s.body k.stands (opened_last (node_id k.opener) k.row scope s k.stands o e) in
      record {
        row = w.row;
        stands = w.stands;
        free = ap (λ (v : Within). v.turn) w.around ∙ ap (λ (v : Opening). (inside_opening v k.opener k.row.within).turn) o;
        home = ap (λ (v : Within). v.scope) w.around ∙ ap (λ (v : Opening). (inside_opening v k.opener k.row.within).scope) o;
        opener = node_id k.opener;
        opener_row = k.row;
        opener_stands = k.stands;
        opens = o;
        before = w.later;
        once = opened_once;
      }
