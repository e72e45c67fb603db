-- The body of a scope is a node that comes to a value.
use Rattle.std.proofs.Common.{◌≡◌, ℕ, suc, true, false, List, [], ◌∷◌, ◌++◌, Some, sym, ap, subst, ◌∙◌}
use Rattle.std.specs.Prelude.{slice_get}
use Rattle.cr_base.specs.declared.ids.NodeId.{NodeId}
use Rattle.cr_core.specs.declared.form.Form.{Form}
use Rattle.cr_core.specs.declared.form.Form.TheVariants as f
use Rattle.cr_core.specs.declared.form.ScopeId.{ScopeId}
use Rattle.cr_core.specs.declared.row.Row.{Row}
use Rattle.cr_core.specs.declared.row.Within.{Within}
use Rattle.cr_core.specs.declared.scope.Scope.{Scope}
use Rattle.cr_core.specs.Arena.{node_id, opening, Opens, inside}
use Rattle.cr_core.specs.Shape.{Role, Term, Union, Fits, portions, one}
use Rattle.cr_core.specs.Standing.{AreParts}
use Rattle.cr_core.specs.Tree.{Contents, IsCore, last_or}
use Rattle.cr_stack.specs.Neat.{IsTerm}

-- the last of these roles is this
abbrev EndsIn : Role → List Role → Type 0
EndsIn k [] = ⊥
EndsIn k (j ∷ []) = j ≡ k
EndsIn k (j ∷ i ∷ ks) = EndsIn k (i ∷ ks)

ends_one : (ks : List Role) → Fits (one Term ∷ []) ks → EndsIn Term ks
ends_one [] h = absurd h
ends_one (j ∷ []) h = h.0
ends_one (j ∷ i ∷ ks) h = absurd h.1

ends_behind : (k : Role) (front rest : List Role) → EndsIn k rest → EndsIn k (front ++ rest)
ends_behind k [] rest h = h
ends_behind k (j ∷ []) [] h = absurd h
ends_behind k (j ∷ []) (i ∷ rest) h = h
ends_behind k (j ∷ i ∷ front) rest h = ends_behind k (i ∷ front) rest h

ends_second : (j : Role) (ks : List Role) → EndsIn Term ks → EndsIn Term (j ∷ ks)
ends_second j ks h = ends_behind Term (j ∷ []) ks h

behind_result : (ks : List Role) → Fits (one Union ∷ one Term ∷ []) ks → EndsIn Term ks
behind_result [] h = absurd h
behind_result (j ∷ ks) h = ends_second j ks (ends_one ks h.1)

-- what opens a scope has its body last
body_role : (form : Form) (k : ScopeId) (ks : List Role) → opening form ≡ Opens k → Fits (portions form) ks → EndsIn Term ks
body_role (f.Program scope) k ks e h = subst (EndsIn Term) (sym h.2) (ends_behind Term h.0 h.1 (ends_one h.1 h.4))
body_role (f.Block scope) k ks e h = subst (EndsIn Term) (sym h.2) (ends_behind Term h.0 h.1 (ends_one h.1 h.4))
body_role (f.Def name scope false written) k ks e h = subst (EndsIn Term) (sym h.2) (ends_behind Term h.0 h.1 (ends_one h.1 h.4))
body_role (f.Def name scope true written) k ks e h = subst (EndsIn Term) (sym h.2) (ends_behind Term h.0 h.1 (behind_result h.1 h.4))
body_role other k ks e h = absurd (cc)

last_stands : (rs : List Row) (w : Within) (low : ℕ) (ps : List NodeId) (ks : List Role) (n : NodeId) → AreParts rs w low ps ks → EndsIn Term ks → IsTerm rs (last_or n ps)
last_stands rs w low [] [] n h e = absurd e
last_stands rs w low [] (k ∷ ks) n h e = absurd h
last_stands rs w low (p ∷ ps) [] n h e = absurd h
last_stands rs w low (p ∷ []) (j ∷ []) n h e = record { row = h.1.row; stands = h.1.stands; role_is = h.1.role_is ∙ e }
last_stands rs w low (p ∷ []) (j ∷ i ∷ ks) n h e = absurd h.2
last_stands rs w low (p ∷ q ∷ ps) (j ∷ []) n h e = absurd h.2
last_stands rs w low (p ∷ q ∷ ps) (j ∷ i ∷ ks) n h e = last_stands rs w (suc p.0) (q ∷ ps) (i ∷ ks) p h.2 e

pub body_is_term : (t : Contents) → IsCore t → (k : ℕ) (s : Scope) → slice_get t.scopes k ≡ Some s → IsTerm t.rows s.body
body_is_term t core k s at =
    let scope = core.scopes k s at in
    let known = core.rows scope.opener scope.row scope.stands in
    let opens = known.opens (record { 0 = k }) scope.opened in
    let same : opens.0 ≡ s = cc in
    let row = core.arena.each scope.opener scope.row scope.stands in
    let body : s.body ≡ last_or (node_id scope.opener) scope.row.parts = ap (λ (of : Scope). of.body) (sym same ∙ opens.2) in
    subst (IsTerm t.rows) (sym body)
    (last_stands t.rows (inside scope.row.form scope.opener scope.row.within) (suc scope.opener) scope.row.parts row.there_for (node_id scope.opener) row.parts
    (body_role scope.row.form (record { 0 = k }) row.there_for scope.opened row.shape))
