-- When the term of a node, of a part and of a stack is a value.
use Rattle.std.proofs.Common.{◌≡◌, ◌<◌, ◌-◌, ℕ, zero, suc, List, [], ◌∷◌, length, refl, sym, ap, subst, ◌∙◌, Option, Some, None, arith}
use Rattle.std.specs.Prelude.{slice_get, is_some, if◌then◌else◌}
use Rattle.std.proofs.lemmas.Option.{slice_get_within, none-some}
use Rattle.cr_base.specs.declared.ids.NodeId.{NodeId}
use Rattle.cr_value.specs.declared.value.Value.{Value}
use Rattle.cr_core.specs.declared.form.Form.{Form}
use Rattle.cr_core.specs.declared.row.Row.{Row}
use Rattle.cr_core.specs.Shape as shape
use Rattle.cr_meaning.specs.World.{World}
use Rattle.cr_meaning.specs.Term.{Term, Terms, literal, node_by, terms_by, tree_by, tree_to, tree}
use Rattle.cr_meaning.specs.State.{Status, Done, status_with}
use Rattle.cr_stack.specs.declared.around.Around.{Around}
use Rattle.cr_stack.specs.declared.around.Around.TheVariants as a
use Rattle.cr_stack.specs.declared.around.Now.{Now}
use Rattle.cr_stack.specs.Layers.{Layers, ready, ready_by, choice, choice_by, partly_by, choosing_by, filled, plug, now_of, term}
use Rattle.cr_stack.specs.Neat.{HasAll, HasChosen, IsNeatAround, AreNeat, IsNeatNow, IsNeat}
use Rattle.cr_stack.specs.Shown.{alone, alone_in}

-- ---- a node

node_status : (v : Option Value) (n : NodeId) (form : Form) (ps : Terms) (status : Status) → status_with (node_by v n form ps) status ≡ (if is_some v then Done else status)
node_status None n form ps status = refl
node_status (Some v) n form ps status = refl

node_at : (P : World) (n : NodeId) (r : Row) (depth : ℕ) (status : Status) → slice_get P.rows n.0 ≡ Some r → status_with (tree_to P (suc depth) n) status ≡ (if is_some (literal P r.form) then Done else status)
node_at P n r depth status e =
    ap (λ (o : Option Row). status_with (tree_by P (tree_to P depth) n o) status) e
    ∙ node_status (literal P r.form) n r.form (terms_by (tree_to P depth) r.parts) status

depth_of : (a b : ℕ) → b < a → (d : ℕ) × (a - b ≡ suc d)
depth_of a b lt = (a - b - 1, omega (arith, lt))

-- a node that is there is a value where its form is a literal
pub value_there : (P : World) (n : NodeId) (r : Row) → slice_get P.rows n.0 ≡ Some r → (status : Status) → status_with (tree P n) status ≡ (if is_some (literal P r.form) then Done else status)
unfolding tree
value_there P n r e status =
    let depth = depth_of (length P.rows) n.0 (slice_get_within P.rows n.0 r e) in
    ap (λ (d : ℕ). status_with (tree_to P d n) status) depth.1 ∙ node_at P n r depth.0 status e

past : (rows : List Row) (k : ℕ) → slice_get rows k ≡ None → length rows - k ≡ 0
past [] k e = omega arith
past (r ∷ rows) zero e = absurd (none-some r (sym e))
past (r ∷ rows) (suc k) e = let rest = past rows k e in omega (arith, rest)

-- one that is not there is a value
pub value_nowhere : (P : World) (n : NodeId) → slice_get P.rows n.0 ≡ None → (status : Status) → status_with (tree P n) status ≡ Done
unfolding tree
value_nowhere P n e status = ap (λ (d : ℕ). status_with (tree_to P d n) status) (past P.rows n.0 e)

-- ---- a part

pub ready_goes_on : (P : World) (n : NodeId) (vs : List Value) → HasAll P.rows n vs shape.Term → (status : Status) → status_with (ready P n vs) status ≡ status
ready_goes_on P n vs h status = ap (λ (o : Option Row). status_with (ready_by P n vs o) status) h.at.stands

pub choice_goes_on : (P : World) (n : NodeId) (vss : List (List Value)) → HasChosen P.rows n vss → (status : Status) → status_with (choice P n vss) status ≡ status
choice_goes_on P n vss h status = ap (λ (o : Option Row). status_with (choice_by P n vss o) status) h.chooses.at.stands

-- ---- a stack

layer_goes_on : (P : World) (k : Around) (t : Term) (status : Status) → IsNeatAround P.rows k → status_with (filled P k t) status ≡ status
layer_goes_on P (a.Part n vs) t status h = ap (λ (o : Option Row). status_with (partly_by P n vs t o) status) h.at.stands
layer_goes_on P (a.Choice n vss vs) t status h = ap (λ (o : Option Row). status_with (choosing_by P n vss vs t o) status) h.chooses.at.stands
layer_goes_on P (a.Turn n) t status h = refl
layer_goes_on P (a.Frame gives) t status h = refl
layer_goes_on P a.Body t status h = refl

layers_go_on : (P : World) (ks : List Around) (n : Now) (status : Status) → AreNeat P.rows ks → alone_in ks n ≡ None → status_with (plug P ks (now_of P n)) status ≡ status
layers_go_on P [] n status h e = absurd (none-some n (sym e))
layers_go_on P (k ∷ ks) n status h e = layer_goes_on P k (plug P ks (now_of P n)) status h.0

-- with a layer round the part
pub stack_goes_on : (P : World) (s : Layers) → IsNeat P.rows s → alone s ≡ None → (status : Status) → status_with (term P s) status ≡ status
stack_goes_on P s h e status = layers_go_on P s.around s.focus status h.around e

some_same : (m n : Now) → Some m ≡ Some n → m ≡ n
some_same m n e = cc

whole_focus : (ks : List Around) (m n : Now) → alone_in ks m ≡ Some n → (ks ≡ []) × (m ≡ n)
whole_focus [] m n e = (refl, some_same m n e)
whole_focus (k ∷ ks) m n e = absurd (none-some n e)

-- with none
pub stack_is_part : (P : World) (s : Layers) (n : Now) → alone s ≡ Some n → term P s ≡ now_of P n
stack_is_part P s n e =
    let h = whole_focus s.around s.focus n e in
    ap (λ (ks : List Around). plug P ks (now_of P s.focus)) h.0 ∙ ap (now_of P) h.1

pub part_is_neat : (rows : List Row) (s : Layers) (n : Now) → alone s ≡ Some n → IsNeat rows s → IsNeatNow rows n
part_is_neat rows s n e h = subst (IsNeatNow rows) (whole_focus s.around s.focus n e).1 h.focus
