-- The way to the redex: how long it is, and what each step of it keeps.
use Rattle.std.specs.Prelude.{◌≡◌, ◌<◌, ◌≤◌, ℕ, zero, suc, ◌+◌, ◌-◌, false, List, [], ◌∷◌, Option, Some, None, length, slice_get, drop}
use Rattle.cr_base.specs.declared.ids.NodeId.{NodeId}
use Rattle.cr_value.specs.declared.value.Value.{Value}
use Rattle.cr_value.specs.declared.value.Value.TheVariants.{Nil}
use Rattle.cr_core.specs.declared.row.Row.{Row}
use Rattle.cr_core.specs.Shape as shape
use Rattle.cr_core.specs.Shape.{Role}
use Rattle.cr_core.specs.Tree.{Contents}
use Rattle.cr_meaning.specs.World.{World}
use Rattle.cr_meaning.specs.Term.{Term, Terms, Val, Node, none, part, terms_by, tree}
use Rattle.cr_stack.specs.declared.around.Around.{Around}
use Rattle.cr_stack.specs.declared.around.Around.TheVariants as a
use Rattle.cr_stack.specs.declared.around.Now.{Now}
use Rattle.cr_stack.specs.declared.around.Now.TheVariants as now
use Rattle.cr_stack.specs.declared.going.Step.{Step}
use Rattle.cr_stack.specs.declared.going.Step.TheVariants as step
use Rattle.cr_stack.specs.Layers.{IsWorldOf, place, join, ready, clauses_with, plug, now_of, frame_count}
use Rattle.cr_stack.specs.Neat.{until, is_choice, Stands, Chooses, AreNeat, IsNeatNow}
use Rattle.cr_stack.specs.Steps.{IsOpenAt}

-- ---- the length

abbrev pub weights_by : (NodeId → ℕ) → List NodeId → ℕ
weights_by g [] = 0
weights_by g (n ∷ ns) = g n + weights_by g ns

abbrev pub weight_by : (NodeId → ℕ) → Option Row → ℕ
weight_by g None = 2
weight_by g (Some r) = 2 + weights_by g r.parts

abbrev pub weight_to : List Row → ℕ → NodeId → ℕ
weight_to rows zero n = 2
weight_to rows (suc depth) n = weight_by (weight_to rows depth) (slice_get rows n.0)

-- two for each node at and below this one
unfoldable pub weight : List Row → NodeId → ℕ
weight rows n = weight_to rows (length rows - n.0) n

-- that of the parts from a place on
abbrev pub weight_from : List Row → ℕ → List NodeId → ℕ
weight_from rows k ns = weights_by (weight rows) (drop k ns)

-- of what is left behind the next part
abbrev pub left_by : List Row → List Value → Option Row → ℕ
left_by rows vs None = 1
left_by rows vs (Some r) = 1 + weight_from rows (place r vs + 1) r.parts

abbrev pub left_in : List Row → List Value → List NodeId → ℕ
left_in rows vs [] = 1
left_in rows vs (n ∷ ns) = left_by rows vs (slice_get rows n.0) + weights_by (weight rows) ns

abbrev pub left_of_choice : List Row → List (List Value) → List Value → Option Row → ℕ
left_of_choice rows vss vs None = 1
left_of_choice rows vss vs (Some r) = left_in rows vs (drop (length vss) r.parts)

abbrev pub left_at : List Row → Around → ℕ
left_at rows (a.Part n vs) = left_by rows vs (slice_get rows n.0)
left_at rows (a.Choice n vss vs) = left_of_choice rows vss vs (slice_get rows n.0)
left_at rows (a.Turn n) = 0
left_at rows (a.Frame gives) = 0
left_at rows a.Body = 0

abbrev pub left_now : List Row → Now → ℕ
left_now rows (now.Node n) = weight rows n
left_now rows (now.Value v) = 1
left_now rows (now.Ready n vs) = 0
left_now rows (now.Choice n vss) = 0
left_now rows (now.Sent channel item) = 0

abbrev pub left_around : List Row → List Around → ℕ
left_around rows [] = 0
left_around rows (k ∷ ks) = left_at rows k + left_around rows ks

abbrev pub work : List Row → List Around → Now → ℕ
work rows ks n = left_around rows ks + left_now rows n

-- ---- a step

-- It leads from layers round this term to these layers round that part: the whole stands for the same, less is left than this, what was
-- neat is neat, and no call began or ended.
pub record Leads (t : Contents) (ks : List Around) (x : World → Term) (most : ℕ) (ls : List Around) (to : Now) : Type 0 where
  pub same : (P : World) → IsWorldOf P t → plug P ls (now_of P to) ≡ plug P ks (x P)
  pub less : work t.rows ls to < left_around t.rows ks + most
  pub neat : AreNeat t.rows ks → AreNeat t.rows ls
  pub focus : IsNeatNow t.rows to
  pub count : frame_count ls ≡ frame_count ks

-- ---- nodes and choices on the way

-- so many values the row has, and it lacks some or none
pub record Underway (rows : List Row) (n : NodeId) (vs : List Value) (k : Role) : Type 0 where
  pub at : Stands rows n k
  pub plain : is_choice at.row.form ≡ false
  pub upto : place at.row vs ≤ until at.row
  pub there : until at.row ≤ length at.row.parts

-- the next clause has so many of its values
pub record ChoiceUnderway (rows : List Row) (n : NodeId) (vss : List (List Value)) (vs : List Value) : Type 0 where
  pub chooses : Chooses rows n vss
  pub more : length vss < until chooses.at.row
  pub clause : NodeId
  pub next : slice_get chooses.at.row.parts (length vss) ≡ Some clause
  pub underway : Underway rows clause vs shape.Clause

-- what is left of a node with these values
abbrev pub left_ready : List Row → List Value → Option Row → ℕ
left_ready rows vs None = 2
left_ready rows vs (Some r) = 2 + weight_from rows (place r vs) r.parts

-- of a choice whose first clauses have these
abbrev pub left_choice : List Row → List (List Value) → Option Row → ℕ
left_choice rows vss None = 1
left_choice rows vss (Some r) = 1 + weight_from rows (length vss) r.parts

abbrev pub left_first : List Row → List Value → List NodeId → ℕ
left_first rows vs [] = 2
left_first rows vs (n ∷ ns) = left_ready rows vs (slice_get rows n.0) + weights_by (weight rows) ns

-- of one whose next clause has these besides
abbrev pub left_clause : List Row → List (List Value) → List Value → Option Row → ℕ
left_clause rows vss vs None = 2
left_clause rows vss vs (Some r) = left_first rows vs (drop (length vss) r.parts)

abbrev pub first_ready : World → List NodeId → List Value → Terms
first_ready P [] vs = none
first_ready P (n ∷ ns) vs = part (ready P n vs) (terms_by (tree P) ns)

abbrev pub choosing_ready_by : World → NodeId → List (List Value) → List Value → Option Row → Term
choosing_ready_by P n vss vs None = Val Nil
choosing_ready_by P n vss vs (Some r) = Node n r.form (join (clauses_with P r.parts vss) (first_ready P (drop (length vss) r.parts) vs))

-- the choice whose first clauses have these values, and the next one these besides
abbrev pub choosing_ready : World → NodeId → List (List Value) → List Value → Term
choosing_ready P n vss vs = choosing_ready_by P n vss vs (slice_get P.rows n.0)

-- what one step leads to, from these layers and this part
abbrev pub StepsTo : Contents → List Around → Now → List Around → Step → Type 0
StepsTo t ks from ls (step.To to) = Leads t ks (λ P. now_of P from) (left_now t.rows from) ls to
StepsTo t ks from ls (step.Open to) = (ls ≡ ks) × (to ≡ from) × IsOpenAt ks from
StepsTo t ks from ls (step.Fails to) = (ls ≡ ks) × (to ≡ from)
