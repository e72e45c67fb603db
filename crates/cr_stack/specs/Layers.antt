-- What a stack stands for: its layers put round one another, and inside them the part that is reduced next.
use Rattle.std.specs.Prelude.{◌≡◌, ℕ, zero, suc, ◌+◌, List, [], ◌∷◌, Option, Some, None, length, slice_get, drop}
use Rattle.cr_base.specs.declared.ids.NodeId.{NodeId}
use Rattle.cr_value.specs.declared.value.Value.{Value}
use Rattle.cr_value.specs.declared.value.Value.TheVariants.{Nil}
use Rattle.cr_core.specs.declared.row.Row.{Row}
use Rattle.cr_core.specs.Tree.{Contents}
use Rattle.cr_meaning.specs.World.{World}
use Rattle.cr_meaning.specs.Term.{Term, Terms, Val, Node, Turn, Frame, Body, Sent, none, part, terms_by, tree}
use Rattle.cr_meaning.specs.Redex.{skipped}
use Rattle.cr_stack.specs.declared.around.Around.{Around}
use Rattle.cr_stack.specs.declared.around.Around.TheVariants as a
use Rattle.cr_stack.specs.declared.around.Now.{Now}
use Rattle.cr_stack.specs.declared.around.Now.TheVariants as now

-- What contracts see of a stack: its layers, the innermost last, the part inside them that is reduced next, and how many layers more take no memory.
pub record Layers : Type 0 where
  pub around : List Around
  pub focus : Now
  pub room : ℕ

-- the program of which a world tells is this core tree
pub record IsWorldOf (P : World) (t : Contents) : Type 0 where
  pub rows : P.rows ≡ t.rows
  pub texts : P.texts ≡ t.texts

-- ---- the parts of a node

-- these and then those
abbrev pub join : Terms → Terms → Terms
join none us = us
join (part t ts) us = part t (join ts us)

abbrev pub all_values : List Value → Terms
all_values [] = none
all_values (v ∷ vs) = part (Val v) (all_values vs)

-- the first of these nodes as they stand in the core tree, so many of them, and then these values
abbrev pub given : World → ℕ → List NodeId → List Value → Terms
given P zero ns vs = all_values vs
given P (suc k) [] vs = all_values vs
given P (suc k) (n ∷ ns) vs = part (tree P n) (given P k ns vs)

-- the nodes behind the first so many, as they stand
abbrev pub behind : World → ℕ → List NodeId → Terms
behind P k ns = terms_by (tree P) (drop k ns)

-- how many parts of a row are skipped or have these values
abbrev pub place : Row → List Value → ℕ
place r vs = skipped r.form + length vs

-- ---- a node some of whose parts have values

abbrev pub ready_by : World → NodeId → List Value → Option Row → Term
ready_by P n vs None = Val Nil
ready_by P n vs (Some r) = Node n r.form (join (given P (skipped r.form) r.parts vs) (behind P (place r vs) r.parts))

-- the node whose first parts have these values, and whose others stand as they are
abbrev pub ready : World → NodeId → List Value → Term
ready P n vs = ready_by P n vs (slice_get P.rows n.0)

abbrev pub partly_by : World → NodeId → List Value → Term → Option Row → Term
partly_by P n vs t None = Val Nil
partly_by P n vs t (Some r) = Node n r.form (join (given P (skipped r.form) r.parts vs) (part t (behind P (place r vs + 1) r.parts)))

-- the same with this in place of the next part
abbrev pub partly : World → NodeId → List Value → Term → Term
partly P n vs t = partly_by P n vs t (slice_get P.rows n.0)

-- ---- a choice some of whose clauses have values

-- the first of these clauses with these values, for each its own
abbrev pub clauses_with : World → List NodeId → List (List Value) → Terms
clauses_with P ns [] = none
clauses_with P [] (vs ∷ vss) = none
clauses_with P (n ∷ ns) (vs ∷ vss) = part (ready P n vs) (clauses_with P ns vss)

abbrev pub choice_by : World → NodeId → List (List Value) → Option Row → Term
choice_by P n vss None = Val Nil
choice_by P n vss (Some r) = Node n r.form (join (clauses_with P r.parts vss) (behind P (length vss) r.parts))

-- the choice whose first clauses have these values
abbrev pub choice : World → NodeId → List (List Value) → Term
choice P n vss = choice_by P n vss (slice_get P.rows n.0)

-- the first of these clauses with these values, its next part being this
abbrev pub in_first : World → List NodeId → List Value → Term → Terms
in_first P [] vs t = none
in_first P (n ∷ ns) vs t = part (partly P n vs t) (terms_by (tree P) ns)

abbrev pub choosing_by : World → NodeId → List (List Value) → List Value → Term → Option Row → Term
choosing_by P n vss vs t None = Val Nil
choosing_by P n vss vs t (Some r) = Node n r.form (join (clauses_with P r.parts vss) (in_first P (drop (length vss) r.parts) vs t))

-- the same with these values in the next clause, and this in place of its next part
abbrev pub choosing : World → NodeId → List (List Value) → List Value → Term → Term
choosing P n vss vs t = choosing_by P n vss vs t (slice_get P.rows n.0)

-- ---- a stack

-- a layer round a term
abbrev pub filled : World → Around → Term → Term
filled P (a.Part n vs) t = partly P n vs t
filled P (a.Choice n vss vs) t = choosing P n vss vs t
filled P (a.Turn n) t = Turn (tree P n) t
filled P (a.Frame gives) t = Frame gives t
filled P a.Body t = Body t

-- layers round a term, the first outside
abbrev pub plug : World → List Around → Term → Term
plug P [] t = t
plug P (k ∷ ks) t = filled P k (plug P ks t)

abbrev pub now_of : World → Now → Term
now_of P (now.Node n) = tree P n
now_of P (now.Value v) = Val v
now_of P (now.Ready n vs) = ready P n vs
now_of P (now.Choice n vss) = choice P n vss
now_of P (now.Sent channel item) = Sent channel item

abbrev pub term : World → Layers → Term
term P s = plug P s.around (now_of P s.focus)

-- ---- calls in progress

abbrev pub frame_of : Around → ℕ
frame_of (a.Part n vs) = 0
frame_of (a.Choice n vss vs) = 0
frame_of (a.Turn n) = 0
frame_of (a.Frame gives) = 1
frame_of a.Body = 0

-- how many layers are calls
abbrev pub frame_count : List Around → ℕ
frame_count [] = 0
frame_count (k ∷ ks) = frame_of k + frame_count ks
