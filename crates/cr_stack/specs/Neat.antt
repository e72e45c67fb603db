-- Stacks that some reductions lead to: each layer lacks a value, what is ready has all, and each node is one that comes to a value.
use Rattle.std.specs.Prelude.{◌≡◌, ℕ, ◌<◌, ◌≤◌, Bool, true, false, List, [], ◌∷◌, Some, length, slice_get}
use Rattle.cr_base.specs.declared.ids.NodeId.{NodeId}
use Rattle.cr_value.specs.declared.value.Value.{Value}
use Rattle.cr_core.specs.declared.form.Form.{Form}
use Rattle.cr_core.specs.declared.form.Form.TheVariants as f
use Rattle.cr_core.specs.declared.row.Row.{Row}
use Rattle.cr_core.specs.Shape as shape
use Rattle.cr_core.specs.Shape.{Role, role}
use Rattle.cr_meaning.specs.Redex.{last_reduced}
use Rattle.cr_stack.specs.declared.around.Around.{Around}
use Rattle.cr_stack.specs.declared.around.Around.TheVariants as a
use Rattle.cr_stack.specs.declared.around.Now.{Now}
use Rattle.cr_stack.specs.declared.around.Now.TheVariants as now
use Rattle.cr_stack.specs.Layers.{Layers, place}

-- up to which part a row's are reduced before it
abbrev pub until : Row → ℕ
until r = last_reduced r.form (length r.parts)

-- the parts of a choice that are reduced before it are clauses, and those of any other node come to values
abbrev pub is_choice : Form → Bool
is_choice (f.Select otherwise) = true
is_choice other = false

-- a row stands there that is there for this
pub record Stands (rows : List Row) (n : NodeId) (k : Role) : Type 0 where
  pub row : Row
  pub stands : slice_get rows n.0 ≡ Some row
  pub role_is : role row.form ≡ k

-- a node that comes to a value
abbrev pub IsTerm : List Row → NodeId → Type 0
IsTerm rows n = Stands rows n shape.Term

-- so many values the row lacks some
pub record Lacks (rows : List Row) (n : NodeId) (vs : List Value) (k : Role) : Type 0 where
  pub at : Stands rows n k
  pub plain : is_choice at.row.form ≡ false
  pub fewer : place at.row vs < until at.row
  pub there : until at.row ≤ length at.row.parts

-- with so many values the row has all
pub record HasAll (rows : List Row) (n : NodeId) (vs : List Value) (k : Role) : Type 0 where
  pub at : Stands rows n k
  pub all : place at.row vs ≡ until at.row
  pub there : until at.row ≤ length at.row.parts

-- the first of these are clauses that have all their values
abbrev pub HaveAll : List Row → List NodeId → List (List Value) → Type 0
HaveAll rows ns [] = Unit {0}
HaveAll rows [] (vs ∷ vss) = ⊥
HaveAll rows (n ∷ ns) (vs ∷ vss) = HasAll rows n vs shape.Clause × HaveAll rows ns vss

-- a choice whose first clauses have all their values
pub record Chooses (rows : List Row) (n : NodeId) (vss : List (List Value)) : Type 0 where
  pub at : Stands rows n shape.Term
  pub choice : is_choice at.row.form ≡ true
  pub upto : length vss ≤ until at.row
  pub there : until at.row ≤ length at.row.parts
  pub clauses : HaveAll rows at.row.parts vss

-- the next clause lacks some of its values
pub record IsChoosing (rows : List Row) (n : NodeId) (vss : List (List Value)) (vs : List Value) : Type 0 where
  pub chooses : Chooses rows n vss
  pub more : length vss < until chooses.at.row
  pub clause : NodeId
  pub next : slice_get chooses.at.row.parts (length vss) ≡ Some clause
  pub lacks : Lacks rows clause vs shape.Clause

-- each clause has all its values
pub record HasChosen (rows : List Row) (n : NodeId) (vss : List (List Value)) : Type 0 where
  pub chooses : Chooses rows n vss
  pub all : length vss ≡ until chooses.at.row

abbrev pub IsNeatAround : List Row → Around → Type 0
IsNeatAround rows (a.Part n vs) = Lacks rows n vs shape.Term
IsNeatAround rows (a.Choice n vss vs) = IsChoosing rows n vss vs
IsNeatAround rows (a.Turn n) = IsTerm rows n
IsNeatAround rows (a.Frame gives) = Unit {0}
IsNeatAround rows a.Body = Unit {0}

abbrev pub IsNeatNow : List Row → Now → Type 0
IsNeatNow rows (now.Node n) = IsTerm rows n
IsNeatNow rows (now.Value v) = Unit {0}
IsNeatNow rows (now.Ready n vs) = HasAll rows n vs shape.Term
IsNeatNow rows (now.Choice n vss) = HasChosen rows n vss
IsNeatNow rows (now.Sent channel item) = Unit {0}

abbrev pub AreNeat : List Row → List Around → Type 0
AreNeat rows [] = Unit {0}
AreNeat rows (k ∷ ks) = IsNeatAround rows k × AreNeat rows ks

-- every layer is, and the part inside them
pub record IsNeat (rows : List Row) (s : Layers) : Type 0 where
  pub around : AreNeat rows s.around
  pub focus : IsNeatNow rows s.focus
