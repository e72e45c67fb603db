-- The offences of a program that the shapes of its rows alone decide: one line a rule.
use Rattle.std.specs.Prelude.{◌≡◌, ℕ, ◌≤◌, ◌⊎◌, true, false, [], Option, Some, None, slice_get, Contains}
use Rattle.cr_base.specs.declared.ids.NameId.{NameId}
use Rattle.cr_base.specs.declared.ids.NodeId.{NodeId}
use Rattle.cr_core.specs.declared.form.Form.TheVariants as f
use Rattle.cr_core.specs.declared.row.Row.{Row}
use Rattle.cr_core.specs.Arena.{node_id}
use Rattle.cr_core.specs.Order.{stands_before}
use Rattle.cr_core.specs.Tree.{Contents}
use Rattle.cr_shapes.specs.declared.offence.What.{What}
use Rattle.cr_shapes.specs.declared.offence.What.TheVariants.{NeedType, YieldInSpawn, TypeTooDeep}
use Rattle.cr_shapes.specs.declared.offence.Offence.{Offence}
use Rattle.cr_shapes.specs.Obvious.{is_obvious, is_untyped}
use Rattle.cr_shapes.specs.Spawned.{IsSpawned}
use Rattle.cr_shapes.specs.Written.{is_argument, is_deeper, deepest}

abbrev pub IsRow : Contents → ℕ → Row → Type 0
IsRow t n row = slice_get t.rows n ≡ Some row

-- an array or hash literal without `of`
pub record IsUntyped (t : Contents) (n : ℕ) (row : Row) : Type 0 where
  pub stands : IsRow t n row
  pub form : is_untyped row.form ≡ true

-- The node n commits this offence.
pub data IsOffence (t : Contents) (n : ℕ) : What → Type 0 where
  -- Type needed: an array or hash literal without `of` has no entry,
  no_entry : (row : Row) → IsUntyped t n row → row.parts ≡ [] → IsOffence t n NeedType
  -- or an element, a key or a value that is not obvious.
  not_obvious : (row : Row) (entry : NodeId) → IsUntyped t n row → Contains row.parts entry → is_obvious t.rows entry ≡ false → IsOffence t n NeedType
  -- Yield in a spawned block: a `yield` stands in a block of `spawn` or of `Isolated.new`, at any depth.
  spawned : (row : Row) → IsRow t n row → row.form ≡ f.Yield → IsSpawned t.rows n → IsOffence t n YieldInSpawn
  -- Type too deep: a written type is deeper than one may be; its outermost atom.
  deep : (row : Row) (name : NameId) → IsRow t n row → row.form ≡ f.Atom name → is_argument t.rows row ≡ false → is_deeper t.rows deepest (node_id n) ≡ true → IsOffence t n TypeTooDeep

-- ---- the least offence

abbrev pub code : What → ℕ
code NeedType = 6
code YieldInSpawn = 8
code TypeTooDeep = 9

-- An offence before which none stands: by the order of the text, and at one node by code.
pub record IsLeast (t : Contents) (o : Offence) : Type 0 where
  pub there : IsOffence t o.node.0 o.what
  pub least : (m : ℕ) (what : What) → IsOffence t m what → (stands_before t.rows o.node (node_id m) ≡ true) ⊎ ((m ≡ o.node.0) × (code o.what ≤ code what))

abbrev pub HasNone : Contents → Type 0
HasNone t = (n : ℕ) (what : What) → ¬ (IsOffence t n what)

-- the answer: the least offence, or that there is none
abbrev pub IsFirst : Contents → Option Offence → Type 0
IsFirst t None = HasNone t
IsFirst t (Some offence) = IsLeast t offence
