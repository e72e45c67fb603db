-- A core tree whole: its rows with its scopes, names and texts, and what holds of every one.
use Rattle.std.specs.Prelude.{◌≡◌, ℕ, zero, suc, ◌<◌, ◌≤◌, ◌^◌, Bool, true, false, ◌&&◌, ◌||◌, ◌==◌, List, [], ◌∷◌, length, All, Option, Some, None, IfSome, IsNone, unwrap_or, slice_get}
use Rattle.std.specs.List.{list_any}
use Rattle.cr_base.specs.declared.ids.NodeId.{NodeId}
use Rattle.cr_base.specs.declared.ids.NameId.{NameId}
use Rattle.cr_core.specs.declared.form.Form.{Form}
use Rattle.cr_core.specs.declared.form.Form.TheVariants as f
use Rattle.cr_core.specs.declared.form.Local.{Local}
use Rattle.cr_core.specs.declared.form.ScopeId.{ScopeId}
use Rattle.cr_core.specs.declared.form.TextId.{TextId}
use Rattle.cr_core.specs.declared.row.Row.{Row}
use Rattle.cr_core.specs.declared.scope.Scope.{Scope}
use Rattle.cr_core.specs.declared.scope.ScopeKind.{ScopeKind}
use Rattle.cr_core.specs.declared.scope.ScopeKind.TheVariants.{Main, Method, Block, Spawn}
use Rattle.cr_core.specs.declared.scope.Slot.{Slot}
use Rattle.cr_core.specs.Arena.{node_id, Opening, Opens, opening, outermost}
use Rattle.cr_core.specs.Standing.{IsArena}

-- what contracts see of a core tree
pub record Contents : Type 0 where
  pub rows : List Row
  pub scopes : List Scope
  pub names : List (List ℕ)
  pub texts : List (List ℕ)

-- ---- what a form names

abbrev pub names_of : Form → List NameId
names_of (f.Field name) = name ∷ []
names_of (f.SetField name) = name ∷ []
names_of (f.Call name receiver block) = name ∷ []
names_of (f.Atom name) = name ∷ []
names_of (f.Def name scope result written) = name ∷ []
names_of (f.Class name None) = name ∷ []
names_of (f.Class name (Some superclass)) = name ∷ superclass ∷ []
names_of (f.TypeParameter name) = name ∷ []
names_of (f.Module name) = name ∷ []
names_of (f.Include name) = name ∷ []
names_of (f.Declaration name) = name ∷ []
names_of other = []

abbrev pub text_of : Form → Option TextId
text_of (f.Text text) = Some text
text_of other = None

abbrev pub local_of : Form → Option Local
local_of (f.Local local) = Some local
local_of (f.Set local) = Some local
local_of other = None

abbrev pub HasName : Contents → NameId → Type 0
HasName t name = name.0 < length t.names

abbrev pub HasText : Contents → TextId → Type 0
HasText t text = text.0 < length t.texts

-- ---- which scope lies so many scopes outwards

abbrev pub scope_at : List Scope → Option ScopeId → Option Scope
scope_at scopes None = None
scope_at scopes (Some k) = slice_get scopes k.0

abbrev pub home_by : Option Scope → Option ScopeId
home_by None = None
home_by (Some scope) = scope.home

abbrev pub outwards : List Scope → ℕ → Option ScopeId → Option ScopeId
outwards scopes zero from = from
outwards scopes (suc up) from = outwards scopes up (home_by (scope_at scopes from))

-- The local can be named from this scope: its scope lies there outwards, and has the slot.
pub record IsLocal (t : Contents) (from : ScopeId) (local : Local) : Type 0 where
  pub resolved : outwards t.scopes local.up (Some from) ≡ Some local.scope
  pub scope : Scope
  pub stands : slice_get t.scopes local.scope.0 ≡ Some scope
  pub slot : local.slot < length scope.slots

-- ---- the scope that a row opens

abbrev pub form_of : Option Row → Option Form
form_of None = None
form_of (Some row) = Some row.form

abbrev pub form_at : List Row → Option NodeId → Option Form
form_at rows None = None
form_at rows (Some n) = form_of (slice_get rows n.0)

-- of a form that opens a scope, with the form around it
abbrev pub kind_of_block : Form → ScopeKind
kind_of_block (f.Call name receiver block) = Block
kind_of_block around = Spawn

abbrev pub kind_by : Option Form → ScopeKind
kind_by None = Spawn
kind_by (Some around) = kind_of_block around

abbrev pub kind_of : Form → Option Form → ScopeKind
kind_of (f.Program scope) around = Main
kind_of (f.Def name scope result written) around = Method
kind_of block around = kind_by around

-- the block of a call, `new` or `spawn` sees the locals around it, and belongs to that node
abbrev pub home_of : ScopeKind → Row → Option ScopeId
home_of Main row = None
home_of Method row = None
home_of Block row = Some row.within.scope
home_of Spawn row = Some row.within.scope

abbrev pub site_of : ScopeKind → ℕ → Row → NodeId
site_of Main n row = node_id n
site_of Method n row = node_id n
site_of Block n row = unwrap_or row.within.parent (node_id n)
site_of Spawn n row = unwrap_or row.within.parent (node_id n)

abbrev pub last_or : NodeId → List NodeId → NodeId
last_or n [] = n
last_or n (part ∷ parts) = last_or part parts

-- how many parts there are before the first that is no parameter
abbrev pub one_parameter : Option Form → ℕ → ℕ
one_parameter (Some (f.Parameter slot restricted)) more = suc more
one_parameter other more = 0

abbrev pub parameters_of : List Row → List NodeId → ℕ
parameters_of rows [] = 0
parameters_of rows (part ∷ parts) = one_parameter (form_at rows (Some part)) (parameters_of rows parts)

abbrev pub scope_of_kind : ScopeKind → List Row → ℕ → Row → List Slot → Scope
scope_of_kind kind rows n row slots = record {
  kind = kind;
  home = home_of kind row;
  site = site_of kind n row;
  body = last_or (node_id n) row.parts;
  parameters = parameters_of rows row.parts;
  slots = slots;
}

-- the scope that row n opens, with these slots
abbrev pub scope_of : List Row → ℕ → Row → List Slot → Scope
scope_of rows n row slots = scope_of_kind (kind_of row.form (form_at rows row.within.parent)) rows n row slots

-- ---- captured locals

abbrev pub is_spawn_kind : ScopeKind → Bool
is_spawn_kind Spawn = true
is_spawn_kind Block = false
is_spawn_kind Method = false
is_spawn_kind Main = false

abbrev pub is_spawn : Option Scope → Bool
is_spawn None = false
is_spawn (Some scope) = is_spawn_kind scope.kind

-- a way outwards over so many scopes leaves a block that a fiber begins with
abbrev pub leaves_spawn : List Scope → ℕ → Option ScopeId → Bool
leaves_spawn scopes zero from = false
leaves_spawn scopes (suc up) from =
    is_spawn (scope_at scopes from) || leaves_spawn scopes up (home_by (scope_at scopes from))

-- a row, which stands in this scope, names the local of that scope and slot from inside such a block
abbrev pub captures_by : List Scope → ScopeId → ScopeId → ℕ → Option Local → Bool
captures_by scopes from of slot None = false
captures_by scopes from of slot (Some local) =
    (local.scope.0 == of.0) && (local.slot == slot) && leaves_spawn scopes local.up (Some from)

abbrev pub captures : List Scope → ScopeId → ℕ → Row → Bool
captures scopes of slot row = captures_by scopes row.within.scope of slot (local_of row.form)

-- a local is captured where some row does so
abbrev pub is_captured : List Row → List Scope → ScopeId → ℕ → Bool
is_captured rows scopes of slot = list_any (captures scopes of slot) rows

-- ---- what holds of every core tree

-- what a row names and opens is there
pub record IsKnown (t : Contents) (n : ℕ) (r : Row) : Type 0 where
  pub scope : r.within.scope.0 < length t.scopes
  pub names : All (HasName t) (names_of r.form)
  pub text : IfSome (text_of r.form) (HasText t)
  pub local : IfSome (local_of r.form) (IsLocal t r.within.scope)
  pub opens : (k : ScopeId) → opening r.form ≡ Opens k → (s : Scope) × (slice_get t.scopes k.0 ≡ Some s) × (s ≡ scope_of t.rows n r s.slots)
  -- a parameter's slot is its place among the parts
  pub parameters : (i slot : ℕ) (restricted : Bool) (p : NodeId) → slice_get r.parts i ≡ Some p → form_at t.rows (Some p) ≡ Some (f.Parameter slot restricted) → slot ≡ i

-- a scope is opened by a row, stands behind its home, and has its parameters among its slots
pub record IsScope (t : Contents) (k : ℕ) (s : Scope) : Type 0 where
  pub opener : ℕ
  pub row : Row
  pub stands : slice_get t.rows opener ≡ Some row
  pub opened : opening row.form ≡ Opens (record { 0 = k })
  pub home : IfSome s.home (λ home. home.0 < k)
  pub parameters : s.parameters ≤ length s.slots
  pub slot : (i : ℕ) (slot : Slot) → slice_get s.slots i ≡ Some slot → IfSome slot.name (HasName t) × (slot.captured ≡ is_captured t.rows t.scopes (record { 0 = k }) i)

-- the first row is the program, and all others are below it
pub record IsRooted (rs : List Row) : Type 0 where
  pub root : Row
  pub stands : slice_get rs 0 ≡ Some root
  pub program : root.form ≡ f.Program (record { 0 = 0 })
  pub alone : (n : ℕ) (r : Row) → slice_get rs n ≡ Some r → IsNone r.within.parent → n ≡ 0

-- What every floor above begins with.
pub record IsCore (t : Contents) : Type 0 where
  pub arena : IsArena t.rows
  pub rooted : IsRooted t.rows
  pub rows : (n : ℕ) (r : Row) → slice_get t.rows n ≡ Some r → IsKnown t n r
  pub scopes : (k : ℕ) (s : Scope) → slice_get t.scopes k ≡ Some s → IsScope t k s
  pub few_rows : length t.rows ≤ 2 ^ 32
  pub few_scopes : length t.scopes ≤ 2 ^ 32
