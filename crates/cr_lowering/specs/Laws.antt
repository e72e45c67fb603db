-- What laws say of names and locals.
use Rattle.std.specs.Prelude.{◌≡◌, ℕ, List, ◌∷◌, Some, slice_get}
use Rattle.cr_base.specs.declared.ids.NameId.{NameId}
use Rattle.cr_core.specs.declared.form.Form.{Form}
use Rattle.cr_core.specs.declared.form.Form.TheVariants as f
use Rattle.cr_core.specs.declared.form.Local.{Local}
use Rattle.cr_core.specs.declared.form.ScopeId.{ScopeId}
use Rattle.cr_core.specs.declared.row.Row.{Row}
use Rattle.cr_core.specs.declared.scope.Scope.{Scope}
use Rattle.cr_core.specs.declared.scope.Slot.{Slot}
use Rattle.cr_core.specs.Tree.{Contents, local_of, IsLocal}
use Rattle.cr_making.specs.declared.naming.Opened.{Opened}
use Rattle.cr_making.specs.Naming.{State}

-- each local that a row names is one of a scope that is open there, and has a slot of it
abbrev pub LocalsInRange : Contents → Type 0
LocalsInRange t = (n : ℕ) (r : Row) (l : Local) → slice_get t.rows n ≡ Some r → local_of r.form ≡ Some l → IsLocal t r.within.scope l

-- two equal names have one number
abbrev pub NamesOnce : List (List ℕ) → Type 0
NamesOnce names = (i j : ℕ) (name : List ℕ) → slice_get names i ≡ Some name → slice_get names j ≡ Some name → i ≡ j

-- a form, which stands in this scope, assigns slot i of scope k, or is a parameter of that scope with that slot
abbrev pub Tells : Form → ScopeId → ScopeId → ℕ → Type 0
Tells (f.Set l) within k i = (l.scope ≡ k) × (l.slot ≡ i)
Tells (f.Parameter slot restricted) within k i = (within ≡ k) × (slot ≡ i)
Tells other within k i = ⊥

-- some row assigns the slot, or is the parameter with it
pub record IsTold (rs : List Row) (k : ScopeId) (i : ℕ) : Type 0 where
  pub number : ℕ
  pub row : Row
  pub stands : slice_get rs number ≡ Some row
  pub tells : Tells row.form row.within.scope k i

-- each local that bears a name is assigned by some row, or is a parameter
abbrev pub NamedAreTold : Contents → Type 0
NamedAreTold t = (k : ScopeId) (s : Scope) (i : ℕ) (slot : Slot) (name : NameId) → slice_get t.scopes k.0 ≡ Some s → slice_get s.slots i ≡ Some slot → slot.name ≡ Some name → IsTold t.rows k i

-- the local is a slot with this name, among the locals so far of a scope that is open and seen here
pub record IsDeclared (name : NameId) (s : State) (l : Local) : Type 0 where
  pub scope : Opened
  pub stands : slice_get (s.inner ∷ s.around) l.up ≡ Some scope
  pub number : scope.number ≡ l.scope
  pub bears : slice_get scope.slots l.slot ≡ Some (Some name)
