-- How captured locals are marked: row by row.
use Rattle.std.specs.Prelude.{ℕ, List, [], ◌∷◌, Bool, true, false, Option, Some, None, slice_get, slice_set}
use Rattle.cr_core.specs.declared.form.Local.{Local}
use Rattle.cr_core.specs.declared.form.ScopeId.{ScopeId}
use Rattle.cr_core.specs.declared.row.Row.{Row}
use Rattle.cr_core.specs.declared.scope.Scope.{Scope}
use Rattle.cr_core.specs.declared.scope.Slot.{Slot}
use Rattle.cr_core.specs.Tree.{local_of, leaves_spawn}

abbrev pub changed_by : {A : Type 0} → (A → A) → ℕ → List A → Option A → List A
changed_by h i xs None = xs
changed_by h i xs (Some x) = slice_set xs i (h x)

-- the list with element i changed, where it has one
abbrev pub changed : {A : Type 0} → (A → A) → ℕ → List A → List A
changed h i xs = changed_by h i xs (slice_get xs i)

abbrev pub marked_slot : Slot → Slot
marked_slot slot = record { name = slot.name; captured = true }

abbrev pub marked_scope : ℕ → Scope → Scope
marked_scope i s = record { kind = s.kind; home = s.home; site = s.site; body = s.body; parameters = s.parameters; slots = changed marked_slot i s.slots }

-- the local is captured
abbrev pub marked : Local → List Scope → List Scope
marked l scopes = changed (marked_scope l.slot) l.scope.0 scopes

abbrev pub marked_if : Bool → Local → List Scope → List Scope
marked_if true l scopes = marked l scopes
marked_if false l scopes = scopes

abbrev pub marked_by : Option Local → ScopeId → List Scope → List Scope
marked_by None from scopes = scopes
marked_by (Some l) from scopes = marked_if (leaves_spawn scopes l.up (Some from)) l scopes

-- what a row captures
abbrev pub marked_at : Row → List Scope → List Scope
marked_at r scopes = marked_by (local_of r.form) r.within.scope scopes

abbrev pub marked_from : List Row → List Scope → List Scope
marked_from [] scopes = scopes
marked_from (r ∷ rs) scopes = marked_from rs (marked_at r scopes)
