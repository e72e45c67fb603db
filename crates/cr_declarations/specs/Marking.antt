-- Flags of scopes while they are set.
use Rattle.std.specs.Prelude.{ℕ, Bool, true, false, List, [], ◌∷◌, ◌≡◌, Some, unwrap_or, slice_get, slice_set, if◌then◌else◌}
use Rattle.cr_core.specs.declared.form.Form.{Form}
use Rattle.cr_core.specs.declared.form.Form.TheVariants as f
use Rattle.cr_core.specs.declared.form.ScopeId.{ScopeId}
use Rattle.cr_core.specs.declared.row.Row.{Row}
use Rattle.cr_core.specs.declared.scope.Scope.{Scope}
use Rattle.cr_declarations.specs.Blocks.{IsOutermost}

-- these are the outermost scopes, as far as the list goes
abbrev pub AreOutermost : List Scope → List ScopeId → Type 0
AreOutermost scopes list = (k : ℕ) (m : ScopeId) → slice_get list k ≡ Some m → IsOutermost scopes k m.0

abbrev pub is_yield : Form → Bool
is_yield f.Yield = true
is_yield form = false

abbrev pub no_scope : ScopeId
no_scope = record { 0 = 0 }

abbrev pub outermost_of : List ScopeId → ScopeId → ScopeId
outermost_of list scope = unwrap_or (slice_get list scope.0) no_scope

-- the flags, with that of the row's method set where the row is a `yield`
abbrev pub marked : List ScopeId → List Bool → Row → List Bool
marked list flags row = if is_yield row.form then slice_set flags (outermost_of list row.within.scope).0 true else flags

abbrev pub marked_all : List ScopeId → List Bool → List Row → List Bool
marked_all list flags [] = flags
marked_all list flags (row ∷ rows) = marked_all list (marked list flags row) rows
