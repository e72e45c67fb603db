-- How scopes are settled: row by row.
use Rattle.std.specs.Prelude.{ℕ, suc, List, [], ◌∷◌, Option, Some, None, slice_get, slice_set}
use Rattle.cr_core.specs.declared.form.Form.{Form}
use Rattle.cr_core.specs.declared.form.ScopeId.{ScopeId}
use Rattle.cr_core.specs.declared.row.Row.{Row}
use Rattle.cr_core.specs.declared.scope.Scope.{Scope}
use Rattle.cr_core.specs.Arena.{Opening, Opens, Turns, Plain, opening}
use Rattle.cr_core.specs.Tree.{scope_of}

abbrev pub opened_scope : Opening → Option ScopeId
opened_scope (Opens scope) = Some scope
opened_scope Turns = None
opened_scope Plain = None

abbrev pub with_scope : List Row → ℕ → Row → ScopeId → List Scope → Option Scope → List Scope
with_scope rs n r k ss None = ss
with_scope rs n r k ss (Some s) = slice_set ss k.0 (scope_of rs n r s.slots)

abbrev pub settled_at : List Row → ℕ → Row → List Scope → Option ScopeId → List Scope
settled_at rs n r ss None = ss
settled_at rs n r ss (Some k) = with_scope rs n r k ss (slice_get ss k.0)

-- from row n on
abbrev pub settled_from : List Row → ℕ → List Row → List Scope → List Scope
settled_from rs n [] ss = ss
settled_from rs n (r ∷ more) ss = settled_from rs (suc n) more (settled_at rs n r ss (opened_scope (opening r.form)))
