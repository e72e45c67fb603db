-- Scopes that are as the rows which open them tell.
use Rattle.std.specs.Prelude.{◌≡◌, ℕ, List, length, Some, slice_get}
use Rattle.cr_core.specs.declared.form.ScopeId.{ScopeId}
use Rattle.cr_core.specs.declared.row.Row.{Row}
use Rattle.cr_core.specs.declared.scope.Scope.{Scope}
use Rattle.cr_core.specs.Arena.{Opens, opening}
use Rattle.cr_core.specs.Tree.{scope_of}

-- no two rows open one scope
pub record OpensOnce (rs : List Row) : Type 0 where
  pub once : (m n : ℕ) (q r : Row) (k : ScopeId) → slice_get rs m ≡ Some q → slice_get rs n ≡ Some r → opening q.form ≡ Opens k → opening r.form ≡ Opens k → m ≡ n

-- Each scope that a row opens is now the one that it opens, with the slots that it had; any other is as it was.
pub record AreSettled (rs : List Row) (old new : List Scope) : Type 0 where
  pub many : length new ≡ length old
  pub opened : (n : ℕ) (r : Row) (k : ScopeId) (s : Scope) → slice_get rs n ≡ Some r → opening r.form ≡ Opens k → slice_get old k.0 ≡ Some s → slice_get new k.0 ≡ Some (scope_of rs n r s.slots)
  pub others : (k : ScopeId) → ((n : ℕ) (r : Row) → slice_get rs n ≡ Some r → opening r.form ≡ Opens k → ⊥) → slice_get new k.0 ≡ slice_get old k.0
