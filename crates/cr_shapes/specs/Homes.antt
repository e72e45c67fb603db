-- Blocks with which fibers begin, by their scopes.
use Rattle.std.specs.Prelude.{◌≡◌, ℕ, List, Some, slice_get}
use Rattle.cr_core.specs.declared.form.ScopeId.{ScopeId}
use Rattle.cr_core.specs.declared.scope.Scope.{Scope}
use Rattle.cr_core.specs.declared.scope.ScopeKind.TheVariants.{Spawn}

-- scope k is that of a block with which a fiber begins, or of a block in one
pub data IsSpawnedScope (scopes : List Scope) : ℕ → Type 0 where
  itself : (k : ℕ) (scope : Scope) → slice_get scopes k ≡ Some scope → scope.kind ≡ Spawn → IsSpawnedScope scopes k
  inside : (k : ℕ) (scope : Scope) (home : ScopeId) → slice_get scopes k ≡ Some scope → scope.home ≡ Some home → IsSpawnedScope scopes home.0 → IsSpawnedScope scopes k
