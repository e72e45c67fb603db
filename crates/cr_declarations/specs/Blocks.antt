-- Which methods take a block: those that have a `yield`.
use Rattle.std.specs.Prelude.{◌≡◌, ℕ, Bool, true, false, List, length, Some, None, slice_get, slice_index_or, ◌↔◌}
use Rattle.cr_core.specs.declared.form.Form.TheVariants as f
use Rattle.cr_core.specs.declared.form.ScopeId.{ScopeId}
use Rattle.cr_core.specs.declared.row.Row.{Row}
use Rattle.cr_core.specs.declared.scope.Scope.{Scope}
use Rattle.cr_core.specs.Tree.{Contents}

-- scope m is the last one outwards from scope k: a method's, or the top level's
pub data IsOutermost (scopes : List Scope) : ℕ → ℕ → Type 0 where
  itself : (k : ℕ) (scope : Scope) → slice_get scopes k ≡ Some scope → scope.home ≡ None → IsOutermost scopes k k
  inside : (k m : ℕ) (scope : Scope) (home : ScopeId) → slice_get scopes k ≡ Some scope → scope.home ≡ Some home → IsOutermost scopes home.0 m → IsOutermost scopes k m

-- a `yield` stands in the method whose scope is m, or in a block in it
pub record HasYield (t : Contents) (m : ℕ) : Type 0 where
  pub node : ℕ
  pub row : Row
  pub stands : slice_get t.rows node ≡ Some row
  pub form : row.form ≡ f.Yield
  pub inside : IsOutermost t.scopes row.within.scope.0 m

-- these say so of each scope
pub record SayWhichYield (t : Contents) (flags : List Bool) : Type 0 where
  pub many : length flags ≡ length t.scopes
  pub each : (m : ℕ) → (slice_index_or flags m false ≡ true) ↔ HasYield t m
