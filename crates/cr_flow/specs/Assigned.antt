-- What is assigned on every way.
use Rattle.std.specs.Prelude.{◌≡◌, ◌⊎◌, ℕ, Bool, true, false, ◌&&◌, ◌==◌, nat_lt, Some, slice_get}
use Rattle.cr_core.specs.declared.form.ScopeId.{ScopeId}
use Rattle.cr_core.specs.declared.scope.Scope.{Scope}
use Rattle.cr_core.specs.Tree.{Contents}
use Rattle.cr_flow.specs.declared.variable.Variable.{Variable}
use Rattle.cr_flow.specs.declared.variable.Variable.TheVariants.{Local, Field}
use Rattle.cr_flow.specs.Ways.{Point, IsSetBefore}

-- a parameter of the scope, which is assigned at its start
abbrev pub is_parameter : ScopeId → ℕ → Variable → Bool
is_parameter scope parameters (Local of slot) = (of.0 == scope.0) && nat_lt slot parameters
is_parameter scope parameters (Field name) = false

-- On every way from the start of the scope to this moment the variable was assigned.
abbrev pub IsAssigned : Contents → ScopeId → Variable → Point → Type 0
IsAssigned t scope x p = (s : Scope) → slice_get t.scopes scope.0 ≡ Some s → (is_parameter scope s.parameters x ≡ true) ⊎ IsSetBefore t.rows scope s.body x p
