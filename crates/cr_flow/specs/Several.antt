-- What is told of many variables at once.
use Rattle.std.specs.Prelude.{◌≡◌, ◌↔◌, ℕ, Option, Some, List, length, IsTrue, slice_get}
use Rattle.cr_core.specs.declared.form.ScopeId.{ScopeId}
use Rattle.cr_core.specs.Tree.{Contents}
use Rattle.cr_flow.specs.declared.assigned.Unassigned.{Unassigned}
use Rattle.cr_flow.specs.declared.variable.Variable.{Variable}
use Rattle.cr_flow.specs.Ways.{End}
use Rattle.cr_flow.specs.Assigned.{IsAssigned}
use Rattle.cr_flow.specs.Uses.{IsFirstUse}

-- the first use of a variable to which some way comes without an assignment, and whether some comes so to the end
abbrev pub IsUnassigned : Contents → ScopeId → List (Option ℕ) → Variable → Unassigned → Type 0
IsUnassigned t scope ranks x u = IsFirstUse t scope x ranks u.first_use × (IsTrue u.end ↔ ¬ (IsAssigned t scope x End))

-- so of each, as far as they are told
abbrev pub AreTold : Contents → ScopeId → List (Option ℕ) → List Variable → List Unassigned → Type 0
AreTold t scope ranks xs us = (i : ℕ) (x : Variable) (u : Unassigned) → slice_get xs i ≡ Some x → slice_get us i ≡ Some u → IsUnassigned t scope ranks x u

-- of each variable, in their order
pub record AreUnassigned (t : Contents) (scope : ScopeId) (ranks : List (Option ℕ)) (xs : List Variable) (us : List Unassigned) : Type 0 where
  pub many : length us ≡ length xs
  pub each : AreTold t scope ranks xs us
