-- The captured locals of a scope.
use Rattle.std.specs.Prelude.{◌≡◌, ℕ, zero, suc, Bool, List, [], ◌∷◌, length, Some, slice_get, if◌then◌else◌}
use Rattle.cr_core.specs.declared.form.ScopeId.{ScopeId}
use Rattle.cr_core.specs.declared.scope.Scope.{Scope}
use Rattle.cr_core.specs.declared.scope.Slot.{Slot}
use Rattle.cr_core.specs.Tree.{Contents, is_captured}

-- of so many numbers from this one on, those for which the test holds, in order
abbrev pub numbers : (ℕ → Bool) → ℕ → ℕ → List ℕ
numbers test n zero = []
numbers test n (suc many) = if test n then n ∷ numbers test (suc n) many else numbers test (suc n) many

-- These are the slots of the scope whose locals some row names from inside a block that a fiber begins with, each once, in order.
abbrev pub AreCaptured : Contents → ScopeId → List ℕ → Type 0
AreCaptured t scope slots = (s : Scope) → slice_get t.scopes scope.0 ≡ Some s → slots ≡ numbers (is_captured t.rows t.scopes scope) 0 (length s.slots)

-- the flagged slots, where the first has this number
abbrev pub flagged : ℕ → List Slot → List ℕ
flagged n [] = []
flagged n (slot ∷ slots) = if slot.captured then n ∷ flagged (suc n) slots else flagged (suc n) slots
