-- When a reader ends: it never gives up, and leaves no more tokens than there were.
use Rattle.std.specs.Prelude.{◌≤◌, ◌<◌, ◌+◌, ℕ, length}
use Rattle.cr_readers.specs.declared.fault.ParseFault.TheVariants.{NoMemory}
use Rattle.cr_readers.specs.Reader.{State, Outcome, Found, Failed, Reader}

-- Of so many tokens at least k are taken, or it is refused; it is no want of turns or of depth.
abbrev pub Leaves : {A : Type 0} → ℕ → Outcome A → ℕ → Type 0
Leaves k (Found x s) left = length s.rest + k ≤ left
Leaves k (Failed NoMemory s) left = ⊥
Leaves k (Failed other s) left = Unit {0}

-- So it is wherever less than n tokens are left.
pub record Steady {A : Type 0} (k n : ℕ) (p : Reader A) : Type 0 where
  pub ends : (s : State) → length s.rest < n → Leaves k (p s) (length s.rest)
