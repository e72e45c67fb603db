-- Division towards minus infinity.
use Rattle.std.specs.Prelude.{◌≡◌, ◌⊎◌, ℤ, pos, ◌+ℤ◌, ◌*ℤ◌, ◌≤ℤ◌, ◌<ℤ◌}

-- r has the sign of b or is 0, and is nearer to 0 than b.
abbrev pub IsRest : ℤ → ℤ → Type 0
IsRest b r = ((pos 0 ≤ℤ r) × (r <ℤ b)) ⊎ ((b <ℤ r) × (r ≤ℤ pos 0))

-- q is the quotient of a by b that is rounded towards minus infinity, and r what it leaves.
pub record IsFloorDivision (a b q r : ℤ) : Type 0 where
  pub whole : a ≡ q *ℤ b +ℤ r
  pub rest : IsRest b r

abbrev pub IsFloorQuotient : ℤ → ℤ → ℤ → Type 0
IsFloorQuotient a b q = (r : ℤ) × IsFloorDivision a b q r

abbrev pub IsFloorRemainder : ℤ → ℤ → ℤ → Type 0
IsFloorRemainder a b r = (q : ℤ) × IsFloorDivision a b q r
