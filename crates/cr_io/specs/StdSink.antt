-- A sink over an output of the system. What it writes isn't told.
use Rattle.std.specs.Prelude.{ℕ, Bool}

pub record OutputState : Type 0 where
  pub is_open : Bool
  pub faults : ℕ
