-- A source over an input of the system. What it reads isn't told.
use Rattle.std.specs.Prelude.{ℕ, Bool}

pub record InputState : Type 0 where
  pub is_open : Bool
  pub met_end : Bool
  pub faults : ℕ
