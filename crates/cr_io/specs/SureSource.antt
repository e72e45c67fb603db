-- A source in memory that never fails.
use Rattle.std.specs.Prelude.{ℕ, Bool, List}

pub record Unread : Type 0 where
  pub left : List ℕ
  pub met_end : Bool
