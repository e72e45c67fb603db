-- A sink in memory that never fails.
use Rattle.std.specs.Prelude.{ℕ, ◌-◌, ◌++◌, List, take}

pub record Written : Type 0 where
  pub written : List ℕ
  pub room : ℕ

-- The sink after a write that took so many of the bytes.
abbrev pub with_front : Written → ℕ → List ℕ → Written
with_front sink count bytes = record { written = sink.written ++ take count bytes; room = sink.room - count }
