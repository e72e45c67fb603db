-- A sink in memory that takes pieces, has a room, and fails at listed calls.
use Rattle.std.specs.Prelude.{ℕ, ◌-◌, ◌++◌, List, take}
use Rattle.cr_io.specs.Faults.{next_count}

pub record SinkState : Type 0 where
  pub written : List ℕ
  pub room : ℕ
  pub piece : ℕ
  pub failing : List ℕ
  pub calls : ℕ
  pub faults : ℕ

-- The sink after a call that failed: it has taken nothing.
abbrev pub with_failure : SinkState → SinkState
with_failure sink = record sink { calls = next_count sink.calls; faults = next_count sink.faults }

-- The sink after a call that took so many of the bytes.
abbrev pub with_taken : SinkState → ℕ → List ℕ → SinkState
with_taken sink count bytes = record sink { written = sink.written ++ take count bytes; room = sink.room - count; calls = next_count sink.calls }
