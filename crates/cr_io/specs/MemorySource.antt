-- A source in memory that gives pieces and fails at listed calls.
use Rattle.std.specs.Prelude.{ℕ, Bool, List, drop}
use Rattle.cr_io.specs.Faults.{next_count}

pub record SourceState : Type 0 where
  pub left : List ℕ
  pub met_end : Bool
  pub piece : ℕ
  pub failing : List ℕ
  pub calls : ℕ
  pub faults : ℕ

-- The source after a call that failed: it has moved nothing.
abbrev pub with_failure : SourceState → Bool → SourceState
with_failure source met_end = record source { met_end = met_end; calls = next_count source.calls; faults = next_count source.faults }

-- The source after a call that moved so many bytes.
abbrev pub with_moved : SourceState → ℕ → Bool → SourceState
with_moved source count met_end = record source { left = drop count source.left; met_end = met_end; calls = next_count source.calls }
