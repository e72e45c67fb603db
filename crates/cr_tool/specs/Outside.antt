-- What a command does to the outside: the sources and the sinks that it is lent, before and after it.
use Rattle.std.specs.Prelude.{◌≡◌, ℕ, ◌≤◌, Bool, true, List, [], length, Option}
use Rattle.cr_io.specs.Faults.{Rose}
use Rattle.cr_io.specs.Sink.{Appends, AppendsFront}
use Rattle.cr_io.specs.declared.sink.Sink.{Ghosts as Sink}
use Rattle.cr_io.specs.declared.source.Source.{Ghosts as Source}
use Rattle.cr_syntax.specs.declared.token.TheConstants.{MAX_SOURCE_BYTES}

-- the most bytes of a source
abbrev pub source_limit : ℕ
source_limit = MAX_SOURCE_BYTES

-- A source before and after a call: what was left, where it told that; whether its last read met the end; its faults.
pub record Reading : Type 0 where
  pub left : Option (List ℕ)
  pub met_end : Bool
  pub faults : ℕ
  pub faults' : ℕ

-- A sink before and after a call: what was written, where it tells that, and its faults.
pub record Writing : Type 0 where
  pub written : Option (List ℕ)
  pub written' : Option (List ℕ)
  pub faults : ℕ
  pub faults' : ℕ

-- All that it is lent: the program's source and an old trace, its output and error output, and where a new trace goes.
pub record Outside : Type 0 where
  pub source : Reading
  pub old_trace : Reading
  pub out : Writing
  pub err : Writing
  pub new_trace : Writing

abbrev pub reading : {S : Type 0} → Source S → S → S → Reading
reading source old new = record { left = source.left old; met_end = source.met_end new; faults = source.faults old; faults' = source.faults new }

abbrev pub writing : {K : Type 0} → Sink K → K → K → Writing
writing sink old new = record { written = sink.written old; written' = sink.written new; faults = sink.faults old; faults' = sink.faults new }

-- a read failed
abbrev pub FailsReading : Reading → Type 0
FailsReading source = Rose source.faults source.faults'

-- no read failed
abbrev pub ReadsWell : Reading → Type 0
ReadsWell source = source.faults' ≡ source.faults

-- a write failed
abbrev pub FailsWriting : Writing → Type 0
FailsWriting sink = Rose sink.faults sink.faults'

-- no write failed
abbrev pub WritesWell : Writing → Type 0
WritesWell sink = sink.faults' ≡ sink.faults

-- The sink has its old bytes and then the text. Where it failed, a front of the text.
pub record Writes (sink : Writing) (text : List ℕ) : Type 0 where
  pub whole : (FailsWriting sink → ⊥) → Appends sink.written text sink.written'
  pub front : AppendsFront sink.written text sink.written'

-- Nothing was written, and no write failed.
pub record IsUntouched (sink : Writing) : Type 0 where
  pub no_bytes : Appends sink.written [] sink.written'
  pub no_fault : WritesWell sink

-- The source was read to its end without a fault, and is no longer than the limit.
pub record IsWhole (bytes : List ℕ) (source : Reading) : Type 0 where
  pub met_end : source.met_end ≡ true
  pub short : length bytes ≤ source_limit
  pub no_fault : ReadsWell source
