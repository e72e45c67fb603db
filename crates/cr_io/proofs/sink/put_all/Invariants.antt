use Rattle.std.proofs.Common.{◌≡◌, ◌++◌, List, ℕ, length}
use Rattle.cr_io.specs.Sink.{Appends}
use Rattle.cr_io.proofs.sink.put_all.Given as goal

-- What is done was written, and the rest is still to be.
abbrev pub invariant-loop-rest : goal.invariant-loop-rest
invariant-loop-rest g l = record {
  written : (done : List ℕ) × (l.bytes ≡ done ++ l.rest) × Appends (g.K.Sink.written l.initial.sink) done (g.K.Sink.written l.sink);
  room : (more : List ℕ) → g.K.Sink.fits l.initial.sink (l.bytes ++ more) → g.K.Sink.fits l.sink (l.rest ++ more);
  fits : g.K.Sink.fits l.sink l.rest;
  steady : g.K.Sink.faults l.sink ≡ g.K.Sink.faults l.initial.sink;
}

abbrev pub decreases-loop-rest : goal.decreases-loop-rest
decreases-loop-rest g l = length l.rest
