use Rattle.std.proofs.Common.{◌≡◌, ◌++◌, List, ℕ, take, drop}
use Rattle.cr_schedule.specs.Trace.{trace}
use Rattle.cr_schedule.specs.Page.{Passes}
use Rattle.cr_schedule.proofs.trace.write_trace.Given as goal

-- What was gathered was written or stands on the page, and for the rest there is room.
abbrev pub invariant-loop-at : goal.invariant-loop-at
invariant-loop-at g l = record {
  passes : Passes (g.R.Sink.written l.initial.sink) (trace (take l.at l.history.entries)) (g.R.Sink.written l.sink) l.page;
  room : (more : List ℕ) → g.R.Sink.fits l.initial.sink (trace l.history.entries ++ more) → g.R.Sink.fits l.sink (l.page ++ (trace (drop l.at l.history.entries) ++ more));
  steady : g.R.Sink.faults l.sink ≡ g.R.Sink.faults l.initial.sink;
}
