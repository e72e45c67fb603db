use Rattle.std.proofs.Common.{◌∙◌, ◌+◌, List, ℕ, [], ◌++◌, take, drop, subst, sym}
use Rattle.std.proofs.lemmas.List.{append-nil}
use Rattle.cr_schedule.specs.Trace.{trace, ended_line}
use Rattle.cr_schedule.specs.Page.{Passes}
use Rattle.cr_io.proofs.WriteLemmas.{OnErr-any}
use Rattle.cr_schedule.proofs.Sinks.{OnErr-map, Passes-front, Passes-more, line_moves, trace-take-drop, trace-take_more, trace-drop_more}
use Rattle.cr_schedule.proofs.trace.write_trace.Goals as goal

pub make_room-requires : goal.make_room-requires
make_room-requires g c =
    let entries = c.args.history.now.entries in
    let rest = trace (drop c.loop-at.at entries) in
    g.met.R.Sink.front_fits c.loop-at.sink c.loop-at.page (rest ++ []) (c.loop-at.invariant.room [] (rw append-nil c.requires))

pub returns-in_err-make_room-clause-err : goal.returns-in_err-make_room-clause-err
returns-in_err-make_room-clause-err g c =
    let entries = c.args.history.now.entries in
    OnErr-any c.from_residual.result
    (Passes-front _ _ _ (trace (take c.loop-at.at entries)) c.loop-at.page (trace (drop c.loop-at.at entries)) (trace entries) (trace-take-drop entries c.loop-at.at) c.loop-at.invariant.passes c.in_err-make_room.ensures.err)

pub loop-at-preserved : goal.loop-at-preserved
loop-at-preserved g c =
    let entries = c.args.history.now.entries in
    let at : ℕ = c.loop-at.at in
    let was = c.loop-at.invariant in
    let made = c.in_ok-make_room.ensures in
    let line = ended_line c.entry.result in
    let Fits : List ℕ → Type 0 = λ text. g.R.Sink.fits c.make_room.new.sink text in
    record {
      passes = Passes-more _ _ _ (trace (take at entries)) c.loop-at.page c.make_room.new.page c.push_entry.new.self line (trace (take (at + 1) entries)) was.passes made.passes c.push_entry.ensures (trace-take_more entries at c.entry.result c.entry.ensures.entry);
      room = λ more fits.
          subst Fits
          (line_moves c.make_room.new.page c.push_entry.new.self line (trace (drop at entries)) (trace (drop (at + 1) entries)) more c.push_entry.ensures (trace-drop_more entries at c.entry.result c.entry.ensures.entry))
          (made.room (trace (drop at entries) ++ more) (was.room more fits));
      steady = made.steady ∙ was.steady;
    }

pub put_all-requires : goal.put_all-requires
put_all-requires g c =
    let entries = c.args.history.now.entries in
    let rest = trace (drop c.loop-at.at entries) in
    let Fits : List ℕ → Type 0 = λ text. g.R.Sink.fits c.loop-at.sink text in
    subst Fits (sym c.text.ensures) (g.met.R.Sink.front_fits c.loop-at.sink c.loop-at.page (rest ++ []) (c.loop-at.invariant.room [] (rw append-nil c.requires)))

pub returns-clause-err : goal.returns-clause-err
returns-clause-err g c =
    let entries = c.args.history.now.entries in
    let at : ℕ = c.loop-at.at in
    OnErr-map c.put_all.result
    (λ err.
    Passes-front _ _ _ (trace (take at entries)) c.text.result.now (trace (drop at entries)) (trace entries) (trace-take-drop entries at)
    (subst (λ (page : List ℕ). Passes (g.R.Sink.written c.args.sink.now) (trace (take at entries)) (g.R.Sink.written c.loop-at.sink) page) (sym c.text.ensures) c.loop-at.invariant.passes)
    err)
    c.put_all.ensures.err
