use Rattle.std.proofs.Common.{◌≡◌, ◌++◌, List, ℕ, [], length, take, drop, ◌-◌, subst, arith}
use Rattle.std.proofs.lemmas.List.{take_rest, append-nil}
use Rattle.cr_io.proofs.WriteLemmas.{Appends-append, AppendsFront-append, done_more, OnErr-any}
use Rattle.cr_io.proofs.sink.put_all.Goals as goal

pub returns-in_err-count-clause-err : goal.returns-in_err-count-clause-err
returns-in_err-count-clause-err g c =
    let written = c.loop-rest.invariant.written in
    OnErr-any c.from_residual.result
    (AppendsFront-append _ _ _ written.0 c.loop-rest.rest.now _ written.1 written.2 c.in_err-count.ensures.err)

pub loop-rest-preserved : goal.loop-rest-preserved
loop-rest-preserved g c =
    let rest : List ℕ = c.loop-rest.rest.now in
    let count : ℕ = c.in_ok-count.count in
    let was = c.loop-rest.invariant in
    let wrote = c.in_ok-count.ensures in
    let tail : take (length rest - count) (drop count rest) ≡ drop count rest = take_rest rest count in
    let Fits : List ℕ → Type 0 = λ text. g.K.Sink.fits c.write.new.self text in
    let whole : Fits (drop count rest) = subst Fits (append-nil (drop count rest)) (wrote.room [] (rw append-nil was.fits)) in
    record {
      written = (was.written.0 ++ take count rest, done_more _ was.written.0 rest count was.written.1, Appends-append _ _ _ was.written.0 (take count rest) was.written.2 wrote.appends);
      room = λ more fits. rw tail (wrote.room more (was.room more fits));
      fits = rw tail whole;
      steady = omega (arith, wrote.steady);
    }
