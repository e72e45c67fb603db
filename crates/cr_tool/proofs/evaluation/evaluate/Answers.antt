use Rattle.std.proofs.Common.{take, arith, ap, ◌∙◌}
use Rattle.cr_tool.specs.Program.{sums_of}
use Rattle.cr_tool.specs.Writing.{turns_of}
use Rattle.cr_tool.proofs.Done.{turns_few, turns_more, output_more, blank_more, puts_more, appends_more, stopped_at, steady_at}
use Rattle.cr_tool.proofs.evaluation.evaluate.Goals as goal

pub loop-line-preserved-in_default : goal.loop-line-preserved-in_default
loop-line-preserved-in_default g c =
    let same = blank_more c.args.lines.now c.loop-line.line-index c.loop-line-test.true c.in_default.is in
    record {
      turns_are = rw same c.loop-line.invariant.turns_are;
      bound = omega arith;
      writes = rw same c.loop-line.invariant.writes;
      steady = c.loop-line.invariant.steady;
    }

pub returns-in-Err-clause-written : goal.returns-in-Err-clause-written
returns-in-Err-clause-written g c =
    let written = g.K.Sink.written in
    stopped_at c.args.lines.now c.loop-line.line-index c.in-Puts.sum c.in-Err.stop (written c.args.out.now) (written c.loop-line.out) (written c.puts.new.out) c.loop-line.turns c.stopped.result c.loop-line-test.true c.in-Puts.is c.loop-line.invariant.turns_are c.loop-line.invariant.writes c.stopped.ensures.stop c.stopped.ensures.turns (λ e. ap written (c.puts.ensures.no_memory (cc (c.in-Err.is, e)))) (λ e. c.puts.ensures.failed (cc (c.in-Err.is, e)))

pub returns-in-Err-clause-steady : goal.returns-in-Err-clause-steady
returns-in-Err-clause-steady g c = λ other.
    let faults = g.K.Sink.faults in
    steady_at c.in-Err.stop c.stopped.result.stop (faults c.args.out.now) (faults c.loop-line.out) (faults c.puts.new.out) c.stopped.ensures.stop c.loop-line.invariant.steady (λ e. ap faults (c.puts.ensures.no_memory (cc (c.in-Err.is, e)))) other

pub loop-line-preserved : goal.loop-line-preserved
loop-line-preserved g c =
    let written = g.K.Sink.written in
    let more = puts_more c.args.lines.now c.loop-line.line-index c.in-Puts.sum c.loop-line-test.true c.in-Puts.is in
    let before = sums_of (take c.loop-line.line-index c.args.lines.now) in
    record {
      turns_are = omega (arith, c.loop-line.invariant.turns_are, ap turns_of more, turns_more before c.in-Puts.sum, c.turns_of-turns.ensures);
      bound = omega (arith, turns_few c.in-Puts.sum, c.turns_of-turns.ensures);
      writes = rw (more, output_more before c.in-Puts.sum) (appends_more (written c.args.out.now) (written c.loop-line.out) (written c.puts.new.out) _ _ c.loop-line.invariant.writes c.in_default-puts.ensures.ok);
      steady = c.in_default-puts.ensures.steady ∙ c.loop-line.invariant.steady;
    }
