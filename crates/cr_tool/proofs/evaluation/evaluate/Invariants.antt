use Rattle.std.proofs.Common.{◌≡◌, ◌≤◌, ◌*◌, take}
use Rattle.cr_io.specs.Sink.{Appends}
use Rattle.cr_tool.specs.Program.{sums_of}
use Rattle.cr_tool.specs.Writing.{output_of, turns_of}
use Rattle.cr_tool.proofs.evaluation.evaluate.Given as goal

abbrev pub invariant-loop-line : goal.invariant-loop-line
invariant-loop-line g l =
    let done = sums_of (take l.line-index l.lines) in
    let written = g.K.Sink.written in
    let faults = g.K.Sink.faults in
    record {
      turns_are : l.turns ≡ turns_of done;
      bound : l.turns ≤ 3 * l.line-index;
      writes : Appends (written l.initial.out) (output_of done) (written l.out);
      steady : faults l.out ≡ faults l.initial.out;
    }
