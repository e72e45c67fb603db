use Rattle.std.proofs.Common.{◌≡◌, ◌≤◌, ◌-◌, [], vec_len}
use Rattle.cr_io.specs.Source.{Takes}
use Rattle.cr_io.proofs.whole.read_through.Given as goal

abbrev pub invariant-loop-bytes : goal.invariant-loop-bytes
invariant-loop-bytes g l = record {
  takes : Takes (g.S.Source.left l.initial.source) [] (g.S.Source.left l.source) l.bytes.items;
  within : vec_len l.bytes ≤ l.limit;
  steady : g.S.Source.faults l.source ≡ g.S.Source.faults l.initial.source;
}

abbrev pub decreases-loop-bytes : goal.decreases-loop-bytes
decreases-loop-bytes g l = l.limit - vec_len l.bytes
