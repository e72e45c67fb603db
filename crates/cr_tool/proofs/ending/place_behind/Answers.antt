use Rattle.std.proofs.Common.{arith}
use Rattle.cr_tool.proofs.Places.{line_feed_more, other_more}
use Rattle.cr_tool.proofs.ending.place_behind.Goals as goal
use Rattle.cr_tool.proofs.ending.place_behind.Goals.{then-byte-eq10, else-byte-eq10}

pub loop-byte-preserved : goal.loop-byte-preserved
loop-byte-preserved c =
    let text = c.args.bytes.now in
    elim c.if-byte-eq10.branch [
      | then-byte-eq10 w ↦ record {
        is = line_feed_more text c.loop-byte.byte-index _ _ _ _ c.loop-byte-test.true c.loop-byte.invariant.is w.if-byte-eq10.true w.line-is w.column-is;
        line_small = omega (arith, w.line-is);
        column_small = omega (arith, w.column-is);
      }
      | else-byte-eq10 w ↦ record {
        is = other_more text c.loop-byte.byte-index _ _ _ _ c.loop-byte-test.true c.loop-byte.invariant.is w.if-byte-eq10.false w.line-is w.column-is;
        line_small = omega (arith, w.line-is);
        column_small = omega (arith, w.column-is);
      }
    ]
