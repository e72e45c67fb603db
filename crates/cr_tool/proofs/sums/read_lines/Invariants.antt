use Rattle.std.proofs.Common.{length}
use Rattle.cr_tool.proofs.Lines.{HasRead}
use Rattle.cr_tool.proofs.sums.read_lines.Given as goal

abbrev pub invariant-loop-rest : goal.invariant-loop-rest
invariant-loop-rest l = HasRead l.source l.lines.items l.rest

abbrev pub decreases-loop-rest : goal.decreases-loop-rest
decreases-loop-rest l = length l.rest
