use Rattle.std.proofs.Common.{◌≡◌, drop}
use Rattle.cr_core.specs.Tree.{last_or}
use Rattle.cr_core.proofs.settle.last_or.Given as goal

abbrev pub invariant-loop-part : goal.invariant-loop-part
invariant-loop-part l = last_or l.last (drop l.part-index l.parts) ≡ last_or l.fn.at l.parts
