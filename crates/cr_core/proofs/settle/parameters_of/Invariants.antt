use Rattle.std.proofs.Common.{◌≡◌, ◌+◌, ◌≤◌, drop}
use Rattle.cr_core.specs.Tree.{parameters_of}
use Rattle.cr_core.proofs.settle.parameters_of.Given as goal

abbrev pub invariant-loop-part : goal.invariant-loop-part
invariant-loop-part l = (l.count + parameters_of l.rows (drop l.part-index l.parts) ≡ parameters_of l.rows l.parts) × (l.count ≤ l.part-index)
