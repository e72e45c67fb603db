use Rattle.std.proofs.Common.{◌≡◌, ◌++◌, drop}
use Rattle.cr_names.specs.Names.{parameters_among}
use Rattle.cr_names.proofs.around.parameters_among.Given as goal

abbrev pub invariant-loop-part : goal.invariant-loop-part
invariant-loop-part l = l.names.items ++ parameters_among l.rows (drop l.part-index l.parts) ≡ parameters_among l.rows l.parts
