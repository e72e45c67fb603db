use Rattle.std.proofs.Common.{◌≡◌, ◌+◌, length, drop}
use Rattle.cr_names.specs.Names.{parameters_among}
use Rattle.cr_names.proofs.around.count_among.Given as goal

abbrev pub invariant-loop-part : goal.invariant-loop-part
invariant-loop-part l =
    (l.count ≡ l.part-index) × (l.count + length (parameters_among l.rows (drop l.part-index l.parts)) ≡ length (parameters_among l.rows l.parts))
