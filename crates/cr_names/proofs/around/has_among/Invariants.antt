use Rattle.std.proofs.Common.{◌≡◌, drop}
use Rattle.cr_names.specs.Names.{parameters_among, has_name}
use Rattle.cr_names.proofs.around.has_among.Given as goal

abbrev pub invariant-loop-part : goal.invariant-loop-part
invariant-loop-part l = has_name (parameters_among l.rows (drop l.part-index l.parts)) l.name ≡ has_name (parameters_among l.rows l.parts) l.name
