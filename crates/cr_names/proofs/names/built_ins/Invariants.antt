use Rattle.std.proofs.Common.{◌≡◌, map, take}
use Rattle.cr_names.specs.Names.{place_of_path}
use Rattle.cr_names.proofs.names.built_ins.Given as goal

abbrev pub invariant-loop-number : goal.invariant-loop-number
invariant-loop-number l = l.table.items ≡ map place_of_path (take l.number l.names)
