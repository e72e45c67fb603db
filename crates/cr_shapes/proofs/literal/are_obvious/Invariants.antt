use Rattle.std.proofs.Common.{◌≡◌, drop}
use Rattle.std.specs.List.{list_all}
use Rattle.cr_shapes.specs.Obvious.{is_obvious}
use Rattle.cr_shapes.proofs.literal.are_obvious.Given as goal

abbrev pub invariant-loop-entry : goal.invariant-loop-entry
invariant-loop-entry l = list_all (is_obvious l.rows) (drop l.entry-index l.entries) ≡ list_all (is_obvious l.rows) l.entries
