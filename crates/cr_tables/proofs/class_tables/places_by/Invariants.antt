use Rattle.std.proofs.Common.{◌≡◌, take, map}
use Rattle.cr_tables.specs.Making.{places_by}
use Rattle.cr_tables.proofs.class_tables.places_by.Given as goal

abbrev pub invariant-loop-number : goal.invariant-loop-number
invariant-loop-number l = l.places.items ≡ map (places_by l.top) (take l.number l.lines)
