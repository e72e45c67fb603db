use Rattle.std.proofs.Common.{◌≡◌, drop}
use Rattle.cr_lookup.specs.Places.{first_with}
use Rattle.cr_lookup.proofs.places.first_place_with.Given as goal

-- what stands before is passed
abbrev pub invariant-loop-n : goal.invariant-loop-n
invariant-loop-n l = first_with l.methods l.name l.places ≡ first_with l.methods l.name (drop l.n l.places)
