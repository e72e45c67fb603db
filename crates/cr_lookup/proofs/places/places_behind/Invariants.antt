use Rattle.std.proofs.Common.{◌≡◌, drop}
use Rattle.cr_lookup.specs.Places.{behind}
use Rattle.cr_lookup.proofs.places.places_behind.Given as goal

-- what stands before is passed
abbrev pub invariant-loop-n : goal.invariant-loop-n
invariant-loop-n l = behind l.place l.places ≡ behind l.place (drop l.n l.places)
