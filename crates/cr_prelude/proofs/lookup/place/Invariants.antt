use Rattle.std.proofs.Common.{◌≡◌, ◌≢◌, ℕ, ◌<◌, map, slice_get, Some}
use Rattle.cr_prelude.specs.Builtins.{line_at}
use Rattle.cr_prelude.proofs.lookup.place.Given as goal

abbrev pub invariant-loop-at : goal.invariant-loop-at
invariant-loop-at l = (k : ℕ) → k < l.at → slice_get (map line_at l.table) k ≢ Some (record { class = l.class; name = l.name; count = l.count })
