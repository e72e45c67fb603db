use Rattle.std.proofs.Common.{◌≡◌, ◌<◌, ℕ, Some}
use Rattle.std.specs.Prelude.{slice_get}
use Rattle.cr_lookup.specs.declared.method.Place.{Place}
use Rattle.cr_lookup.specs.Choice.{HasNone, methods_of}
use Rattle.cr_lookup.proofs.choice.choose.Given as goal

abbrev pub invariant-loop-k : goal.invariant-loop-k
invariant-loop-k l = (k : ℕ) (place : Place) → k < l.k → slice_get l.places k ≡ Some place → HasNone (methods_of l.methods place) l.sought l.args
