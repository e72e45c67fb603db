use Rattle.std.proofs.Common.{◌<◌, ◌↔◌, length}
use Rattle.std.specs.Prelude.{IfSome}
use Rattle.cr_shapes.specs.Homes.{IsSpawnedScope}
use Rattle.cr_shapes.proofs.Outwards.{IsSpawnedFrom, distance}
use Rattle.cr_shapes.proofs.spawned.is_spawned.Given as goal

abbrev pub invariant-outwards : goal.invariant-outwards
invariant-outwards l = IfSome l.at (λ k. k.0 < length l.core.scopes) × (IsSpawnedFrom l.core.scopes l.at ↔ IsSpawnedScope l.core.scopes l.fn.scope.0)

abbrev pub decreases-outwards : goal.decreases-outwards
decreases-outwards l = distance l.at
