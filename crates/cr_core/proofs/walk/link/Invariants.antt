use Rattle.std.proofs.Common.{◌≡◌, ◌≤◌, ◌^◌, length, drop}
use Rattle.cr_core.specs.Walk as walk
use Rattle.cr_core.proofs.walk.link.Given as goal

abbrev pub invariant-loop-event : goal.invariant-loop-event
invariant-loop-event l =
    (walk.steps (drop l.event-index l.events) (walk.seen l.linking) ≡ walk.steps l.events walk.start)
    × (length l.linking.rows.items ≤ 2 ^ 32)
