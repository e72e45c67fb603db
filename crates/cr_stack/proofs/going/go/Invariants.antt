use Rattle.std.proofs.Common.{◌≡◌}
use Rattle.cr_meaning.specs.World.{World}
use Rattle.cr_stack.specs.Layers.{IsWorldOf, plug, now_of, frame_count}
use Rattle.cr_stack.specs.Neat.{AreNeat, IsNeatNow}
use Rattle.cr_stack.specs.Way.{work}
use Rattle.cr_stack.proofs.going.go.Given as goal

abbrev pub invariant-steps : goal.invariant-steps
invariant-steps l =
    record {
      same : (P : World) → IsWorldOf P l.tree → plug P l.around.items (now_of P l.focus) ≡ plug P l.initial.around.items (now_of P l.initial.focus);
      neat : AreNeat l.tree.rows l.around.items;
      focus : IsNeatNow l.tree.rows l.focus;
      count : frame_count l.around.items ≡ frame_count l.initial.around.items;
    }

abbrev pub decreases-steps : goal.decreases-steps
decreases-steps l = work l.tree.rows l.around.items l.focus
