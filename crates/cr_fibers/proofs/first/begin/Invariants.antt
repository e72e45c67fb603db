use Rattle.std.proofs.Common.{◌≡◌, ◌++◌, List, length}
use Rattle.std.specs.Prelude.{map, drop}
use Rattle.cr_value.specs.declared.value.Value.{Value}
use Rattle.cr_meaning.specs.Locals.{begun}
use Rattle.cr_fibers.specs.Held.{slot_of}
use Rattle.cr_fibers.specs.Inner.{with_front}
use Rattle.cr_fibers.proofs.first.begin.Given as goal

abbrev pub invariant-loop-name : goal.invariant-loop-name
invariant-loop-name l = record {
  count : length l.slots.items ≡ l.name-index;
  so : (variables : List Value) → length variables ≡ l.before
      → begun l.fiber.0 l.names l.given variables ≡ with_front (map slot_of l.slots.items) (begun l.fiber.0 (drop l.name-index l.names) (drop l.name-index l.given) (variables ++ l.made.items));
}
