use Rattle.std.proofs.Common.{◌≡◌, drop, [], ◌∷◌}
use Rattle.cr_ancestors.specs.Making.{joined}
use Rattle.cr_ancestors.proofs.ancestors.joined.Given as goal

abbrev pub invariant-loop-up : goal.invariant-loop-up
invariant-loop-up l = joined l.lists l.list.items (drop l.up-index l.ups) ≡ joined l.lists (l.fn.class ∷ []) l.ups
