use Rattle.std.proofs.Common.{◌<◌, ℕ}
use Rattle.cr_lookup.specs.Methods.{ClashesAt}
use Rattle.cr_lookup.proofs.calm.is_calm.Given as goal

abbrev pub invariant-loop-n : goal.invariant-loop-n
invariant-loop-n l = (k : ℕ) → k < l.n → ClashesAt l.classes l.methods k → ⊥
