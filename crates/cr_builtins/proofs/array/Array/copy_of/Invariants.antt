use Rattle.std.proofs.Common.{◌≡◌, take}
use Rattle.cr_builtins.proofs.array.Array.copy_of.Given as goal

abbrev pub invariant-loop-value : goal.invariant-loop-value
invariant-loop-value l = l.copies.items ≡ take l.value-index l.values
