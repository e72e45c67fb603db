use Rattle.std.proofs.Common.{◌≡◌, length}
use Rattle.cr_meaning.specs.Builtins.{hash_of, hash_from}
use Rattle.cr_heap.proofs.literals.hash_of.Given as goal

abbrev pub invariant-loop-rest : goal.invariant-loop-rest
invariant-loop-rest l = hash_from l.hash l.rest ≡ hash_of l.values

abbrev pub decreases-loop-rest : goal.decreases-loop-rest
decreases-loop-rest l = length l.rest
