use Rattle.std.proofs.Common.{ℕ, ◌<◌, List, get_or}
use Rattle.cr_lookup.specs.declared.method.Method.{Method}
use Rattle.cr_lookup.specs.Methods.{IsCalm}
use Rattle.cr_lookup.proofs.tests.are_calm.Given as goal

abbrev pub invariant-loop-list : goal.invariant-loop-list
invariant-loop-list l = (k : ℕ) (none : List Method) → k < l.list-index → IsCalm 4 (get_or l.methods k none)
