use Rattle.std.proofs.Common.{◌≡◌, ◌<◌, ℕ, Some}
use Rattle.std.specs.Prelude.{slice_get}
use Rattle.cr_lookup.specs.declared.method.Method.{Method}
use Rattle.cr_lookup.specs.Methods.{Clash}
use Rattle.cr_lookup.proofs.calm.clashes.Given as goal

abbrev pub invariant-loop-i : goal.invariant-loop-i
invariant-loop-i l = (k : ℕ) (m : Method) → k < l.i → slice_get l.methods k ≡ Some m → Clash l.classes m l.later → ⊥
