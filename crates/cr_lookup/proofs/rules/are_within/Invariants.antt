use Rattle.std.proofs.Common.{◌≡◌, ◌<◌, ℕ, Some}
use Rattle.std.specs.Prelude.{slice_get}
use Rattle.cr_lookup.specs.declared.method.Takes.{Takes}
use Rattle.cr_lookup.specs.Methods.{IsWithin}
use Rattle.cr_lookup.proofs.rules.are_within.Given as goal

abbrev pub invariant-loop-i : goal.invariant-loop-i
invariant-loop-i l = (k : ℕ) (a b : Takes) → k < l.i → slice_get l.first k ≡ Some a → slice_get l.second k ≡ Some b → IsWithin l.classes a b
