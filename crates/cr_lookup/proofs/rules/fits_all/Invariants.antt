use Rattle.std.proofs.Common.{◌≡◌, ◌<◌, ℕ, Some, true}
use Rattle.std.specs.Prelude.{slice_get}
use Rattle.cr_base.specs.declared.ids.ClassId.{ClassId}
use Rattle.cr_lookup.specs.declared.method.Takes.{Takes}
use Rattle.cr_lookup.specs.Methods.{fits}
use Rattle.cr_lookup.proofs.rules.fits_all.Given as goal

abbrev pub invariant-loop-i : goal.invariant-loop-i
invariant-loop-i l = (k : ℕ) (takes : Takes) (class : ClassId) → k < l.i → slice_get l.parameters k ≡ Some takes → slice_get l.args k ≡ Some class → fits takes class ≡ true
