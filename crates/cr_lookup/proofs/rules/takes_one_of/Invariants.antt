use Rattle.std.proofs.Common.{◌≡◌, ◌<◌, ℕ, true, Some}
use Rattle.std.specs.Prelude.{slice_get}
use Rattle.cr_base.specs.declared.ids.ClassId.{ClassId}
use Rattle.cr_lookup.specs.Methods.{fits}
use Rattle.cr_lookup.proofs.rules.takes_one_of.Given as goal

abbrev pub invariant-loop-class : goal.invariant-loop-class
invariant-loop-class l = (k : ℕ) (class : ClassId) → k < l.class-index → slice_get l.list k ≡ Some class → class.0 < l.classes → fits l.takes class ≡ true → ⊥
