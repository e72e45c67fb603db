use Rattle.std.proofs.Common.{◌≡◌, take, map}
use Rattle.cr_base.specs.declared.ids.ClassId.{ClassId}
use Rattle.cr_tables.specs.Methods.{place}
use Rattle.cr_tables.proofs.class_tables.places_of.Given as goal

abbrev pub invariant-loop-class : goal.invariant-loop-class
invariant-loop-class l = l.places.items ≡ map (λ (ancestor : ClassId). place ancestor.0) (take l.class-index l.line)
