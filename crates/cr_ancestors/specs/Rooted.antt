-- Hierarchies whose classes lead up to one root.
use Rattle.std.specs.Prelude.{◌≡◌, ◌≢◌, ◌<◌, Bool, true, false, List, [], ◌∷◌, Some, length, slice_get, Contains}
use Rattle.cr_base.specs.declared.ids.ClassId.{ClassId}
use Rattle.cr_ancestors.specs.declared.parents.Parents.{Parents}
use Rattle.cr_ancestors.specs.Above.{ups}

-- one superclass, which is a class, is named once or more often, and no other is
pub record HasSuperclass (parents : List Parents) (is_class : ClassId → Bool) (superclasses : List ClassId) : Type 0 where
  pub superclass : ClassId
  pub again : List ClassId
  pub named : superclasses ≡ superclass ∷ again
  pub no_other : (other : ClassId) → Contains again other → other ≡ superclass
  pub is_one : is_class superclass ≡ true
  pub within : superclass.0 < length parents

-- Nothing stands above the root. Each other class has one superclass, and a module has none. What is included is a module.
pub record IsRooted (parents : List Parents) (is_class : ClassId → Bool) (root : ClassId) : Type 0 where
  pub root_is_class : is_class root ≡ true
  pub top : (its : Parents) → slice_get parents root.0 ≡ Some its → ups its ≡ []
  pub class_below : (class : ClassId) (its : Parents) → slice_get parents class.0 ≡ Some its → is_class class ≡ true → class ≢ root → HasSuperclass parents is_class its.superclasses
  pub module_alone : (module' : ClassId) (its : Parents) → slice_get parents module'.0 ≡ Some its → is_class module' ≡ false → its.superclasses ≡ []
  pub included : (class module' : ClassId) (its : Parents) → slice_get parents class.0 ≡ Some its → Contains its.modules module' → is_class module' ≡ false
