-- How it is decided what stands above itself.
use Rattle.std.specs.Prelude.{◌≡◌, ℕ, true, Option, Some, None}
use Rattle.cr_base.specs.declared.ids.ClassId.{ClassId}
use Rattle.cr_base.specs.declared.ids.NameId.{NameId}
use Rattle.cr_ancestors.specs.Above.{IsAbove}
use Rattle.cr_core.specs.Tree.{Contents}
use Rattle.cr_names.specs.declared.cycle.Parentage.{Parentage}
use Rattle.cr_names.specs.declared.kind.Kind.TheVariants as k
use Rattle.cr_names.specs.Above.{class_id, hierarchy}
use Rattle.cr_names.specs.Names.{first}

-- this is what stands above the classes and modules of the core tree
pub record IsParentage (t : Contents) (p : Parentage) : Type 0 where
  pub same : p.hierarchy ≡ hierarchy t
  pub acyclic : p.acyclic ≡ true → (class : ClassId) → ¬ IsAbove p.hierarchy class class

-- row n, which declares a class or module of this name, is the first that does, and that stands above itself
abbrev pub IsCyclic : Contents → ℕ → Option NameId → Type 0
IsCyclic t n None = ⊥
IsCyclic t n (Some name) = (first k.Either t name ≡ Some n) × IsAbove (hierarchy t) (class_id name.0) (class_id name.0)
