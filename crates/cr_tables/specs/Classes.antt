-- What tables keep of the classes and modules of a core tree.
use Rattle.std.specs.Prelude.{◌≡◌, ◌+◌, ◌<◌, ◌^◌, Bool, List, Option}
use Rattle.cr_base.specs.declared.ids.ClassId.{ClassId}
use Rattle.cr_base.specs.declared.ids.NameId.{NameId}
use Rattle.cr_core.specs.Tree.{Contents}
use Rattle.cr_lookup.specs.declared.method.Place.{Place}
use Rattle.cr_names.specs.Names.{class_count, own_names}
use Rattle.cr_tables.specs.Hierarchy.{all_ancestors}
use Rattle.cr_tables.specs.Tables.{all_named, all_kinds, all_places}

-- The lists that are kept.
pub record ClassLists : Type 0 where
  pub named : List (Option ClassId)
  pub own : List NameId
  pub kinds : List Bool
  pub lines : List (List ClassId)
  pub places : List (List Place)

-- They are those of a core tree.
pub record AreClasses (t : Contents) (kept : ClassLists) : Type 0 where
  pub named : kept.named ≡ all_named t
  pub own : kept.own ≡ own_names t
  pub kinds : kept.kinds ≡ all_kinds t
  pub lines : kept.lines ≡ all_ancestors t
  pub places : kept.places ≡ all_places t
  pub few : class_count t + 1 < 2 ^ 32
