-- What the tables keep of a core tree, and the programs that have tables.
use Rattle.std.specs.Prelude.{◌≡◌, ℕ, ◌+◌, ◌<◌, Bool, ◌^◌, List, ◌∷◌, [], ◌++◌, map, Option, Some, All, length, slice_get}
use Rattle.std.specs.List.{range_with_len}
use Rattle.cr_base.specs.declared.ids.ClassId.{ClassId}
use Rattle.cr_base.specs.declared.ids.NameId.{NameId}
use Rattle.cr_core.specs.Tree.{Contents}
use Rattle.cr_ancestors.specs.Above.{IsAbove}
use Rattle.cr_lookup.specs.declared.method.Method.{Method}
use Rattle.cr_lookup.specs.declared.method.Place.{Place}
use Rattle.cr_lookup.specs.Methods.{IsBelow, IsCalm}
use Rattle.cr_tables.specs.declared.def.Def.{Def}
use Rattle.cr_names.specs.Names.{class_count, own_names}
use Rattle.cr_tables.specs.Numbers.{class_named, is_class, all_classes}
use Rattle.cr_tables.specs.Hierarchy.{hierarchy, all_ancestors}
use Rattle.cr_tables.specs.Methods.{top_level, defs, all_methods, name_with, initialize}
use Rattle.cr_tables.specs.Choosing.{own_places}

-- ---- programs that have tables

-- two methods of a place with one name and one use of a block take the same
pub record AreTwins (classes : ℕ) (m n : Method) : Type 0 where
  pub name : m.name ≡ n.name
  pub block : m.block ≡ n.block
  pub below : IsBelow classes m n
  pub above : IsBelow classes n m

-- no two do
abbrev pub AreApart : ℕ → List Method → Type 0
AreApart classes methods = (i j : ℕ) (m n : Method) → slice_get methods i ≡ Some m → slice_get methods j ≡ Some n → AreTwins classes m n → i ≡ j

-- No class or module stands above itself, no two methods of a place take the same, and of two that overlap one is the more special.
pub record IsLawful (t : Contents) : Type 0 where
  pub acyclic : (class : ClassId) → ¬ (IsAbove (hierarchy t) class class)
  pub calm : All (IsCalm (class_count t + 1)) (all_methods t)
  pub apart : All (AreApart (class_count t + 1)) (all_methods t)

-- ---- what is kept

-- The places of each class and module, by its number: its own, and the top level last.
abbrev pub all_places : Contents → List (List Place)
all_places t = map (λ (class : ClassId). own_places t class ++ top_level t ∷ []) (all_classes t)

-- for each name, by its number, the class or module that it stands for
abbrev pub all_named : Contents → List (Option ClassId)
all_named t = map (λ (n : ℕ). class_named t (record { 0 = n })) (range_with_len 0 (length t.names))

-- for each class and module, by its number, whether it is a class
abbrev pub all_kinds : Contents → List Bool
all_kinds t = map (is_class t) (all_classes t)

-- The lists that are kept.
pub record Kept : Type 0 where
  pub named : List (Option ClassId)
  pub own : List NameId
  pub kinds : List Bool
  pub lines : List (List ClassId)
  pub places : List (List Place)
  pub methods : List (List Method)
  pub declared : List Def
  pub initializer : Option NameId

-- They are those of a core tree.
pub record AreTables (t : Contents) (kept : Kept) : Type 0 where
  pub named : kept.named ≡ all_named t
  pub own : kept.own ≡ own_names t
  pub kinds : kept.kinds ≡ all_kinds t
  pub lines : kept.lines ≡ all_ancestors t
  pub places : kept.places ≡ all_places t
  pub methods : kept.methods ≡ all_methods t
  pub declared : kept.declared ≡ defs t
  pub initializer : kept.initializer ≡ name_with t initialize
  pub lawful : IsLawful t
  pub few : class_count t + 1 < 2 ^ 32
