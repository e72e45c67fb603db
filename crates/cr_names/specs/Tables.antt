-- The tables of names by which code goes.
use Rattle.std.specs.Prelude.{◌≡◌, ℕ, ◌+◌, ◌≤◌, ◌^◌, List, [], ◌∷◌, length, Option, Some, None, slice_get, slice_set, is_some, if◌then◌else◌}
use Rattle.std.specs.Option.{option_flatten}
use Rattle.cr_base.specs.declared.ids.NameId.{NameId}
use Rattle.cr_core.specs.Tree.{Contents}
use Rattle.cr_names.specs.declared.kind.Kind.{Kind}
use Rattle.cr_names.specs.declared.kind.Kind.TheVariants as k
use Rattle.cr_names.specs.Names.{built_in, built_in_count, first, class_around, own_names, own_place}

-- what a table tells of a number
abbrev pub told : List (Option ℕ) → ℕ → Option ℕ
told table n = option_flatten (slice_get table n)

abbrev pub by_name : List (Option ℕ) → NameId → Option ℕ
by_name table name = told table name.0

-- tables by names, and one by rows; the own classes and modules by their names
pub record Naming : Type 0 where
  pub built_in : List (Option ℕ)
  pub classes : List (Option ℕ)
  pub modules : List (Option ℕ)
  pub either : List (Option ℕ)
  pub heirs : List (Option ℕ)
  pub parameters : List (Option ℕ)
  pub around : List (Option ℕ)
  pub own : List NameId
  pub places : List (Option ℕ)

abbrev pub table_of : Naming → Kind → List (Option ℕ)
table_of n k.Class = n.classes
table_of n k.Module = n.modules
table_of n k.Either = n.either
table_of n k.Heir = n.heirs
table_of n k.Parameter = n.parameters

-- These are the names of the core tree.
pub record AreNames (t : Contents) (n : Naming) : Type 0 where
  pub built_in : (name : NameId) → by_name n.built_in name ≡ built_in t name
  pub firsts : (kind : Kind) (name : NameId) → by_name (table_of n kind) name ≡ first kind t name
  pub around : (m : ℕ) → told n.around m ≡ class_around t.rows m
  pub own : n.own ≡ own_names t
  pub places : (name : NameId) → by_name n.places name ≡ own_place t name
  pub few : built_in_count + length (own_names t) ≤ 2 ^ 32

-- ---- how tables are made

-- with this place of a name, where it has none yet
abbrev pub noted : List (Option ℕ) → Option NameId → ℕ → List (Option ℕ)
noted table None place = table
noted table (Some name) place = if is_some (told table name.0) then table else slice_set table name.0 (Some place)

-- from this place on
abbrev pub noted_from : List (Option ℕ) → ℕ → List (Option NameId) → List (Option ℕ)
noted_from table n [] = table
noted_from table n (key ∷ keys) = noted_from (noted table key n) (n + 1) keys
