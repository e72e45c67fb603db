-- The order of lookup.
use Rattle.std.specs.Prelude.{◌≡◌, ◌≢◌, ◌==◌, Bool, List, [], ◌∷◌, ◌++◌, Some, length, slice_get, AllPairs, if◌then◌else◌}
use Rattle.std.specs.List.{list_any}
use Rattle.cr_base.specs.declared.ids.ClassId.{ClassId}
use Rattle.cr_ancestors.specs.Above.{ups_of}

-- The line of a class or module: itself, and then what stands directly above it, each followed by its own.
mutual
  pub data Line (hierarchy : List (List ClassId)) : ClassId → List ClassId → Type 0 where
    line : (class : ClassId) (above : List ClassId) → Lines hierarchy (ups_of hierarchy class) above → Line hierarchy class (class ∷ above)

  pub data Lines (hierarchy : List (List ClassId)) : List ClassId → List ClassId → Type 0 where
    none : Lines hierarchy [] []
    some : (class : ClassId) (classes its others : List ClassId) → Line hierarchy class its → Lines hierarchy classes others → Lines hierarchy (class ∷ classes) (its ++ others)

-- whether it is listed
abbrev pub has : List ClassId → ClassId → Bool
has classes class = list_any (λ other. other.0 == class.0) classes

-- with this one last, where it is not listed yet
abbrev pub with_one : List ClassId → ClassId → List ClassId
with_one classes class = if has classes class then classes else classes ++ class ∷ []

-- with all of these, each kept where it first stands
abbrev pub kept : List ClassId → List ClassId → List ClassId
kept classes [] = classes
kept classes (class ∷ more) = kept (with_one classes class) more

-- The ancestors of a class or module: its line, each place kept where it first stands.
pub record AreAncestors (hierarchy : List (List ClassId)) (class : ClassId) (ancestors : List ClassId) : Type 0 where
  pub written : List ClassId
  pub line : Line hierarchy class written
  pub once : ancestors ≡ kept [] written

-- the ancestors of each class and module, by its number
pub record AreAll (hierarchy table : List (List ClassId)) : Type 0 where
  pub many : length table ≡ length hierarchy
  pub each : (class : ClassId) (ancestors : List ClassId) → slice_get table class.0 ≡ Some ancestors → AreAncestors hierarchy class ancestors

-- no place is listed twice
abbrev pub IsOnce : List ClassId → Type 0
IsOnce classes = AllPairs (λ one other. one ≢ other) classes
