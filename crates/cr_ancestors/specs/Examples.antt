-- Small hierarchies, for examples.
use Rattle.std.specs.Prelude.{ℕ, List, [], ◌∷◌, map}
use Rattle.cr_base.specs.declared.ids.ClassId.{ClassId}
use Rattle.cr_ancestors.specs.declared.parents.Parents.{Parents}

abbrev pub number : ℕ → ClassId
number n = record { 0 = n }

abbrev pub numbers : List ℕ → List ClassId
numbers ns = map number ns

-- the class at the root
abbrev pub at_root : Parents
at_root = record { modules = []; superclasses = [] }

-- a module that includes these
abbrev pub including : List ClassId → Parents
including modules = record { modules = modules; superclasses = [] }

-- a class with this superclass that includes these modules
abbrev pub below : ℕ → List ClassId → Parents
below superclass modules = record { modules = modules; superclasses = number superclass ∷ [] }
