-- A type is a set of atoms: a list of their numbers, each once, in ascending order.
use Rattle.std.specs.Prelude.{◌<◌, ◌==◌, nat_lt, List, [], ◌∷◌, if◌then◌else◌, AllPairs, Contains}
use Rattle.cr_base.specs.declared.ids.AtomId.{AtomId}

-- each number is below all later ones
abbrev pub IsAscending : List AtomId → Type 0
IsAscending atoms = AllPairs (λ a b. a.0 < b.0) atoms

-- every atom of the first list is one of the second
abbrev pub IsWithin : List AtomId → List AtomId → Type 0
IsWithin some all = (atom : AtomId) → Contains some atom → Contains all atom

-- the set with this atom among it
abbrev pub with_member : List AtomId → AtomId → List AtomId
with_member [] atom = atom ∷ []
with_member (other ∷ others) atom =
    if nat_lt other.0 atom.0
    then other ∷ with_member others atom
    else (if other.0 == atom.0 then other ∷ others else atom ∷ other ∷ others)

-- the set with all of these atoms among it
abbrev pub joined : List AtomId → List AtomId → List AtomId
joined set [] = set
joined set (atom ∷ atoms) = joined (with_member set atom) atoms
