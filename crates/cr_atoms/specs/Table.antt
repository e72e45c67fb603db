-- Atoms as a table: the number of an atom is its place in the list.
use Rattle.std.specs.Prelude.{◌≡◌, ℕ, ◌+◌, ◌<◌, ◌==◌, max, Bool, false, List, [], ◌∷◌, ◌++◌, length, map, slice_get, slice_index, slice_index_or, filter, not, ◌≢◌, ◌≤◌, Option, All, AllPairs}
use Rattle.std.specs.List.{list_any}
use Rattle.std.specs.Option.{option_map, option_map_or}
use Rattle.cr_base.specs.declared.ids.AtomId.{AtomId}
use Rattle.cr_base.specs.declared.ids.ClassId.{ClassId}
use Rattle.cr_atoms.specs.declared.atom.Atom.{Atom}
use Rattle.cr_atoms.specs.declared.atoms.TheConstants.{DEEPEST}

-- the atom of this class with these type arguments
abbrev pub written : ClassId → List (List AtomId) → Atom
written class args = record { class = class; args = args }

-- the first table is the beginning of the second
abbrev pub IsFront : List Atom → List Atom → Type 0
IsFront front whole = (rest : List Atom) × (whole ≡ front ++ rest)

-- the class of an atom that was made
abbrev pub class_of : List Atom → AtomId → Option ClassId
class_of atoms atom = option_map (λ made. made.class) (slice_get atoms atom.0)

-- the type arguments of an atom that was made, each a set
abbrev pub args_of : List Atom → AtomId → Option (List (List AtomId))
args_of atoms atom = option_map (λ made. made.args) (slice_get atoms atom.0)

-- whether the class of the atom is one of these
abbrev pub is_of_any : List Atom → List ClassId → AtomId → Bool
is_of_any atoms classes atom = option_map_or (λ class. list_any (λ other. other.0 == class.0) classes) (class_of atoms atom) false

-- the atoms of the set whose class is one of these, and those whose class is not this one
abbrev pub met : List Atom → List ClassId → List AtomId → List AtomId
met atoms classes set = filter (is_of_any atoms classes) set

abbrev pub without : List Atom → ClassId → List AtomId → List AtomId
without atoms class set = filter (λ atom. not (is_of_any atoms (class ∷ []) atom)) set

-- the arguments consist of atoms that were made
abbrev pub AreMade : List Atom → List (List AtomId) → Type 0
AreMade atoms args = All (All (λ atom. atom.0 < length atoms)) args

-- the arguments of each atom consist of atoms before it
abbrev pub ArePartsBefore : List Atom → Type 0
ArePartsBefore atoms = (k : ℕ) (d : Atom) → k < length atoms → All (All (λ atom. atom.0 < k)) (slice_index_or atoms k d).args

-- the greatest of the numbers, or 0 of none
abbrev pub greatest : List ℕ → ℕ
greatest [] = 0
greatest (n ∷ ns) = max n (greatest ns)

-- the depth of an atom with these arguments, from the depths of their atoms: 1 without arguments, else 1 more than the
-- greatest of them
abbrev pub depth_over : List ℕ → List (List AtomId) → ℕ
depth_over depths args = 1 + greatest (map (λ set. greatest (map (λ atom. slice_index depths atom.0) set)) args)

-- the depths of the atoms, where these are the depths of those before them
abbrev pub depths_behind : List ℕ → List Atom → List ℕ
depths_behind before [] = before
depths_behind before (atom ∷ atoms) = depths_behind (before ++ depth_over before atom.args ∷ []) atoms

-- the depth of each atom of a table, by its number
abbrev pub depths : List Atom → List ℕ
depths atoms = depths_behind [] atoms

-- the depth of an atom that was made, and of one with arguments of such atoms
abbrev pub depth_of : List Atom → AtomId → ℕ
depth_of atoms atom = slice_index (depths atoms) atom.0

abbrev pub depth_with : List Atom → List (List AtomId) → ℕ
depth_with atoms args = depth_over (depths atoms) args

-- what holds of a table at each moment: no two of its atoms are equal, the arguments of each were made before it, and
-- none is deeper than the limit
pub record IsLawful (atoms : List Atom) : Type 0 where
  pub distinct : AllPairs (λ a b. a ≢ b) atoms
  pub before : ArePartsBefore atoms
  pub shallow : (atom : AtomId) → atom.0 < length atoms → depth_of atoms atom ≤ DEEPEST
