-- How the table is kept: the atoms, and beside each its depth.
use Rattle.std.specs.Prelude.{◌≡◌, ℕ, ◌≤◌, ◌^◌, List, length, All}
use Rattle.cr_atoms.specs.declared.atom.Atom.{Atom}
use Rattle.cr_atoms.specs.declared.atoms.TheConstants.{DEEPEST}
use Rattle.cr_atoms.specs.Table.{depths, ArePartsBefore}

pub record IsKept (atoms : List Atom) (kept : List ℕ) : Type 0 where
  pub few : length atoms ≤ 2 ^ 32
  pub deep : kept ≡ depths atoms
  pub within : All (λ depth. depth ≤ DEEPEST) kept
  pub before : ArePartsBefore atoms
