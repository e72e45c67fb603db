-- Keys as a table: the number of an instance is the place of its key in the list.
use Rattle.std.specs.Prelude.{◌≡◌, List, ◌++◌}
use Rattle.cr_instances.specs.declared.key.Key.{Key}

-- the first table is the beginning of the second
abbrev pub IsFront : List Key → List Key → Type 0
IsFront front whole = (rest : List Key) × (whole ≡ front ++ rest)
