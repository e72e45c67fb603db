-- A page of text that goes to a sink.
use Rattle.std.specs.Prelude.{◌≡◌, ℕ, List, ◌++◌, Option}
use Rattle.cr_io.specs.Sink.{Appends}

-- A front of the page was written, and the rest stands on it still.
abbrev pub Passes : Option (List ℕ) → List ℕ → Option (List ℕ) → List ℕ → Type 0
Passes written page written' page' = (done : List ℕ) × (page ≡ done ++ page') × Appends written done written'
