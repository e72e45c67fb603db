-- Names as a list of distinct texts.
use Rattle.std.specs.Prelude.{ℕ, if◌then◌else◌, List, [], ◌∷◌, ◌++◌}
use Rattle.std.specs.List.{list_any, position_or_len}
use Rattle.std.specs.Str.{bytes_eq}

-- where the text stands, or else where the next name goes
abbrev pub name_place : List (List ℕ) → List ℕ → ℕ
name_place names text = position_or_len (bytes_eq text) names

-- the names with this text among them: a new one goes last
abbrev pub with_name : List (List ℕ) → List ℕ → List (List ℕ)
with_name names text = if list_any (bytes_eq text) names then names else names ++ text ∷ []
