-- The order of lookup as a function.
use Rattle.std.specs.Prelude.{ℕ, zero, suc, List, [], ◌∷◌, length, flat_map}
use Rattle.cr_base.specs.declared.ids.ClassId.{ClassId}
use Rattle.cr_ancestors.specs.Above.{ups_of}
use Rattle.cr_ancestors.specs.Line.{kept}

-- A class or module, and then what stands directly above it, each followed by its own: so far upwards.
abbrev pub line_to : List (List ClassId) → ℕ → ClassId → List ClassId
line_to hierarchy zero class = class ∷ []
line_to hierarchy (suc depth) class = class ∷ flat_map (line_to hierarchy depth) (ups_of hierarchy class)

-- Its ancestors: that line, each place kept where it first stands. No way up passes more classes and modules than there are, unless one
-- stands above itself.
abbrev pub ancestors_in : List (List ClassId) → ClassId → List ClassId
ancestors_in hierarchy class = kept [] (line_to hierarchy (length hierarchy) class)
