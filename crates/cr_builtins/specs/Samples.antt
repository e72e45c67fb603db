-- Values, an array and a hash for examples.
use Rattle.std.specs.Prelude.{pos, List, [], ◌∷◌}
use Rattle.cr_value.specs.declared.value.Value.{Value}
use Rattle.cr_value.specs.declared.value.Value.TheVariants as value

abbrev pub one : Value
one = value.Small (pos 1)

abbrev pub two : Value
two = value.Small (pos 2)

abbrev pub nothing : Value
nothing = value.Nil

abbrev pub three : List Value
three = one ∷ two ∷ nothing ∷ []

-- 1 under 1, and 2 under 2
abbrev pub pair : List (Value × Value)
pair = (one, one) ∷ (two, two) ∷ []
