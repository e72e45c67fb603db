-- The places that a lookup looks at.
use Rattle.std.specs.Prelude.{Bool, true, false, ◌==◌, List, [], ◌∷◌, ◌++◌, if◌then◌else◌}
use Rattle.std.specs.List.{list_any}
use Rattle.cr_base.specs.declared.ids.NameId.{NameId}
use Rattle.cr_lookup.specs.declared.method.Method.{Method}
use Rattle.cr_lookup.specs.declared.method.Place.{Place}
use Rattle.cr_lookup.specs.Choice.{methods_of}

-- Those of a call, where these are the places of the receiver's class: with a receiver just these; without one the top level behind them,
-- and for the class at the root the top level alone.
abbrev pub looked_at : List Place → Place → (top root : Bool) → List Place
looked_at own top_level false root = own
looked_at own top_level true false = own ++ top_level ∷ []
looked_at own top_level true true = top_level ∷ []

-- those behind a place
abbrev pub behind : Place → List Place → List Place
behind place [] = []
behind place (other ∷ places) = if other.0 == place.0 then places else behind place places

-- whether a method has this name
abbrev pub has_named : List Method → NameId → Bool
has_named methods name = list_any (λ method. method.name.0 == name.0) methods

-- the first place that has a method of this name, and no other
abbrev pub first_with : List (List Method) → NameId → List Place → List Place
first_with methods name [] = []
first_with methods name (place ∷ places) =
    if has_named (methods_of methods place) name then place ∷ [] else first_with methods name places
