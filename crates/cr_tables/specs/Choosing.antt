-- The choice of a method as a function: of the matches of the first place that has one, the pointwise most special.
use Rattle.std.specs.Prelude.{◌+◌, ◌-◌, ◌==◌, nat_lt, Bool, true, false, not, ◌&&◌, ◌||◌, if◌then◌else◌, List, [], ◌∷◌, map, filter, find, Option, Some, None, option_map, slice_get}
use Rattle.std.specs.List.{list_all}
use Rattle.std.specs.Option.{option_or}
use Rattle.cr_base.specs.declared.ids.ClassId.{ClassId}
use Rattle.cr_base.specs.declared.ids.MethodId.{MethodId}
use Rattle.cr_base.specs.declared.ids.NameId.{NameId}
use Rattle.cr_core.specs.Tree.{Contents}
use Rattle.cr_ancestors.specs.Line.{has}
use Rattle.cr_lookup.specs.declared.method.Takes.{Takes}
use Rattle.cr_lookup.specs.declared.method.Method.{Method}
use Rattle.cr_lookup.specs.declared.method.Place.{Place}
use Rattle.cr_lookup.specs.declared.method.Sought.{Sought}
use Rattle.cr_lookup.specs.Methods.{fits}
use Rattle.cr_lookup.specs.Choice.{methods_of}
use Rattle.cr_lookup.specs.Places.{looked_at, behind, first_with}
use Rattle.cr_names.specs.Names.{class_count}
use Rattle.cr_prelude.specs.declared.class.BuiltinClass.TheVariants as c
use Rattle.cr_tables.specs.Numbers.{class, first_classes, is_number}
use Rattle.cr_tables.specs.declared.def.Def.{Def}
use Rattle.cr_tables.specs.declared.onwards.Onwards.{Onwards}
use Rattle.cr_tables.specs.declared.onwards.Onwards.TheVariants.{Nowhere, To, NoneMatches}
use Rattle.cr_tables.specs.Hierarchy.{ancestors}
use Rattle.cr_tables.specs.Methods.{top_level, place, defs, built_in_methods, all_methods, name_with, initialize, is_initialize_name}

-- ---- the choice among the methods of a place

abbrev pub is_same : Bool → Bool → Bool
is_same true b = b
is_same false b = not b

-- as many, and each is taken by the parameter in its place
abbrev pub take_all : List Takes → List ClassId → Bool
take_all [] [] = true
take_all [] (class ∷ args) = false
take_all (takes ∷ parameters) [] = false
take_all (takes ∷ parameters) (class ∷ args) = fits takes class && take_all parameters args

-- the name, the use of a block, the number of parameters and the classes of the arguments agree
abbrev pub is_match : Sought → List ClassId → Method → Bool
is_match sought args method =
    (method.name.0 == sought.name.0) && is_same method.block sought.block && not (has method.passed_over sought.receiver) && take_all method.parameters args

-- each of these classes that the first takes, the second takes
abbrev pub is_within : List ClassId → Takes → Takes → Bool
is_within classes a b = list_all (λ (class : ClassId). not (fits a class) || fits b class) classes

-- as many parameters, each at least as special
abbrev pub is_below : List ClassId → List Takes → List Takes → Bool
is_below classes [] [] = true
is_below classes [] (b ∷ bs) = false
is_below classes (a ∷ more) [] = false
is_below classes (a ∷ more) (b ∷ bs) = is_within classes a b && is_below classes more bs

-- the first that is at least as special as each of them
abbrev pub most_special : List ClassId → List Method → Option Method
most_special classes methods =
    find (λ (method : Method). list_all (λ (other : Method). is_below classes method.parameters other.parameters) methods) methods

abbrev pub chosen_among : List ClassId → Sought → List ClassId → List Method → Option MethodId
chosen_among classes sought args methods =
    option_map (λ (method : Method). method.id) (most_special classes (filter (is_match sought args) methods))

-- ---- the choice among places

-- of the first place that has a match
abbrev pub first_chosen : List ClassId → List (List Method) → Sought → List ClassId → List Place → Option MethodId
first_chosen classes methods sought args [] = None
first_chosen classes methods sought args (p ∷ places) =
    option_or (chosen_among classes sought args (methods_of methods p)) (first_chosen classes methods sought args places)

-- The classes by which methods are compared: those of the program, and one more, which no type names, but a parameter without a type takes.
abbrev pub compared : Contents → List ClassId
compared t = first_classes (class_count t + 1)

-- The choice for a call at these places. For what is no class of the program nothing is chosen.
abbrev pub chosen_at : Contents → Sought → List ClassId → List Place → Option MethodId
chosen_at t sought args places =
    if list_all (is_number t) (sought.receiver ∷ args) then first_chosen (compared t) (all_methods t) sought args places else None

-- ---- calls

-- the places of a class: its ancestors
abbrev pub own_places : Contents → ClassId → List Place
own_places t class = map (λ (ancestor : ClassId). place ancestor.0) (ancestors t class)

-- an `initialize` is looked for in the first place that has one, and in no later place
abbrev pub unless_initialize : Contents → NameId → List Place → List Place
unless_initialize t name places = if is_initialize_name t name then first_with (all_methods t) name places else places

abbrev pub places_of_call : Contents → ClassId → NameId → (top : Bool) → List Place
places_of_call t receiver name top = unless_initialize t name (looked_at (own_places t receiver) (top_level t) top (receiver.0 == (class c.Object).0))

abbrev pub sought : ClassId → NameId → Bool → Sought
sought receiver name block = record { receiver = receiver; name = name; block = block }

-- The method of a call: of the receiver's class, by name, classes of the arguments and whether a block is given; `top` says that no
-- receiver is named.
unfoldable pub chosen : Contents → ClassId → NameId → List ClassId → (block top : Bool) → Option MethodId
chosen t class name args block top =
    chosen_at t (sought class name block) args (places_of_call t class name top)

-- ---- `super` and `initialize`

abbrev pub none_at : List Place → Onwards
none_at [] = Nowhere
none_at (p ∷ places) = NoneMatches

-- where none of these places has a match: nowhere, or to some that do not match
abbrev pub unmatched : Contents → NameId → List Place → Onwards
unmatched t name places = none_at (first_with (all_methods t) name places)

abbrev pub onwards_by : Onwards → Option MethodId → Onwards
onwards_by otherwise (Some method) = To method
onwards_by otherwise None = otherwise

abbrev pub onwards : Contents → ClassId → NameId → List ClassId → List Place → Onwards
onwards t class name args places =
    onwards_by (unmatched t name places) (chosen_at t (sought class name false) args places)

-- the `def` of a method; a built-in method has none
abbrev pub def_at : Contents → MethodId → Option Def
def_at t method = if nat_lt method.0 built_in_methods then None else slice_get (defs t) (method.0 - built_in_methods)

-- The places behind that of a method, among those of the receiver's class. The top level is none of them.
abbrev pub places_of_super : Contents → ClassId → Def → List Place
places_of_super t class def = unless_initialize t def.name (behind def.place (own_places t class))

abbrev pub super_from : Contents → ClassId → List ClassId → Option Def → Onwards
super_from t class args None = Nowhere
super_from t class args (Some def) = onwards t class def.name args (places_of_super t class def)

-- the method behind the running one
unfoldable pub chosen_super : Contents → ClassId → MethodId → List ClassId → Onwards
chosen_super t class method args = super_from t class args (def_at t method)

abbrev pub initialize_by : Contents → ClassId → List ClassId → Option NameId → Onwards
initialize_by t class args None = Nowhere
initialize_by t class args (Some name) = onwards t class name args (first_with (all_methods t) name (own_places t class))

-- the `initialize` that a `new` runs
unfoldable pub chosen_initialize : Contents → ClassId → List ClassId → Onwards
chosen_initialize t class args = initialize_by t class args (name_with t initialize)

abbrev pub method_in : Onwards → Option MethodId
method_in (To method) = Some method
method_in Nowhere = None
method_in NoneMatches = None
