-- What the types of parameters, and those of `is_a?`, stand for.
use Rattle.std.specs.Prelude.{◌==◌, Bool, true, false, not, ◌&&◌, if◌then◌else◌, List, [], ◌∷◌, ◌++◌, filter, filter_map, Option, Some, None, option_map, slice_get}
use Rattle.std.specs.List.{list_any}
use Rattle.cr_base.specs.declared.ids.ClassId.{ClassId}
use Rattle.cr_base.specs.declared.ids.NodeId.{NodeId}
use Rattle.cr_core.specs.declared.form.Form.{Form}
use Rattle.cr_core.specs.declared.form.Form.TheVariants as f
use Rattle.cr_core.specs.declared.row.Row.{Row}
use Rattle.cr_core.specs.Tree.{Contents, form_at}
use Rattle.cr_ancestors.specs.Line.{has}
use Rattle.cr_lookup.specs.declared.method.Takes.{Takes}
use Rattle.cr_lookup.specs.declared.method.Takes.TheVariants.{Any, Only}
use Rattle.cr_tables.specs.Numbers.{class_named, is_class, parameter_count, all_classes}
use Rattle.cr_tables.specs.Hierarchy.{ancestors}

-- ---- atoms

abbrev pub parts_by : Option Row → List NodeId
parts_by None = []
parts_by (Some row) = row.parts

abbrev pub parts_of : Contents → NodeId → List NodeId
parts_of t n = parts_by (slice_get t.rows n.0)

abbrev pub named_class : Contents → Option Form → Option ClassId
named_class t (Some (f.Atom name)) = class_named t name
named_class t other = None

-- the class or module that the atom of a row names
abbrev pub class_of_atom : Contents → NodeId → Option ClassId
class_of_atom t n = named_class t (form_at t.rows (Some n))

-- ---- `is_a?`

-- whether a class is the one above or below it
abbrev pub is_at_or_below : Contents → ClassId → Option ClassId → Bool
is_at_or_below t class None = false
is_at_or_below t class (Some above) = has (ancestors t class) above

-- Whether a class is at or below one that an atom names; those with type parameters count.
abbrev pub covers : Contents → List NodeId → ClassId → Bool
covers t atoms class = list_any (λ (n : NodeId). is_at_or_below t class (class_of_atom t n)) atoms

-- ---- parameters

abbrev pub is_generic : Contents → ClassId → Bool
is_generic t class = not (parameter_count t class == 0)

-- What a written class or module takes: the classes without type parameters at or below it. One with type parameters takes itself,
-- whatever its arguments are.
abbrev pub taken_by : Contents → ClassId → List ClassId
taken_by t above =
    if is_generic t above then above ∷ []
    else filter (λ (class : ClassId). is_class t class && not (is_generic t class) && has (ancestors t class) above) (all_classes t)

abbrev pub together : Option (List ClassId) → Option (List ClassId) → Option (List ClassId)
together (Some classes) (Some more) = Some (classes ++ more)
together classes more = None

-- What some atoms take; nothing is told where one of them names neither class nor module: it is a type parameter, and no restriction.
abbrev pub taken : Contents → List NodeId → Option (List ClassId)
taken t [] = Some []
taken t (n ∷ atoms) = together (option_map (taken_by t) (class_of_atom t n)) (taken t atoms)

abbrev pub takes_those : Option (List ClassId) → Takes
takes_those None = Any
takes_those (Some classes) = Only classes

-- what a parameter takes whose first part is its type
abbrev pub restricted_to : Contents → List NodeId → Takes
restricted_to t [] = Any
restricted_to t (type ∷ parts) = takes_those (taken t (parts_of t type))

-- what a part takes that is a parameter
abbrev pub takes_by : Contents → Option Form → List NodeId → Option Takes
takes_by t (Some (f.Parameter slot true)) parts = Some (restricted_to t parts)
takes_by t (Some (f.Parameter slot false)) parts = Some Any
takes_by t other parts = None

abbrev pub takes_of : Contents → NodeId → Option Takes
takes_of t n = takes_by t (form_at t.rows (Some n)) (parts_of t n)

-- what the parameters of a `def` take, in order
abbrev pub parameters_of : Contents → NodeId → List Takes
parameters_of t def = filter_map (takes_of t) (parts_of t def)
