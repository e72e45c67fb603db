-- What the names of a core tree stand for: built-in classes, classes and modules that it declares, type parameters.
use Rattle.std.specs.Prelude.{ℕ, zero, suc, ◌+◌, Bool, true, false, not, ◌&&◌, ◌||◌, ◌==◌, List, [], ◌∷◌, length, map, Option, Some, None, unwrap_or, slice_get, is_some, if◌then◌else◌}
use Rattle.std.specs.List.{list_any, position, position_from, cons_option}
use Rattle.std.specs.Option.{option_or, option_map}
use Rattle.std.specs.Borrow.{Bor}
use Rattle.std.specs.Str.{bytes_eq}
use Rattle.cr_base.specs.declared.ids.NameId.{NameId}
use Rattle.cr_base.specs.declared.ids.NodeId.{NodeId}
use Rattle.cr_core.specs.declared.form.Form.{Form}
use Rattle.cr_core.specs.declared.form.Form.TheVariants as f
use Rattle.cr_core.specs.declared.row.Row.{Row}
use Rattle.cr_core.specs.Tree.{Contents, form_at}
use Rattle.cr_names.specs.declared.built_in.TheConstants.{BUILT_IN}
use Rattle.cr_names.specs.declared.kind.Kind.{Kind}
use Rattle.cr_names.specs.declared.kind.Kind.TheVariants as k

-- ---- built-in classes

-- a built-in class: its path, how many type parameters it has, and whether a `new` makes an object of it
pub record BuiltIn : Type 0 where
  pub path : List ℕ
  pub parameters : ℕ
  pub made : Bool

-- the table, a line each
unfoldable pub lines : List BuiltIn
lines = map (λ line. record { path = line.0.now; parameters = line.1; made = line.2 }) BUILT_IN

unfoldable pub built_in_count : ℕ
built_in_count = length lines

abbrev pub is_path : List ℕ → BuiltIn → Bool
is_path path line = bytes_eq line.path path

-- the number of the built-in class with this path: the place of its line
unfoldable pub place_of_path : List ℕ → Option ℕ
place_of_path path = position (is_path path) lines

abbrev pub parameters_in : Option BuiltIn → ℕ
parameters_in None = 0
parameters_in (Some line) = line.parameters

abbrev pub made_in : Option BuiltIn → Bool
made_in None = false
made_in (Some line) = line.made

unfoldable pub parameters_of_built_in : ℕ → ℕ
parameters_of_built_in place = parameters_in (slice_get lines place)

unfoldable pub is_made : ℕ → Bool
is_made place = made_in (slice_get lines place)

abbrev pub text_of : Contents → NameId → List ℕ
text_of t name = unwrap_or (slice_get t.names name.0) []

abbrev pub built_in : Contents → NameId → Option ℕ
built_in t name = place_of_path (text_of t name)

abbrev pub is_built_in : Contents → NameId → Bool
is_built_in t name = is_some (built_in t name)

-- ---- what rows declare, and where a name is declared first

-- the name of the class or module that is declared
abbrev pub declared_by : Form → Option NameId
declared_by (f.Class name superclass) = Some name
declared_by (f.Module name) = Some name
declared_by form = None

abbrev pub class_by : Form → Option NameId
class_by (f.Class name superclass) = Some name
class_by form = None

abbrev pub module_by : Form → Option NameId
module_by (f.Module name) = Some name
module_by form = None

-- that of a class of which a superclass is named
abbrev pub heir_by : Form → Option NameId
heir_by (f.Class name (Some superclass)) = Some name
heir_by form = None

abbrev pub parameter_by : Form → Option NameId
parameter_by (f.TypeParameter name) = Some name
parameter_by form = None

-- the type parameters of the prelude are no names of the source
abbrev pub outside : Bool → Option NameId → Option NameId
outside true name = None
outside false name = name

-- the name of which a row tells something of this kind
abbrev pub named_by : Kind → Row → Option NameId
named_by k.Class row = class_by row.form
named_by k.Module row = module_by row.form
named_by k.Either row = declared_by row.form
named_by k.Heir row = heir_by row.form
named_by k.Parameter row = outside row.place.prelude (parameter_by row.form)

abbrev pub is_key : NameId → Option NameId → Bool
is_key name None = false
is_key name (Some other) = other.0 == name.0

abbrev pub keys : Kind → List Row → List (Option NameId)
keys kind rows = map (named_by kind) rows

-- the number of the first row that tells something of this kind of the name; the rows of declarations stand in the order of the text
unfoldable pub first : Kind → Contents → NameId → Option ℕ
first kind t name = position_from (is_key name) 0 (keys kind t.rows)

-- ---- what a name stands for

-- a built-in class, and nothing else where it is the name of one; else a class or a module that is declared
abbrev pub is_own_class : Contents → NameId → Bool
is_own_class t name = not (is_built_in t name) && is_some (first k.Class t name)

abbrev pub is_class : Contents → NameId → Bool
is_class t name = is_built_in t name || is_some (first k.Class t name)

abbrev pub is_module : Contents → NameId → Bool
is_module t name = not (is_built_in t name) && is_some (first k.Module t name)

abbrev pub is_known : Contents → NameId → Bool
is_known t name = is_built_in t name || is_some (first k.Either t name)

-- ---- type parameters

abbrev pub parameter_in : Option Form → Option NameId
parameter_in None = None
parameter_in (Some form) = parameter_by form

abbrev pub with_parameter : Option NameId → List NameId → List NameId
with_parameter None names = []
with_parameter (Some name) names = name ∷ names

-- those of a class, by its parts: they stand before its members
abbrev pub parameters_among : List Row → List NodeId → List NameId
parameters_among rows [] = []
parameters_among rows (part ∷ parts) = with_parameter (parameter_in (form_at rows (Some part))) (parameters_among rows parts)

abbrev pub parts_of : Option Row → List NodeId
parts_of None = []
parts_of (Some row) = row.parts

-- the type parameters of the class with this row, in order
abbrev pub type_parameters : List Row → ℕ → List NameId
type_parameters rows n = parameters_among rows (parts_of (slice_get rows n))

-- how many a class has: as many as its first declaration
abbrev pub parameters_of_own : List Row → Option ℕ → ℕ
parameters_of_own rows None = 0
parameters_of_own rows (Some n) = length (type_parameters rows n)

abbrev pub arity_by : List Row → Option ℕ → Option ℕ → ℕ
arity_by rows (Some place) first = parameters_of_built_in place
arity_by rows None first = parameters_of_own rows first

abbrev pub arity : Contents → NameId → ℕ
arity t name = arity_by t.rows (built_in t name) (first k.Class t name)

-- what a class may name behind `<`: a class that is declared, and has no type parameters
abbrev pub is_superclass : Contents → NameId → Bool
is_superclass t name = is_own_class t name && arity t name == 0

-- ---- the class around a row

abbrev pub parent_of : Option Row → Option NodeId
parent_of None = None
parent_of (Some row) = row.within.parent

abbrev pub is_class_form : Option Form → Bool
is_class_form None = false
is_class_form (Some form) = is_some (class_by form)

abbrev pub outwards : List Row → (ℕ → Option ℕ) → Option NodeId → Option ℕ
outwards rows further None = None
outwards rows further (Some parent) = if is_class_form (form_at rows (Some parent)) then Some parent.0 else further parent.0

-- within so many steps outwards
abbrev pub around_within : List Row → ℕ → ℕ → Option ℕ
around_within rows zero n = None
around_within rows (suc steps) n = outwards rows (around_within rows steps) (parent_of (slice_get rows n))

-- the innermost class around row n: a row stands behind all that are around it, so n steps outwards and one more lead past them
unfoldable pub class_around : List Row → ℕ → Option ℕ
class_around rows n = around_within rows (suc n) n

abbrev pub has_name : List NameId → NameId → Bool
has_name names name = list_any (λ (other : NameId). other.0 == name.0) names

abbrev pub parameters_around : List Row → Option ℕ → List NameId
parameters_around rows None = []
parameters_around rows (Some n) = type_parameters rows n

-- whether it is the name of a type parameter of the class around row n
abbrev pub is_type_parameter : Contents → ℕ → NameId → Bool
is_type_parameter t n name = has_name (parameters_around t.rows (class_around t.rows n)) name

-- ---- numbers of classes and modules

abbrev pub is_there : ℕ → Option ℕ → Bool
is_there n None = false
is_there n (Some m) = m == n

-- the name that row n declares, where it is the first that does, and the name is that of no built-in class
abbrev pub own_at : (NameId → Option ℕ) → (NameId → Option ℕ) → ℕ → Option NameId → Option NameId
own_at built first n None = None
own_at built first n (Some name) = if not (is_some (built name)) && is_there n (first name) then Some name else None

-- of these rows, of which the first has this number
abbrev pub own_from : (NameId → Option ℕ) → (NameId → Option ℕ) → ℕ → List Row → List NameId
own_from built first n [] = []
own_from built first n (row ∷ rows) = cons_option (own_at built first n (declared_by row.form)) (own_from built first (n + 1) rows)

-- the classes and modules that are not built in, by their names, in the order of their first declarations
unfoldable pub own_names : Contents → List NameId
own_names t = own_from (built_in t) (first k.Either t) 0 t.rows

abbrev pub own_keys : List NameId → List (Option NameId)
own_keys names = map (λ (name : NameId). Some name) names

unfoldable pub own_place : Contents → NameId → Option ℕ
own_place t name = position_from (is_key name) 0 (own_keys (own_names t))

-- The number of the class or module of this name: the built-in ones have the first numbers, in the order of their lines, and the others follow.
abbrev pub class_of_name : Contents → NameId → Option ℕ
class_of_name t name = option_or (built_in t name) (option_map (λ place. built_in_count + place) (own_place t name))

abbrev pub class_count : Contents → ℕ
class_count t = built_in_count + length (own_names t)

-- ---- what carries the proofs inside

-- a line as code reads it
abbrev pub line_at : Bor (List ℕ) × ℕ × Bool → BuiltIn
line_at line = record { path = line.0.now; parameters = line.1; made = line.2 }

abbrev pub is_path_at : List ℕ → Bor (List ℕ) × ℕ × Bool → Bool
is_path_at path line = bytes_eq line.0.now path
