-- The methods of each place of lookup: those that are built in, and those that the prelude and the source declare.
use Rattle.std.specs.Prelude.{ℕ, zero, suc, ◌+◌, ◌==◌, Bool, true, false, ◌&&◌, if◌then◌else◌, List, [], ◌∷◌, ◌++◌, codes, length, map, filter_map, position, Option, Some, None, option_map, slice_get}
use Rattle.std.specs.List.{list_any, range_with_len, cons_option}
use Rattle.std.specs.Str.{bytes_eq}
use Rattle.cr_base.specs.declared.ids.ClassId.{ClassId}
use Rattle.cr_base.specs.declared.ids.MethodId.{MethodId}
use Rattle.cr_base.specs.declared.ids.NameId.{NameId}
use Rattle.cr_base.specs.declared.ids.NodeId.{NodeId}
use Rattle.cr_core.specs.declared.form.Form.{Form}
use Rattle.cr_core.specs.declared.form.Form.TheVariants as f
use Rattle.cr_core.specs.declared.form.ScopeId.{ScopeId}
use Rattle.cr_core.specs.declared.row.Row.{Row}
use Rattle.cr_core.specs.declared.scope.Scope.{Scope}
use Rattle.cr_core.specs.Tree.{Contents, home_by}
use Rattle.cr_declarations.specs.declared.declaration.Owner.{Owner}
use Rattle.cr_declarations.specs.declared.declaration.Owner.TheVariants.{TopLevel, Of}
use Rattle.cr_declarations.specs.declared.declaration.Declared.{Declared}
use Rattle.cr_declarations.specs.declared.declaration.Declared.TheVariants as d
use Rattle.cr_declarations.specs.declared.declaration.Declaration.{Declaration}
use Rattle.cr_declarations.specs.Declaring.{declarations}
use Rattle.cr_prelude.specs.Builtins.{Line}
use Rattle.cr_builtins.specs.declared.operation.Operation.{Operation}
use Rattle.cr_builtins.specs.declared.table.TheConstants.{OPERATIONS}
use Rattle.cr_builtins.specs.Operations.{line_of_operation}
use Rattle.cr_tables.specs.declared.operand.Operands.{Operands}
use Rattle.cr_lookup.specs.declared.method.Method.{Method}
use Rattle.cr_lookup.specs.declared.method.Place.{Place}
use Rattle.cr_tables.specs.declared.def.Def.{Def}
use Rattle.cr_names.specs.Names.{class_count}
use Rattle.cr_tables.specs.Numbers.{class_number, class_named, all_classes}
use Rattle.cr_tables.specs.Types.{parameters_of}
use Rattle.cr_tables.specs.BuiltIns.{operands, takes_operands, passed_over}

-- ---- places

abbrev pub place : ℕ → Place
place n = record { 0 = n }

-- the place of the top level, behind those of all classes and modules
abbrev pub top_level : Contents → Place
top_level t = place (class_count t)

abbrev pub place_by : Contents → Option ClassId → Place
place_by t None = top_level t
place_by t (Some class) = place class.0

abbrev pub place_of : Contents → Owner → Place
place_of t TopLevel = top_level t
place_of t (Of name) = place_by t (class_named t name)

-- ---- declared methods

abbrev pub def_by : Contents → NodeId → Declared → Option Def
def_by t node (d.Method owner name scope) = Some (record { node = node; name = name; scope = scope; place = place_of t owner })
def_by t node other = None

-- all methods that are declared, in the order of the text: accessors too, and those of the prelude first
unfoldable pub defs : Contents → List Def
defs t = filter_map (λ (declaration : Declaration). def_by t declaration.node declaration.declared) (declarations t.rows)

-- how many methods are built in: their numbers are the first, and those that are declared have the numbers behind
unfoldable pub built_in_methods : ℕ
built_in_methods = length OPERATIONS

abbrev pub method_id : ℕ → MethodId
method_id n = record { 0 = n }

-- ---- blocks

abbrev pub outwards : (ScopeId → ScopeId) → ScopeId → Option ScopeId → ScopeId
outwards further scope None = scope
outwards further scope (Some home) = further home

-- the outermost scope around one, at most so many homes outwards
abbrev pub outermost_to : List Scope → ℕ → ScopeId → ScopeId
outermost_to scopes zero scope = scope
outermost_to scopes (suc homes) scope = outwards (outermost_to scopes homes) scope (home_by (slice_get scopes scope.0))

abbrev pub outermost : Contents → ScopeId → ScopeId
outermost t scope = outermost_to t.scopes (length t.scopes) scope

abbrev pub is_yield : Form → Bool
is_yield f.Yield = true
is_yield other = false

abbrev pub yields_in : Contents → ScopeId → Row → Bool
yields_in t scope row = is_yield row.form && ((outermost t row.within.scope).0 == scope.0)

-- whether a `yield` stands in the method of a scope, or in a block in it
abbrev pub has_yield : Contents → ScopeId → Bool
has_yield t scope = list_any (yields_in t scope) t.rows

-- ---- the methods of a place

abbrev pub declared_method : Contents → ℕ → Def → Method
declared_method t n def = record {
  id = method_id n;
  name = def.name;
  block = has_yield t def.scope;
  parameters = parameters_of t def.node;
  passed_over = [];
}

-- those of the place that are among these, of which the first has this number
abbrev pub declared_at : Contents → Place → ℕ → List Def → List Method
declared_at t p n [] = []
declared_at t p n (def ∷ more) =
    if def.place.0 == p.0 then declared_method t n def ∷ declared_at t p (suc n) more else declared_at t p (suc n) more

abbrev pub built_in_method : Contents → ℕ → Operation → NameId → Operands → Method
built_in_method t n operation name operands = record {
  id = method_id n;
  name = name;
  block = false;
  parameters = takes_operands (all_classes t) operands;
  passed_over = passed_over operation;
}

abbrev pub name_id : ℕ → NameId
name_id n = record { 0 = n }

-- the name with this text
abbrev pub name_with : Contents → List ℕ → Option NameId
name_with t text = option_map name_id (position (bytes_eq text) t.names)

abbrev pub if_both : Contents → ℕ → Operation → Option NameId → Option Operands → Option Method
if_both t n operation (Some name) (Some operands) = Some (built_in_method t n operation name operands)
if_both t n operation name operands = None

-- a built-in method of a place, where the program has its name and a call finds it
abbrev pub built_in_by : Contents → Place → ℕ → Operation → Line → Option Method
built_in_by t p n operation line =
    if class_number line.class == p.0 then if_both t n operation (name_with t line.name) (operands operation) else None

abbrev pub built_in_at : Contents → Place → ℕ → List Operation → List Method
built_in_at t p n [] = []
built_in_at t p n (operation ∷ more) =
    cons_option (built_in_by t p n operation (line_of_operation operation)) (built_in_at t p (suc n) more)

abbrev pub methods_at : Contents → Place → List Method
methods_at t p = built_in_at t p 0 OPERATIONS ++ declared_at t p built_in_methods (defs t)

-- the methods of each place, by its number
unfoldable pub all_methods : Contents → List (List Method)
all_methods t = map (λ (n : ℕ). methods_at t (place n)) (range_with_len 0 (class_count t + 1))

-- ---- `initialize`

abbrev pub initialize : List ℕ
initialize = codes "initialize"

abbrev pub is_it : NameId → Option NameId → Bool
is_it name None = false
is_it name (Some other) = other.0 == name.0

abbrev pub is_initialize_name : Contents → NameId → Bool
is_initialize_name t name = is_it name (name_with t initialize)
