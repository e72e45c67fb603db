-- Core forms of declarations.
use Rattle.std.specs.Prelude.{ℕ, List, ◌++◌, map, Option, Some, None, Bool, true, false}
use Rattle.cr_base.specs.declared.ids.NameId.{NameId}
use Rattle.cr_core.specs.declared.form.Form.{Form}
use Rattle.cr_core.specs.declared.form.Form.TheVariants as f
use Rattle.cr_core.specs.declared.form.Local.{Local}
use Rattle.cr_core.specs.declared.form.ScopeId.{ScopeId}
use Rattle.cr_making.specs.Naming.{named, declared, found, with_parameters}
use Rattle.cr_making.specs.Making.{Making, nothing, ◌▸◌, wrapped, leaf, using, apart, all, sequence}
use Rattle.cr_making.specs.Words.{setter, variable}
use Rattle.cr_making.specs.Part.{Part, each, lines, is_there, union, held_union, statements_of, members_of}

-- ---- parameters

-- a local of the scope around it
unfoldable pub parameter : ℕ → List ℕ → Option Part → Making
parameter at name type = using (named name) (λ (id : NameId). using (declared (Some id)) (λ (l : Local). wrapped (f.Parameter l.slot (is_there type)) at (held_union at type)))

-- @x : T
unfoldable pub declaration : ℕ → List ℕ → Part → Making
declaration at name type = using (named (variable name)) (λ (id : NameId). wrapped (f.Declaration id) at (union at type))

abbrev pub maybe_declaration : ℕ → List ℕ → Option Part → Making
maybe_declaration at name None = nothing
maybe_declaration at name (Some type) = declaration at name type

abbrev pub local_form : NameId → Option Local → Form
local_form id None = f.Call id false false
local_form id (Some l) = f.Local l

-- @x = x
unfoldable pub kept : ℕ → List ℕ → Making
kept at name = using (named name) (λ (id : NameId). using (found id) (λ (l : Option Local). using (named (variable name)) (λ (field : NameId).
    wrapped (f.SetField field) at (leaf (local_form id l) at))))

-- `@x : T` of a method is x : T, with `@x = x` before the body, and `@x : T` is declared
abbrev pub parameter_fields : ℕ → Bool → List ℕ → Option Part → Making
parameter_fields at false name type = nothing
parameter_fields at true name type = maybe_declaration at name type

-- ---- methods

-- what the parameters assign before the body
abbrev pub kept_of : List Part → List Making
kept_of = lines (λ (p : Part). p.is_field) (λ (p : Part). p.kept)

unfoldable pub body : ℕ → List Part → List Part → Making
body at parameters list = sequence at (kept_of parameters ++ statements_of list)

unfoldable pub method : ℕ → List ℕ → List Part → Option Part → List Part → Making
method at name parameters result list = using (named name) (λ (id : NameId). apart (λ (scope : ScopeId).
    wrapped (f.Def id scope (is_there result) true) at (
    each (λ (p : Part). p.parameter) parameters
    ▸ using with_parameters (λ (count : ℕ). held_union at result ▸ body at parameters list))))

unfoldable pub method_members : ℕ → List ℕ → List Part → Option Part → List Part → Making
method_members at name parameters result list =
    each (λ (p : Part). p.fields) parameters ▸ method at name parameters result list

-- ---- getter x : T is @x : T and def x; @x; end; property x : T is that and def x=(x : T); @x = x; end

unfoldable pub reader : ℕ → List ℕ → Making
reader at name = using (named name) (λ (id : NameId). apart (λ (scope : ScopeId).
    wrapped (f.Def id scope false false) at (using (named (variable name)) (λ (field : NameId). leaf (f.Field field) at))))

unfoldable pub writer : ℕ → List ℕ → Option Part → Making
writer at name type = using (named (setter name)) (λ (id : NameId). apart (λ (scope : ScopeId).
    wrapped (f.Def id scope false false) at (parameter at name type ▸ using with_parameters (λ (count : ℕ). kept at name))))

unfoldable pub getter : ℕ → List ℕ → Option Part → Making
getter at name type = maybe_declaration at name type ▸ reader at name

unfoldable pub property : ℕ → List ℕ → Option Part → Making
property at name type = maybe_declaration at name type ▸ reader at name ▸ writer at name type

abbrev pub accessor : ℕ → List ℕ → Option Part → Bool → Making
accessor at name type false = getter at name type
accessor at name type true = property at name type

abbrev pub accessors : Bool → List Part → Making
accessors is_property = each (λ (p : Part). p.accessor is_property)

-- ---- classes and modules

unfoldable pub type_parameter : ℕ → List ℕ → Making
type_parameter at name = using (named name) (λ (id : NameId). leaf (f.TypeParameter id) at)

unfoldable pub class_with : ℕ → NameId → Option NameId → List (List ℕ) → List Part → Making
class_with at id superclass parameters members =
    wrapped (f.Class id superclass) at (all (map (type_parameter at) parameters) ▸ members_of members)

unfoldable pub class_below : ℕ → NameId → List ℕ → List (List ℕ) → List Part → Making
class_below at id superclass parameters members = using (named superclass) (λ (above : NameId). class_with at id (Some above) parameters members)

abbrev pub class_by : ℕ → List (List ℕ) → Option (List ℕ) → List Part → NameId → Making
class_by at parameters None members id = class_with at id None parameters members
class_by at parameters (Some superclass) members id = class_below at id superclass parameters members

unfoldable pub class : ℕ → List ℕ → List (List ℕ) → Option (List ℕ) → List Part → Making
class at name parameters superclass members = using (named name) (class_by at parameters superclass members)

unfoldable pub module_ : ℕ → List ℕ → List Part → Making
module_ at name members = using (named name) (λ (id : NameId). wrapped (f.Module id) at (members_of members))

unfoldable pub include : ℕ → List ℕ → Making
include at name = using (named name) (λ (id : NameId). leaf (f.Include id) at)
