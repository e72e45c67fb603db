-- What the rows of a core tree declare.
use Rattle.std.specs.Prelude.{ℕ, suc, List, [], ◌∷◌, Option, Some, None}
use Rattle.cr_base.specs.declared.ids.NodeId.{NodeId}
use Rattle.cr_core.specs.declared.form.Form.{Form}
use Rattle.cr_core.specs.declared.form.Form.TheVariants as f
use Rattle.cr_core.specs.declared.row.Row.{Row}
use Rattle.cr_core.specs.Arena.{node_id}
use Rattle.cr_core.specs.Tree.{form_at}
use Rattle.cr_declarations.specs.declared.declaration.Owner.{Owner}
use Rattle.cr_declarations.specs.declared.declaration.Owner.TheVariants.{TopLevel, Of}
use Rattle.cr_declarations.specs.declared.declaration.Declared.{Declared}
use Rattle.cr_declarations.specs.declared.declaration.Declared.TheVariants as d
use Rattle.cr_declarations.specs.declared.declaration.Declaration.{Declaration}

-- what a declaration stands in, by the form around it
abbrev pub owner_by : Form → Owner
owner_by (f.Class name superclass) = Of name
owner_by (f.Module name) = Of name
owner_by around = TopLevel

abbrev pub owner_in : Option Form → Owner
owner_in None = TopLevel
owner_in (Some around) = owner_by around

-- what a form declares, where it stands in this
abbrev pub declared_by : Owner → Form → Option Declared
declared_by owner (f.Class name superclass) = Some (d.Class name superclass)
declared_by owner (f.Module name) = Some (d.Module name)
declared_by owner (f.Include name) = Some (d.Include owner name)
declared_by owner (f.Def name scope result written) = Some (d.Method owner name scope)
declared_by owner (f.Declaration name) = Some (d.Field owner name)
declared_by owner form = None

abbrev pub declared_in : List Row → Row → Option Declared
declared_in rows row = declared_by (owner_in (form_at rows row.within.parent)) row.form

abbrev pub with_declared : NodeId → Option Declared → List Declaration → List Declaration
with_declared node None declarations = declarations
with_declared node (Some declared) declarations = record { node = node; declared = declared } ∷ declarations

-- the declarations of these rows, of which the first has this number, among all rows
abbrev pub declarations_from : List Row → ℕ → List Row → List Declaration
declarations_from all n [] = []
declarations_from all n (row ∷ rows) = with_declared (node_id n) (declared_in all row) (declarations_from all (suc n) rows)

-- all declarations, in the order of the rows
abbrev pub declarations : List Row → List Declaration
declarations rows = declarations_from rows 0 rows
