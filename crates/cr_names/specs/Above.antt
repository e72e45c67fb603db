-- What stands above the classes and modules of a core tree, by the numbers of their names.
use Rattle.std.specs.Prelude.{ℕ, ◌==◌, List, length, map, Option, Some, None, if◌then◌else◌}
use Rattle.std.specs.List.{filter_map, range_with_len}
use Rattle.cr_base.specs.declared.ids.ClassId.{ClassId}
use Rattle.cr_base.specs.declared.ids.NameId.{NameId}
use Rattle.cr_core.specs.declared.form.Form.{Form}
use Rattle.cr_core.specs.declared.form.Form.TheVariants as f
use Rattle.cr_core.specs.declared.row.Row.{Row}
use Rattle.cr_core.specs.Tree.{Contents, form_at}
use Rattle.cr_names.specs.declared.above.Edge.{Edge}
use Rattle.cr_names.specs.Names.{declared_by, is_module, is_superclass}

abbrev pub class_id : ℕ → ClassId
class_id n = record { 0 = n }

abbrev pub declared_in : Option Form → Option NameId
declared_in None = None
declared_in (Some form) = declared_by form

-- a class stands above the one that names it behind `<`
abbrev pub superclass_edge : Contents → NameId → NameId → Option Edge
superclass_edge t below above = if is_superclass t above then Some (record { below = below; above = above }) else None

-- a module stands above the class or module that includes it
abbrev pub module_edge : Contents → Option NameId → NameId → Option Edge
module_edge t None above = None
module_edge t (Some below) above = if is_module t above then Some (record { below = below; above = above }) else None

-- what a row puts directly above a class or module, where it stands in this
abbrev pub edge_by : Contents → Option NameId → Form → Option Edge
edge_by t around (f.Class name (Some above)) = superclass_edge t name above
edge_by t around (f.Include above) = module_edge t around above
edge_by t around form = None

abbrev pub edge_of : Contents → Row → Option Edge
edge_of t row = edge_by t (declared_in (form_at t.rows row.within.parent)) row.form

unfoldable pub edges : Contents → List Edge
edges t = filter_map (edge_of t) t.rows

abbrev pub above_in : ℕ → Edge → Option ClassId
above_in n edge = if edge.below.0 == n then Some (class_id edge.above.0) else None

abbrev pub all_above : ℕ → List Edge → List ClassId
all_above n edges = filter_map (above_in n) edges

-- For each name, by its number, what declarations put directly above it.
unfoldable pub hierarchy : Contents → List (List ClassId)
hierarchy t = map (λ n. all_above n (edges t)) (range_with_len 0 (length t.names))
