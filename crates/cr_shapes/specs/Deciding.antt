-- Decisions about a row, as tests.
use Rattle.std.specs.Prelude.{Bool, false, true, not, ◌&&◌, List, [], ◌∷◌, Some}
use Rattle.std.specs.List.{list_all}
use Rattle.cr_base.specs.declared.ids.NodeId.{NodeId}
use Rattle.cr_core.specs.declared.row.Row.{Row}
use Rattle.cr_shapes.specs.Obvious.{is_obvious, is_untyped}
use Rattle.cr_shapes.specs.Written.{is_atom, is_argument, is_deeper, deepest}

abbrev pub has_entries : List NodeId → Bool
has_entries [] = false
has_entries (entry ∷ entries) = true

abbrev pub tell_types : List Row → List NodeId → Bool
tell_types rows entries = has_entries entries && list_all (is_obvious rows) entries

abbrev pub needs_type : List Row → Row → Bool
needs_type rows row = is_untyped row.form && not (tell_types rows row.parts)

abbrev pub is_too_deep : List Row → NodeId → Row → Bool
is_too_deep rows node row = is_atom (Some row.form) && not (is_argument rows row) && is_deeper rows deepest node
