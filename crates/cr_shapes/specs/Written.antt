-- Written types, and how deep they are.
use Rattle.std.specs.Prelude.{ℕ, zero, suc, Bool, true, false, List, [], Option, Some, None, slice_get}
use Rattle.std.specs.List.{list_any}
use Rattle.cr_base.specs.declared.ids.NodeId.{NodeId}
use Rattle.cr_core.specs.declared.form.Form.{Form}
use Rattle.cr_core.specs.declared.form.Form.TheVariants as f
use Rattle.cr_core.specs.declared.row.Row.{Row}
use Rattle.cr_core.specs.Tree.{form_at}

abbrev pub parts_of : Option Row → List NodeId
parts_of None = []
parts_of (Some row) = row.parts

abbrev pub parts_at : List Row → NodeId → List NodeId
parts_at rows node = parts_of (slice_get rows node.0)

abbrev pub parent_of : Option Row → Option NodeId
parent_of None = None
parent_of (Some row) = row.within.parent

abbrev pub parent_at : List Row → Option NodeId → Option NodeId
parent_at rows None = None
parent_at rows (Some node) = parent_of (slice_get rows node.0)

abbrev pub is_atom : Option Form → Bool
is_atom (Some (f.Atom name)) = true
is_atom other = false

-- whether an atom with this row stands in an argument of another: the argument is its parent, and that one's parent is an atom
abbrev pub is_argument : List Row → Row → Bool
is_argument rows row = is_atom (form_at rows (parent_at rows row.within.parent))

-- whether some atom of a written type passes
abbrev pub some_atom : List Row → (NodeId → Bool) → NodeId → Bool
some_atom rows passes type = list_any passes (parts_at rows type)

-- The depth of an atom is 1 where it has no arguments, else 1 more than the greatest depth of its arguments' atoms.
-- So each atom is deeper than 0, and is deeper than depth + 1 where some atom of some argument is deeper than depth.
unfoldable pub is_deeper : List Row → ℕ → NodeId → Bool
is_deeper rows zero atom = true
is_deeper rows (suc depth) atom = list_any (some_atom rows (is_deeper rows depth)) (parts_at rows atom)

-- how deep a written type may be
abbrev pub deepest : ℕ
deepest = 6
