-- Forms that tell their type at a look, and literals that need a type.
use Rattle.std.specs.Prelude.{ℕ, Bool, true, false, ◌==◌, List, length, Option, Some, None, slice_get}
use Rattle.cr_base.specs.declared.ids.NodeId.{NodeId}
use Rattle.cr_core.specs.declared.form.Form.{Form}
use Rattle.cr_core.specs.declared.form.Form.TheVariants as f
use Rattle.cr_core.specs.declared.row.Row.{Row}

-- The table of obvious forms, a line each, by how many parts a node has; no other is one.
abbrev pub is_obvious_form : Form → ℕ → Bool
is_obvious_form f.Nil parts = true
is_obvious_form f.True parts = true
is_obvious_form f.False parts = true
is_obvious_form (f.Int32 number) parts = true
is_obvious_form (f.Int64 number) parts = true
is_obvious_form (f.Text text) parts = true  -- one with insertions is a call
is_obvious_form (f.New question block) parts = true  -- `C.new(..)` and `Channel(T).new(..)`
is_obvious_form (f.Array true) parts = parts == 1  -- `[] of T`: it has its type and no element
is_obvious_form (f.Hash true) parts = parts == 2  -- `{} of K => V`: it has its types, and neither key nor value
is_obvious_form form parts = false

abbrev pub is_obvious_in : Option Row → Bool
is_obvious_in None = false
is_obvious_in (Some row) = is_obvious_form row.form (length row.parts)

abbrev pub is_obvious : List Row → NodeId → Bool
is_obvious rows node = is_obvious_in (slice_get rows node.0)

-- an array or hash literal without `of`
abbrev pub is_untyped : Form → Bool
is_untyped (f.Array false) = true
is_untyped (f.Hash false) = true
is_untyped form = false
