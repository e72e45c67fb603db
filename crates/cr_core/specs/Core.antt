-- Core trees, several in a row, and the walk round them.
use Rattle.std.specs.Prelude.{ℕ, suc, ◌+◌, List, [], ◌∷◌, ◌++◌}
use Rattle.cr_core.specs.declared.form.Form.{Form}
use Rattle.cr_core.specs.declared.row.Place.{Place}
use Rattle.cr_core.specs.declared.row.Event.{Event}
use Rattle.cr_core.specs.declared.row.Event.TheVariants.{Open, Close}

-- Some core trees, one beside the other: the first is a node with its form, its place and its parts.
pub data Core : Type 0 where
  none : Core
  node : (form : Form) (place : Place) (parts rest : Core) → Core

infixr 60 ◌⊕◌
-- these and then those
abbrev pub ◌⊕◌ : Core → Core → Core
none ⊕ c = c
(node f at ps rest) ⊕ c = node f at ps (rest ⊕ c)

abbrev pub one : Form → Place → Core → Core
one f at ps = node f at ps none

-- the walk: a node opens, its parts follow, it closes
abbrev pub stream : Core → List Event
stream none = []
stream (node f at ps rest) = Open f at ∷ (stream ps ++ (Close ∷ stream rest))

-- how many nodes there are
abbrev pub size : Core → ℕ
size none = 0
size (node f at ps rest) = suc (size ps + size rest)
