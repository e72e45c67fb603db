-- How rows are made from a walk: the rows so far, and the nodes that have begun, the innermost first.
use Rattle.std.specs.Prelude.{ℕ, List, [], ◌∷◌, ◌++◌, length, reverse, Option, Some, None, slice_get, slice_set}
use Rattle.cr_base.specs.declared.ids.NodeId.{NodeId}
use Rattle.cr_core.specs.declared.form.Form.{Form}
use Rattle.cr_core.specs.declared.row.Place.{Place}
use Rattle.cr_core.specs.declared.row.Event.{Event}
use Rattle.cr_core.specs.declared.row.Event.TheVariants.{Open, Close}
use Rattle.cr_core.specs.declared.row.Row.{Row}
use Rattle.cr_core.specs.declared.walk.Begun.{Begun}
use Rattle.cr_core.specs.declared.walk.Linking.{Linking}
use Rattle.cr_core.specs.Arena.{node_id, inside, outermost}

pub record Seen : Type 0 where
  pub rows : List Row
  pub now : Begun
  pub around : List Begun

abbrev pub seen : Linking → Seen
seen l = record { rows = l.rows.items; now = l.now; around = reverse l.around.items }

abbrev pub with_parts : List NodeId → ℕ → List Row → Option Row → List Row
with_parts ps n rs None = rs
with_parts ps n rs (Some r) = slice_set rs n (record r { parts = ps })

abbrev pub closed : ℕ → List NodeId → List Row → List Row
closed n ps rs = with_parts ps n rs (slice_get rs n)

abbrev pub opened : Form → Place → ℕ → Seen → Seen
opened f at n s = record {
  rows = s.rows ++ record { form = f; place = at; within = s.now.inside; parts = [] } ∷ [];
  now = record { row = node_id n; inside = inside f n s.now.inside; parts = [] };
  around = record { row = s.now.row; inside = s.now.inside; parts = s.now.parts ++ node_id n ∷ [] } ∷ s.around;
}

abbrev pub ended : Seen → List Begun → Seen
ended s [] = s
ended s (b ∷ bs) = record { rows = closed s.now.row.0 s.now.parts s.rows; now = b; around = bs }

abbrev pub step : Event → Seen → Seen
step (Open f at) s = opened f at (length s.rows) s
step Close s = ended s s.around

abbrev pub steps : List Event → Seen → Seen
steps [] s = s
steps (e ∷ es) s = steps es (step e s)

-- nothing has begun yet
abbrev pub start : Seen
start = record { rows = []; now = record { row = node_id 0; inside = outermost; parts = [] }; around = [] }
