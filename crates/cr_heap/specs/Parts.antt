-- A cell by itself: as an object or a channel, and whether what it answers leaves it as it was.
use Rattle.std.specs.Prelude.{Bool, true, false, List, Option, Some, None, slice_get}
use Rattle.cr_value.specs.declared.value.Value.{Value}
use Rattle.cr_value.specs.declared.value.Value.TheVariants.{Ref}
use Rattle.cr_items.specs.Channel.{Channel}
use Rattle.cr_builtins.specs.declared.answer.Answer.{Answer}
use Rattle.cr_builtins.specs.declared.answer.Answer.TheVariants as answer
use Rattle.cr_meaning.specs.State as m
use Rattle.cr_meaning.specs.Channels.{channel_in}
use Rattle.cr_meaning.specs.Reduce.{object_in}

-- the object that a receiver refers to
abbrev pub object_of : List m.Cell → Option Value → Option m.Instance
object_of cells (Some (Ref r)) = object_in (slice_get cells r.cell)
object_of cells other = None

-- a cell as a channel
abbrev pub channel_of : m.Cell → Option Channel
channel_of cell = channel_in (Some cell)

-- The cell that a channel becomes, where this is done to it. Any other cell stays as it is.
abbrev pub changed : (Channel → Channel) → m.Cell → m.Cell
changed after (m.Chan channel) = m.Chan (after channel)
changed after other = other

-- whether what answers so may have changed: what makes an array, raises or is stuck stays as it was
abbrev pub may_change : Answer → Bool
may_change (answer.Gives v) = true
may_change answer.Itself = true
may_change (answer.Makes vs) = false
may_change (answer.Raises raise) = false
may_change answer.Stuck = false
