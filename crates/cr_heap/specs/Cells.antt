-- What a cell stands for: one of the meaning.
use Rattle.std.specs.Prelude.{ℕ, not, ◌||◌, if◌then◌else◌, length, List, slice_set, Option, Some, None}
use Rattle.cr_items.specs.Channel.{Channel}
use Rattle.cr_value.specs.declared.value.Value.{Value}
use Rattle.cr_meaning.specs.State as m
use Rattle.cr_meaning.specs.Channels.{is_empty}
use Rattle.cr_heap.specs.declared.cell.Instance.{Instance}
use Rattle.cr_heap.specs.declared.cell.Cell.{Cell}
use Rattle.cr_heap.specs.declared.cell.Cell.TheVariants as cell

abbrev pub instance_of : Instance → m.Instance
instance_of o = record { class = o.class; fields = o.fields.items }

abbrev pub cell_of : Cell → m.Cell
cell_of (cell.Object o) = m.Object (instance_of o)
cell_of (cell.Array values) = m.Array values
cell_of (cell.Hash pairs) = m.Hash pairs
cell_of (cell.Channel channel) = m.Chan channel
cell_of (cell.Context context) = m.Context context.0

-- the number of the item that a send to this channel makes, where that is open
abbrev pub number_in : Channel → Option ℕ
number_in channel = if channel.closed then None else Some (length channel.sent)

-- the value, where a meeting on this channel passes it: it is open, and its list is empty
abbrev pub passed_in : Value → Channel → Option Value
passed_in v channel = if channel.closed || not (is_empty channel.items) then None else Some v

-- The cells, where the channel of cell k is as this leaves it. Where that cell is no channel, nothing changes.
abbrev pub with_channel : (Channel → Channel) → List m.Cell → ℕ → Option Channel → List m.Cell
with_channel after cells k None = cells
with_channel after cells k (Some channel) = slice_set cells k (m.Chan (after channel))
