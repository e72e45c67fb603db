-- How a channel is kept: all items that were ever sent, how many of them were received, and copies of the values
-- of those that stand in the list.
use Rattle.std.specs.Prelude.{◌≡◌, ℕ, ◌+◌, ◌≤◌, Bool, true, false, List, map, length, take, drop}
use Rattle.cr_value.specs.declared.value.Value.{Value}
use Rattle.cr_items.specs.declared.item.Item.{Item}
use Rattle.cr_items.specs.Channel.{Channel, IsNumberedFrom}

-- The channel of these items, of which the first `taken` were received and the next `waiting` stand in the list.
abbrev pub cut : ℕ → Bool → List Item → ℕ → ℕ → Channel
cut capacity closed sent taken waiting = record {
  capacity = capacity;
  closed = closed;
  items = take waiting (drop taken sent);
  sent = sent;
  received = take taken sent;
  withdrawn = drop (taken + waiting) sent;
}

-- What holds of the kept parts at each moment.
pub record IsKept (capacity : ℕ) (closed : Bool) (sent : List Item) (taken : ℕ) (copies : List Value) : Type 0 where
  pub numbered : IsNumberedFrom 0 sent
  pub within : taken + length copies ≤ length sent
  pub copied : copies ≡ map (λ item. item.value) (take (length copies) (drop taken sent))
  pub open_is_whole : closed ≡ false → taken + length copies ≡ length sent
  pub closed_is_settled : closed ≡ true → length copies ≤ capacity
