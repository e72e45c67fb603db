-- A channel as one list of numbered items, and what is done to it.
use Rattle.std.specs.Prelude.{◌≡◌, ℕ, ◌+◌, ◌==◌, Bool, true, false, List, [], ◌∷◌, ◌++◌, length, take, drop, Option, Some, None, if◌then◌else◌}
use Rattle.std.specs.List.{list_any}
use Rattle.cr_base.specs.declared.ids.FiberId.{FiberId}
use Rattle.cr_value.specs.declared.value.Value.{Value}
use Rattle.cr_value.specs.declared.value.Fate.{Fate}
use Rattle.cr_value.specs.declared.value.Fate.TheVariants.{Waits, Passed, Withdrawn}
use Rattle.cr_items.specs.declared.item.Item.{Item}

-- A channel: the items that stand in its list, those that were ever sent, those that were received, and those that
-- a close took back, each list in the order of sending.
pub record Channel : Type 0 where
  pub capacity : ℕ
  pub closed : Bool
  pub items : List Item
  pub sent : List Item
  pub received : List Item
  pub withdrawn : List Item

-- A channel to which nothing was done.
abbrev pub new_channel : ℕ → Channel
new_channel capacity = record {
  capacity = capacity;
  closed = false;
  items = [];
  sent = [];
  received = [];
  withdrawn = [];
}

-- The items of the list that have a place in the channel: the first `capacity`.
abbrev pub settled : Channel → List Item
settled channel = take channel.capacity channel.items

-- The items of the list whose senders wait.
abbrev pub unsettled : Channel → List Item
unsettled channel = drop channel.capacity channel.items

-- The items whose senders go on: those received and those settled.
abbrev pub passed : Channel → List Item
passed channel = channel.received ++ settled channel

-- The value that a receive gives: that of the head of the list.
abbrev pub head_value : List Item → Option Value
head_value [] = None
head_value (item ∷ items) = Some item.value

-- The item that a send makes. Its number is that of the items sent before it.
abbrev pub next_item : Channel → FiberId → Value → Item
next_item channel from value = record { number = length channel.sent; from = from; value = value }

-- Appending puts a new item into the list and into `sent`.
abbrev pub after_append : Channel → FiberId → Value → Channel
after_append channel from value = record channel {
  items = channel.items ++ next_item channel from value ∷ [];
  sent = channel.sent ++ next_item channel from value ∷ [];
}

-- Taking moves the head of the list to `received`. From an empty list nothing is taken.
abbrev pub after_taking : Channel → List Item → Channel
after_taking channel [] = channel
after_taking channel (item ∷ items) = record channel { items = items; received = channel.received ++ item ∷ [] }

abbrev pub after_take : Channel → Channel
after_take channel = after_taking channel channel.items

-- A meeting of a sender with a receiver puts one new item into `sent` and `received` at once.
abbrev pub after_meeting : Channel → FiberId → Value → Channel
after_meeting channel from value = record channel {
  sent = channel.sent ++ next_item channel from value ∷ [];
  received = channel.received ++ next_item channel from value ∷ [];
}

-- Closing moves the unsettled items to `withdrawn`.
abbrev pub after_close : Channel → Channel
after_close channel = record channel {
  closed = true;
  items = settled channel;
  withdrawn = channel.withdrawn ++ unsettled channel;
}

-- What can be done to a channel.
pub data Operation : Type 0 where
  Append : FiberId → Value → Operation
  Take : Operation
  Meet : FiberId → Value → Operation
  Close : Operation

-- Nobody sends to a closed channel.
abbrev pub after_sending : Bool → Channel → Channel → Channel
after_sending true channel sent = channel
after_sending false channel sent = sent

-- A meeting is made where the list is empty.
abbrev pub after_passing : List Item → Channel → Channel → Channel
after_passing [] channel passed = passed
after_passing (item ∷ items) channel passed = channel

-- One operation. Where it cannot be done, nothing is: an append or a meeting on a closed channel, a meeting where
-- items stand in the list, a take from an empty list.
abbrev pub after : Channel → Operation → Channel
after channel (Append from value) = after_sending channel.closed channel (after_append channel from value)
after channel Take = after_take channel
after channel (Meet from value) =
    after_sending channel.closed channel (after_passing channel.items channel (after_meeting channel from value))
after channel Close = after_close channel

-- One operation after the other.
abbrev pub run : Channel → List Operation → Channel
run channel [] = channel
run channel (operation ∷ operations) = run (after channel operation) operations

-- The first list is the beginning of the second.
abbrev pub IsFront : List Item → List Item → Type 0
IsFront front whole = (rest : List Item) × (whole ≡ front ++ rest)

-- The items have the numbers from this one on, in order.
abbrev pub IsNumberedFrom : ℕ → List Item → Type 0
IsNumberedFrom number [] = Unit {0}
IsNumberedFrom number (item ∷ items) = (item.number ≡ number) × IsNumberedFrom (number + 1) items

-- What holds of a channel at each moment.
pub record IsLawful (channel : Channel) : Type 0 where
  pub joined : channel.sent ≡ channel.received ++ channel.items ++ channel.withdrawn
  pub numbered : IsNumberedFrom 0 channel.sent
  pub open_withdrew_nothing : channel.closed ≡ false → channel.withdrawn ≡ []
  pub closed_is_settled : channel.closed ≡ true → unsettled channel ≡ []

-- One of the items has this number.
abbrev pub has_number : List Item → ℕ → Bool
has_number items number = list_any (λ item. item.number == number) items

-- What became of the item of this number, of those that were sent.
abbrev pub fate_of : Channel → ℕ → Fate
fate_of channel number =
    if has_number channel.withdrawn number
    then Withdrawn
    else (if has_number (unsettled channel) number then Waits else Passed)
