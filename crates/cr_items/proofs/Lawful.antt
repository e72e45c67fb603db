-- Each operation keeps what holds of a channel.
use Rattle.std.proofs.Common.{◌≡◌, ℕ, Bool, true, false, List, [], ◌∷◌, ◌++◌, ◌⊎◌, length, take, drop, refl, sym, ap, ◌∙◌, subst, inl, inr, arith, length-take, length-drop}
use Rattle.std.proofs.lemmas.List.{append_assoc, append-nil, take-append-drop, nil_from_length}
use Rattle.std.proofs.lemmas.Bool.{cases_Bool, both_ways}
use Rattle.cr_base.specs.declared.ids.FiberId.{FiberId}
use Rattle.cr_value.specs.declared.value.Value.{Value}
use Rattle.cr_items.specs.declared.item.Item.{Item}
use Rattle.cr_items.specs.Channel.{Channel, Operation, Append, Take, Meet, Close, new_channel, next_item, settled, unsettled, passed, after_append, after_taking, after_meeting, after_close, after_sending, after_passing, after, run, IsFront, IsNumberedFrom, IsLawful}
use Rattle.cr_items.proofs.Numbers.{numbered_push, numbered_front}

pub lawful_new : (capacity : ℕ) → IsLawful (new_channel capacity)
lawful_new capacity = record {
  joined = refl;
  numbered = tt;
  open_withdrew_nothing = λ _. refl;
  closed_is_settled = λ e. absurd (both_ways true (sym e) refl);
}

pub lawful_append : (channel : Channel) (from : FiberId) (value : Value) → IsLawful channel → channel.closed ≡ false → IsLawful (after_append channel from value)
lawful_append channel from value h is_open =
    let nothing = h.open_withdrew_nothing is_open in
    record {
      joined = rw (nothing, h.joined) (rw nothing (simp (append-nil, append_assoc)));
      numbered = numbered_push 0 channel.sent (next_item channel from value) h.numbered (omega arith);
      open_withdrew_nothing = h.open_withdrew_nothing;
      closed_is_settled = λ e. absurd (both_ways channel.closed is_open e);
    }

-- a shorter list is settled too
settled_rest : (capacity : ℕ) (x : Item) (xs : List Item) → drop capacity (x ∷ xs) ≡ [] → drop capacity xs ≡ []
settled_rest capacity x xs e =
    let long : length (drop capacity (x ∷ xs)) ≡ 0 = ap length e in
    nil_from_length _ (simp length-drop (omega (arith, simp length-drop at long)))

pub lawful_taking : (channel : Channel) (items : List Item) → channel.items ≡ items → IsLawful channel → IsLawful (after_taking channel items)
lawful_taking channel [] e h = h
lawful_taking channel (x ∷ xs) e h = record {
  joined = h.joined ∙ ap (λ (ys : List Item). channel.received ++ ys ++ channel.withdrawn) e ∙ simp append_assoc;
  numbered = h.numbered;
  open_withdrew_nothing = h.open_withdrew_nothing;
  closed_is_settled = λ c. settled_rest channel.capacity x xs (ap (drop channel.capacity) (sym e) ∙ h.closed_is_settled c);
}

pub lawful_meeting : (channel : Channel) (from : FiberId) (value : Value) → IsLawful channel → channel.closed ≡ false → channel.items ≡ [] → IsLawful (after_meeting channel from value)
lawful_meeting channel from value h is_open empty =
    let nothing = h.open_withdrew_nothing is_open in
    record {
      joined = rw (h.joined, empty, nothing) (simp append-nil);
      numbered = numbered_push 0 channel.sent (next_item channel from value) h.numbered (omega arith);
      open_withdrew_nothing = h.open_withdrew_nothing;
      closed_is_settled = λ e. absurd (both_ways channel.closed is_open e);
    }

-- the settled items have none past the capacity
settled_settled : (capacity : ℕ) (xs : List Item) → drop capacity (take capacity xs) ≡ []
settled_settled capacity xs = nil_from_length _ (simp (length-drop, length-take) (omega arith))

-- where the withdrawn or the unsettled are none, these may stand behind those
swap_none : (front back late : List Item) → (late ≡ []) ⊎ (back ≡ []) → (front ++ back) ++ late ≡ front ++ (late ++ back)
swap_none front back late (inl e) = rw e (simp append-nil)
swap_none front back late (inr e) = rw e (simp append-nil)

-- a close that had items to withdraw is the first
one_close : (channel : Channel) → IsLawful channel → (channel.withdrawn ≡ []) ⊎ (unsettled channel ≡ [])
one_close channel h = elim (cases_Bool channel.closed) [
  | inl is_closed ↦ inr (h.closed_is_settled is_closed)
  | inr is_open ↦ inl (h.open_withdrew_nothing is_open)
]

close_joined : (channel : Channel) → IsLawful channel → channel.sent ≡ channel.received ++ settled channel ++ (channel.withdrawn ++ unsettled channel)
close_joined channel h =
    h.joined
    ∙ ap (λ (ys : List Item). channel.received ++ ys ++ channel.withdrawn) (sym (take-append-drop channel.capacity channel.items))
    ∙ ap (λ (ys : List Item). ys ++ channel.withdrawn) (sym (append_assoc channel.received (settled channel) (unsettled channel)))
    ∙ swap_none (channel.received ++ settled channel) (unsettled channel) channel.withdrawn (one_close channel h)

pub lawful_close : (channel : Channel) → IsLawful channel → IsLawful (after_close channel)
lawful_close channel h = record {
  joined = close_joined channel h;
  numbered = h.numbered;
  open_withdrew_nothing = λ e. absurd (both_ways true e refl);
  closed_is_settled = λ _. settled_settled channel.capacity channel.items;
}

-- what is sent to a channel of which this is known
lawful_sending : (closed : Bool) (channel sent : Channel) → IsLawful channel → (closed ≡ false → IsLawful sent) → IsLawful (after_sending closed channel sent)
lawful_sending true channel sent h go = h
lawful_sending false channel sent h go = go refl

lawful_passing : (items : List Item) (channel passed : Channel) → IsLawful channel → (items ≡ [] → IsLawful passed) → IsLawful (after_passing items channel passed)
lawful_passing [] channel passed h go = go refl
lawful_passing (x ∷ xs) channel passed h go = h

pub lawful_after : (channel : Channel) (operation : Operation) → IsLawful channel → IsLawful (after channel operation)
lawful_after channel (Append from value) h = lawful_sending channel.closed channel _ h (λ is_open. lawful_append channel from value h is_open)
lawful_after channel Take h = lawful_taking channel channel.items refl h
lawful_after channel (Meet from value) h =
    lawful_sending channel.closed channel _ h (λ is_open.
    lawful_passing channel.items channel _ h (λ empty. lawful_meeting channel from value h is_open empty))
lawful_after channel Close h = lawful_close channel h

pub lawful_run : (channel : Channel) (operations : List Operation) → IsLawful channel → IsLawful (run channel operations)
lawful_run channel [] h = h
lawful_run channel (operation ∷ operations) h = lawful_run (after channel operation) operations (lawful_after channel operation h)

-- What was received stays.

front_trans : (xs ys zs : List Item) → IsFront xs ys → IsFront ys zs → IsFront xs zs
front_trans xs ys zs h k = (h.0 ++ k.0, k.1 ∙ ap (λ (us : List Item). us ++ k.0) h.1 ∙ append_assoc xs h.0 k.0)

front_same : (xs : List Item) → IsFront xs xs
front_same xs = ([], sym (append-nil xs))

front_taking : (channel : Channel) (items : List Item) → IsFront channel.received (after_taking channel items).received
front_taking channel [] = front_same channel.received
front_taking channel (x ∷ xs) = (x ∷ [], refl)

front_sending : (closed : Bool) (channel sent : Channel) → IsFront channel.received sent.received → IsFront channel.received (after_sending closed channel sent).received
front_sending true channel sent h = front_same channel.received
front_sending false channel sent h = h

front_passing : (items : List Item) (channel passed : Channel) → IsFront channel.received passed.received → IsFront channel.received (after_passing items channel passed).received
front_passing [] channel passed h = h
front_passing (x ∷ xs) channel passed h = front_same channel.received

front_after : (channel : Channel) (operation : Operation) → IsFront channel.received (after channel operation).received
front_after channel (Append from value) = front_sending channel.closed channel (after_append channel from value) (front_same channel.received)
front_after channel Take = front_taking channel channel.items
front_after channel (Meet from value) =
    front_sending channel.closed channel (after_passing channel.items channel (after_meeting channel from value))
    (front_passing channel.items channel (after_meeting channel from value) (next_item channel from value ∷ [], refl))
front_after channel Close = front_same channel.received

pub received_stays : (channel : Channel) (operations : List Operation) → IsFront channel.received (run channel operations).received
received_stays channel [] = front_same channel.received
received_stays channel (operation ∷ operations) =
    front_trans _ _ _ (front_after channel operation) (received_stays (after channel operation) operations)

pub received_front : (channel : Channel) → IsLawful channel → IsFront channel.received channel.sent
received_front channel h = (channel.items ++ channel.withdrawn, h.joined ∙ append_assoc channel.received channel.items channel.withdrawn)

pub received_in_order : (channel : Channel) → IsLawful channel → IsNumberedFrom 0 channel.received
received_in_order channel h =
    let front = received_front channel h in
    numbered_front 0 channel.received front.0 (subst (λ (xs : List Item). IsNumberedFrom 0 xs) front.1 h.numbered)

-- A second close changes nothing.
pub closed_stays : (channel : Channel) → IsLawful channel → channel.closed ≡ true → after_close channel ≡ channel
closed_stays channel h is_closed =
    let none = h.closed_is_settled is_closed in
    let all : take channel.capacity channel.items ≡ channel.items =
    sym (append-nil _) ∙ ap (λ (xs : List Item). take channel.capacity channel.items ++ xs) (sym none) ∙ take-append-drop channel.capacity channel.items in
    rw (all, none, append-nil, ← is_closed)

-- After a close nothing is received but what had passed.

-- the channel is closed, and what was received and what stands in the list is the beginning of this list
record IsWithin (whole : List Item) (channel : Channel) : Type 0 where
  closed : channel.closed ≡ true
  rest : List Item
  beginning : whole ≡ channel.received ++ channel.items ++ rest

within_taking : (whole : List Item) (channel : Channel) (items : List Item) → channel.items ≡ items → IsWithin whole channel → IsWithin whole (after_taking channel items)
within_taking whole channel [] e h = h
within_taking whole channel (x ∷ xs) e h = record {
  closed = h.closed;
  rest = h.rest;
  beginning = h.beginning ∙ ap (λ (ys : List Item). channel.received ++ ys ++ h.rest) e ∙ simp append_assoc;
}

within_sending : (whole : List Item) (closed : Bool) (channel sent : Channel) → closed ≡ true → IsWithin whole channel → IsWithin whole (after_sending closed channel sent)
within_sending whole true channel sent c h = h
within_sending whole false channel sent c h = absurd (both_ways false refl c)

within_close : (whole : List Item) (channel : Channel) → IsWithin whole channel → IsWithin whole (after_close channel)
within_close whole channel h = record {
  closed = refl;
  rest = unsettled channel ++ h.rest;
  beginning =
      h.beginning
      ∙ ap (λ (ys : List Item). channel.received ++ ys ++ h.rest) (sym (take-append-drop channel.capacity channel.items))
      ∙ simp append_assoc;
}

within_after : (whole : List Item) (channel : Channel) (operation : Operation) → IsWithin whole channel → IsWithin whole (after channel operation)
within_after whole channel (Append from value) h = within_sending whole channel.closed channel _ h.closed h
within_after whole channel Take h = within_taking whole channel channel.items refl h
within_after whole channel (Meet from value) h = within_sending whole channel.closed channel _ h.closed h
within_after whole channel Close h = within_close whole channel h

within_run : (whole : List Item) (channel : Channel) (operations : List Operation) → IsWithin whole channel → IsWithin whole (run channel operations)
within_run whole channel [] h = h
within_run whole channel (operation ∷ operations) h = within_run whole (after channel operation) operations (within_after whole channel operation h)

pub received_after_close : (channel : Channel) (operations : List Operation) → IsFront (run (after_close channel) operations).received (passed channel)
received_after_close channel operations =
    let start : IsWithin (passed channel) (after_close channel) = record { closed = refl; rest = []; beginning = sym (append-nil (passed channel)) } in
    let h = within_run (passed channel) (after_close channel) operations start in
    let last = run (after_close channel) operations in
    (last.items ++ h.rest, h.beginning ∙ append_assoc last.received last.items h.rest)
