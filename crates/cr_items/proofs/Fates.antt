-- What became of an item, by its place among those that were sent.
use Rattle.std.proofs.Common.{◌≡◌, ◌↔◌, ℕ, ◌+◌, ◌<◌, ◌≤◌, IsTrue, true, false, List, ◌++◌, length, refl, sym, ap, ◌∙◌, subst, inl, inr, arith, length-append, zero-add}
use Rattle.std.proofs.lemmas.List.{append_assoc, take-append-drop}
use Rattle.std.proofs.lemmas.Bool.{cases_lt, both_ways}
use Rattle.cr_value.specs.declared.value.Fate.{Fate}
use Rattle.cr_value.specs.declared.value.Fate.TheVariants.{Waits, Passed, Withdrawn}
use Rattle.cr_items.specs.declared.item.Item.{Item}
use Rattle.cr_items.specs.Channel.{Channel, settled, unsettled, passed, has_number, fate_of, IsNumberedFrom, IsLawful}
use Rattle.cr_items.proofs.Numbers.{numbered_front, numbered_rest, has_within, has_below, has_above}

-- this is the fate of the item
pub record IsFate (channel : Channel) (number : ℕ) (fate : Fate) : Type 0 where
  pub value : fate ≡ fate_of channel number
  pub passed : (fate ≡ Passed) ↔ IsTrue (has_number (passed channel) number)
  pub waits : (fate ≡ Waits) ↔ IsTrue (has_number (unsettled channel) number)
  pub withdrawn : (fate ≡ Withdrawn) ↔ IsTrue (has_number channel.withdrawn number)

-- the three parts of what was sent are numbered one after the other
record AreParts (channel : Channel) : Type 0 where
  passed_from : IsNumberedFrom 0 (passed channel)
  unsettled_from : IsNumberedFrom (length (passed channel)) (unsettled channel)
  withdrawn_from : IsNumberedFrom (length (passed channel) + length (unsettled channel)) channel.withdrawn
  all : length channel.sent ≡ length (passed channel) + length (unsettled channel) + length channel.withdrawn

parts : (channel : Channel) → IsLawful channel → AreParts channel
parts channel h =
    let e : channel.sent ≡ (passed channel ++ unsettled channel) ++ channel.withdrawn =
    h.joined
    ∙ ap (λ (ys : List Item). channel.received ++ ys ++ channel.withdrawn) (sym (take-append-drop channel.capacity channel.items))
    ∙ ap (λ (ys : List Item). ys ++ channel.withdrawn) (sym (append_assoc channel.received (settled channel) (unsettled channel))) in
    let numbered : IsNumberedFrom 0 ((passed channel ++ unsettled channel) ++ channel.withdrawn) =
    subst (λ (xs : List Item). IsNumberedFrom 0 xs) e h.numbered in
    let first = numbered_front 0 (passed channel ++ unsettled channel) channel.withdrawn numbered in
    let last = numbered_rest 0 (passed channel ++ unsettled channel) channel.withdrawn numbered in
    record {
      passed_from = numbered_front 0 (passed channel) (unsettled channel) first;
      unsettled_from =
          subst (λ (n : ℕ). IsNumberedFrom n (unsettled channel)) (zero-add (length (passed channel)))
          (numbered_rest 0 (passed channel) (unsettled channel) first);
      withdrawn_from =
          subst (λ (n : ℕ). IsNumberedFrom n channel.withdrawn)
          (zero-add (length (passed channel ++ unsettled channel)) ∙ length-append (passed channel) (unsettled channel))
          last;
      all = ap length e ∙ length-append (passed channel ++ unsettled channel) channel.withdrawn
          ∙ ap (λ (n : ℕ). n + length channel.withdrawn) (length-append (passed channel) (unsettled channel));
    }

-- the item stands in one of the three parts alone
passed_alone : (channel : Channel) (number : ℕ) → has_number (passed channel) number ≡ true → has_number (unsettled channel) number ≡ false → has_number channel.withdrawn number ≡ false → IsFate channel number Passed
passed_alone channel number p u w = record {
  value = rw (w, u);
  passed = (λ _. p, λ _. refl);
  waits = (λ e. cc, λ t. absurd (both_ways _ u t));
  withdrawn = (λ e. cc, λ t. absurd (both_ways _ w t));
}

waits_alone : (channel : Channel) (number : ℕ) → has_number (passed channel) number ≡ false → has_number (unsettled channel) number ≡ true → has_number channel.withdrawn number ≡ false → IsFate channel number Waits
waits_alone channel number p u w = record {
  value = rw (w, u);
  passed = (λ e. cc, λ t. absurd (both_ways _ p t));
  waits = (λ _. u, λ _. refl);
  withdrawn = (λ e. cc, λ t. absurd (both_ways _ w t));
}

withdrawn_alone : (channel : Channel) (number : ℕ) → has_number (passed channel) number ≡ false → has_number (unsettled channel) number ≡ false → has_number channel.withdrawn number ≡ true → IsFate channel number Withdrawn
withdrawn_alone channel number p u w = record {
  value = rw w;
  passed = (λ e. cc, λ t. absurd (both_ways _ p t));
  waits = (λ e. cc, λ t. absurd (both_ways _ u t));
  withdrawn = (λ _. w, λ _. refl);
}

pub fate_passed : (channel : Channel) (number : ℕ) → IsLawful channel → number < length (passed channel) → IsFate channel number Passed
fate_passed channel number h low =
    let three = parts channel h in
    passed_alone channel number
    (has_within 0 (passed channel) number three.passed_from (omega arith) (omega arith))
    (has_below _ (unsettled channel) number three.unsettled_from low)
    (has_below _ channel.withdrawn number three.withdrawn_from (omega arith))

pub fate_waits : (channel : Channel) (number : ℕ) → IsLawful channel → length (passed channel) ≤ number → number < length (passed channel) + length (unsettled channel) → IsFate channel number Waits
fate_waits channel number h low high =
    let three = parts channel h in
    waits_alone channel number
    (has_above 0 (passed channel) number three.passed_from (omega arith))
    (has_within _ (unsettled channel) number three.unsettled_from low high)
    (has_below _ channel.withdrawn number three.withdrawn_from high)

pub fate_withdrawn : (channel : Channel) (number : ℕ) → IsLawful channel → length (passed channel) + length (unsettled channel) ≤ number → number < length channel.sent → IsFate channel number Withdrawn
fate_withdrawn channel number h low high =
    let three = parts channel h in
    withdrawn_alone channel number
    (has_above 0 (passed channel) number three.passed_from (omega arith))
    (has_above _ (unsettled channel) number three.unsettled_from low)
    (has_within _ channel.withdrawn number three.withdrawn_from low (omega arith))

-- what is the fate is `fate_of`
is_fate_of : (channel : Channel) (number : ℕ) (fate : Fate) → IsFate channel number fate → IsFate channel number (fate_of channel number)
is_fate_of channel number fate h = subst (λ (f : Fate). IsFate channel number f) h.value h

-- each item that was sent has the one fate
pub fate_is : (channel : Channel) (number : ℕ) → IsLawful channel → number < length channel.sent → IsFate channel number (fate_of channel number)
fate_is channel number h sent = elim (cases_lt number (length (passed channel))) [
  | inl low ↦ is_fate_of channel number Passed (fate_passed channel number h low)
  | inr past ↦ elim (cases_lt number (length (passed channel) + length (unsettled channel))) [
    | inl within ↦ is_fate_of channel number Waits (fate_waits channel number h past within)
    | inr high ↦ is_fate_of channel number Withdrawn (fate_withdrawn channel number h high sent)
  ]
]
