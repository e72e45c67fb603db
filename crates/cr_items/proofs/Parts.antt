-- The parts in which a channel is kept.
use Rattle.std.proofs.Common.{◌≡◌, ℕ, ◌+◌, ◌-◌, ◌<◌, ◌≤◌, Bool, true, false, List, [], ◌∷◌, ◌++◌, map, length, take, drop, min, refl, sym, ap, ◌∙◌, subst, arith, length-append, length-take, length-drop, length-take-le, get_or, get_or-drop, inl, inr, suc}
use Rattle.std.proofs.lemmas.List.{append_assoc, take-append-drop, take-take, drop-drop, drop-append-le, drop_all, take_all, take-map, map_push, length_push, drop_more, take_more}
use Rattle.std.proofs.lemmas.Bool.{both_ways, cases_lt}
use Rattle.cr_value.specs.declared.value.Value.{Value}
use Rattle.cr_value.specs.declared.value.Fate.TheVariants.{Waits, Passed, Withdrawn}
use Rattle.cr_items.specs.declared.item.Item.{Item}
use Rattle.cr_items.specs.Channel.{Channel, unsettled, passed, after_take, IsLawful}
use Rattle.cr_items.specs.Kept.{cut, IsKept}
use Rattle.cr_items.proofs.Numbers.{numbered_push}
use Rattle.cr_items.proofs.Fates.{IsFate, fate_passed, fate_waits, fate_withdrawn}

-- a list is its three parts
three_parts : (xs : List Item) (i j : ℕ) → xs ≡ take i xs ++ take j (drop i xs) ++ drop (i + j) xs
three_parts xs i j =
    sym (take-append-drop i xs)
    ∙ ap (λ (ys : List Item). take i xs ++ ys) (sym (take-append-drop j (drop i xs)) ∙ ap (λ (ys : List Item). take j (drop i xs) ++ ys) (drop-drop j i xs))
    ∙ sym (append_assoc (take i xs) (take j (drop i xs)) (drop (i + j) xs))

pub lawful_kept : (capacity : ℕ) (closed : Bool) (sent : List Item) (taken : ℕ) (copies : List Value) → IsKept capacity closed sent taken copies → IsLawful (cut capacity closed sent taken (length copies))
lawful_kept capacity closed sent taken copies h = record {
  joined = three_parts sent taken (length copies);
  numbered = h.numbered;
  open_withdrew_nothing = λ e. let whole = h.open_is_whole e in drop_all _ sent (omega arith);
  closed_is_settled = λ e. drop_all capacity (take (length copies) (drop taken sent)) (simp (length-take, length-drop) (let small = h.closed_is_settled e in omega arith));
}

-- the value of an item
abbrev value_of : Item → Value
value_of item = item.value

-- an open channel has no item behind those in the list
open_copies : (closed : Bool) (capacity : ℕ) (sent : List Item) (taken : ℕ) (copies : List Value) → IsKept capacity closed sent taken copies → closed ≡ false → copies ≡ map value_of (drop taken sent)
open_copies closed capacity sent taken copies h is_open =
    let whole = h.open_is_whole is_open in
    h.copied ∙ ap (map value_of) (take_all (length copies) (drop taken sent) (simp length-drop (omega arith)))

-- one more item that was sent to an open channel
pub kept_push : (capacity : ℕ) (closed : Bool) (sent : List Item) (taken : ℕ) (copies : List Value) (item : Item) → IsKept capacity closed sent taken copies → closed ≡ false → item.number ≡ length sent → IsKept capacity closed (sent ++ item ∷ []) taken (copies ++ item.value ∷ [])
kept_push capacity closed sent taken copies item h is_open e =
    let whole = h.open_is_whole is_open in
    let below : taken ≤ length sent = omega arith in
    let long_sent = length_push sent item in
    let long_copies = length_push copies item.value in
    let rest : drop taken (sent ++ item ∷ []) ≡ drop taken sent ++ item ∷ [] = drop-append-le taken sent (item ∷ []) below in
    let long_rest : length (drop taken sent ++ item ∷ []) ≡ length sent - taken + 1 = length_push (drop taken sent) item ∙ ap (λ (n : ℕ). n + 1) (length-drop taken sent) in
    let all : take (length (copies ++ item.value ∷ [])) (drop taken (sent ++ item ∷ [])) ≡ drop taken sent ++ item ∷ [] =
    ap (take (length (copies ++ item.value ∷ []))) rest ∙ take_all _ (drop taken sent ++ item ∷ []) (omega arith) in
    record {
      numbered = numbered_push 0 sent item h.numbered (omega arith);
      within = omega arith;
      copied =
          ap (λ (ys : List Value). ys ++ item.value ∷ []) (open_copies closed capacity sent taken copies h is_open)
          ∙ sym (map_push value_of (drop taken sent) item)
          ∙ ap (map value_of) (sym all);
      open_is_whole = λ _. omega arith;
      closed_is_settled = λ c. absurd (both_ways closed is_open c);
    }

-- the head of what is left of a list
tail_of_drop : (xs : List Item) (i : ℕ) (y : Item) (ys : List Item) → drop i xs ≡ y ∷ ys → (drop i xs ≡ y ∷ drop (i + 1) xs) × (take (i + 1) xs ≡ take i xs ++ y ∷ [])
tail_of_drop xs i y ys e =
    let low : i < length xs = (let long = ap length e in omega (arith, simp length-drop at long)) in
    let head : get_or xs i y ≡ y = ap (λ (n : ℕ). get_or xs n y) (omega arith) ∙ sym (get_or-drop i xs 0 y) ∙ ap (λ (zs : List Item). get_or zs 0 y) e in
    (drop_more xs i y low ∙ ap (λ (z : Item). z ∷ drop (i + 1) xs) head, take_more xs i y low ∙ ap (λ (z : Item). take i xs ++ z ∷ []) head)

-- the first item of the list, and what is left
record IsHead (sent : List Item) (taken : ℕ) (value : Value) (rest : List Value) (head : Item) : Type 0 where
  left : drop taken sent ≡ head ∷ drop (taken + 1) sent
  moved : take (taken + 1) sent ≡ take taken sent ++ head ∷ []
  given : value ≡ head.value
  copied : rest ≡ map value_of (take (length rest) (drop (taken + 1) sent))

head_in : (sent : List Item) (taken : ℕ) (value : Value) (rest : List Value) (tail : List Item) → drop taken sent ≡ tail → value ∷ rest ≡ map value_of (take (length (value ∷ rest)) tail) → (head : Item) × IsHead sent taken value rest head
head_in sent taken value rest [] e c = cc
head_in sent taken value rest (y ∷ ys) e c =
    let both = tail_of_drop sent taken y ys e in
    let same : ys ≡ drop (taken + 1) sent = (let one = sym e ∙ both.0 in cc) in (
      y,
      record {
        left = both.0;
        moved = both.1;
        given = cc;
        copied = rw (← same) cc;
      },
    )

-- what a receive leaves
pub kept_take : (capacity : ℕ) (closed : Bool) (sent : List Item) (taken : ℕ) (copies : List Value) (value : Value) (rest : List Value) → IsKept capacity closed sent taken copies → copies ≡ value ∷ rest → IsKept capacity closed sent (taken + 1) rest
kept_take capacity closed sent taken copies value rest h e =
    let long = ap length e in
    let head = head_in sent taken value rest (drop taken sent) refl (subst (λ (ys : List Value). ys ≡ map value_of (take (length ys) (drop taken sent))) e h.copied) in
    record {
      numbered = h.numbered;
      within = (let within = h.within in omega arith);
      copied = head.1.copied;
      open_is_whole = λ o. (let whole = h.open_is_whole o in omega arith);
      closed_is_settled = λ c. (let small = h.closed_is_settled c in omega arith);
    }

pub cut_take : (capacity : ℕ) (closed : Bool) (sent : List Item) (taken : ℕ) (copies : List Value) (value : Value) (rest : List Value) → IsKept capacity closed sent taken copies → copies ≡ value ∷ rest → cut capacity closed sent (taken + 1) (length rest) ≡ after_take (cut capacity closed sent taken (length copies))
cut_take capacity closed sent taken copies value rest h e =
    let head = head_in sent taken value rest (drop taken sent) refl (subst (λ (ys : List Value). ys ≡ map value_of (take (length ys) (drop taken sent))) e h.copied) in
    let same : taken + 1 + length rest ≡ taken + suc (length rest) = omega arith in
    rw e (rw (head.1.left, head.1.moved, same))

-- what a close leaves
pub kept_close : (capacity : ℕ) (closed : Bool) (sent : List Item) (taken : ℕ) (copies : List Value) → IsKept capacity closed sent taken copies → IsKept capacity true sent taken (take capacity copies)
kept_close capacity closed sent taken copies h =
    let within = h.within in
    let small = length-take capacity copies in
    record {
      numbered = h.numbered;
      within = omega arith;
      copied = elim (cases_lt (length copies) capacity) [
        | inl below ↦ rw (take_all capacity copies (omega arith)) h.copied
        | inr above ↦
            ap (take capacity) h.copied
            ∙ take-map value_of capacity (take (length copies) (drop taken sent))
            ∙ ap (map value_of) (
            take-take capacity (length copies) (drop taken sent) above
            ∙ ap (λ (n : ℕ). take n (drop taken sent)) (sym (length-take-le capacity copies above))
            )
      ];
      open_is_whole = λ e. absurd (both_ways true e refl);
      closed_is_settled = λ _. omega arith;
    }

-- What became of an item, by the numbers of items.

long_passed : (capacity : ℕ) (closed : Bool) (sent : List Item) (taken : ℕ) (copies : List Value) → IsKept capacity closed sent taken copies → length (passed (cut capacity closed sent taken (length copies))) ≡ taken + min (length copies) capacity
long_passed capacity closed sent taken copies h =
    let within = h.within in
    simp (length-append, length-take, length-drop) (omega arith)

long_unsettled : (capacity : ℕ) (closed : Bool) (sent : List Item) (taken : ℕ) (copies : List Value) → IsKept capacity closed sent taken copies → length (unsettled (cut capacity closed sent taken (length copies))) ≡ length copies - capacity
long_unsettled capacity closed sent taken copies h =
    let within = h.within in
    simp (length-take, length-drop) (omega arith)

pub kept_passed : (capacity : ℕ) (closed : Bool) (sent : List Item) (taken : ℕ) (copies : List Value) (channel : Channel) (number : ℕ) → IsKept capacity closed sent taken copies → cut capacity closed sent taken (length copies) ≡ channel → number < taken + min (length copies) capacity → IsFate channel number Passed
kept_passed capacity closed sent taken copies channel number h e low =
    let long = long_passed capacity closed sent taken copies h in
    subst (λ (c : Channel). IsFate c number Passed) e (fate_passed _ number (lawful_kept capacity closed sent taken copies h) (omega arith))

pub kept_waits : (capacity : ℕ) (closed : Bool) (sent : List Item) (taken : ℕ) (copies : List Value) (channel : Channel) (number : ℕ) → IsKept capacity closed sent taken copies → cut capacity closed sent taken (length copies) ≡ channel → taken + min (length copies) capacity ≤ number → number < taken + length copies → IsFate channel number Waits
kept_waits capacity closed sent taken copies channel number h e low high =
    let long = long_passed capacity closed sent taken copies h in
    let more = long_unsettled capacity closed sent taken copies h in
    subst (λ (c : Channel). IsFate c number Waits) e (fate_waits _ number (lawful_kept capacity closed sent taken copies h) (omega arith) (omega arith))

pub kept_withdrawn : (capacity : ℕ) (closed : Bool) (sent : List Item) (taken : ℕ) (copies : List Value) (channel : Channel) (number : ℕ) → IsKept capacity closed sent taken copies → cut capacity closed sent taken (length copies) ≡ channel → taken + length copies ≤ number → number < length channel.sent → IsFate channel number Withdrawn
kept_withdrawn capacity closed sent taken copies channel number h e low high =
    let long = long_passed capacity closed sent taken copies h in
    let more = long_unsettled capacity closed sent taken copies h in
    let all : sent ≡ channel.sent = ap (λ (c : Channel). c.sent) e in
    let size : length sent ≡ length channel.sent = ap length all in
    subst (λ (c : Channel). IsFate c number Withdrawn) e (fate_withdrawn _ number (lawful_kept capacity closed sent taken copies h) (omega arith) (omega arith))

pub lawful_view : (capacity : ℕ) (closed : Bool) (sent : List Item) (taken : ℕ) (copies : List Value) (channel : Channel) → IsKept capacity closed sent taken copies → cut capacity closed sent taken (length copies) ≡ channel → IsLawful channel
lawful_view capacity closed sent taken copies channel h e =
    subst (λ (c : Channel). IsLawful c) e (lawful_kept capacity closed sent taken copies h)

-- what an append leaves, from what its two pushes say
pub kept_append : (capacity : ℕ) (closed : Bool) (sent : List Item) (taken : ℕ) (copies : List Value) (item : Item) (copy : Value) (sent' : List Item) (copies' : List Value) → IsKept capacity closed sent taken copies → closed ≡ false → item.number ≡ length sent → copy ≡ item.value → sent' ≡ sent ++ item ∷ [] → copies' ≡ copies ++ copy ∷ [] → IsKept capacity closed sent' taken copies'
kept_append capacity closed sent taken copies item copy sent' copies' h is_open number same pushed copied =
    rw (pushed, copied, same) (kept_push capacity closed sent taken copies item h is_open number)
