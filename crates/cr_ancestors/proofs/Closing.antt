-- Following what stands directly above finds exactly what is above.
use Rattle.std.proofs.Common.{◌≡◌, ℕ, zero, suc, ◌+◌, ◌<◌, ◌≤◌, ◌⊎◌, inl, inr, eqb, List, [], ◌∷◌, ◌++◌, length, map, get_or, Option, Some, None, Contains, refl, sym, ap, ◌∙◌, subst, arith, length-append, eqb-true, true}
use Rattle.std.specs.Prelude.{slice_get, unwrap_or, All, ◌≢◌}
use Rattle.std.specs.List.{list_any, IsDistinct}
use Rattle.std.proofs.lemmas.Bool.{cases_lt}
use Rattle.std.proofs.lemmas.Bool.Decides.{Decides-eqb}
use Rattle.std.proofs.lemmas.List.{get_or-map, length-map}
use Rattle.std.proofs.lemmas.List.Elements.{All-contains, Contains-append_left}
use Rattle.std.proofs.lemmas.Map.Made.{IsDistinct-from_AllPairs}
use Rattle.std.proofs.lemmas.Map.Steps.{length-le_from_distinct_below}
use Rattle.std.proofs.lemmas.Option.{slice_get_within, slice_get-get_or, unwrap_or-slice_get, same_Some}
use Rattle.cr_base.specs.declared.ids.ClassId.{ClassId}
use Rattle.cr_ancestors.specs.Above as up
use Rattle.cr_ancestors.specs.Above.{ups_of, IsAbove, IsWithin}
use Rattle.cr_ancestors.specs.Line.{has, with_one, kept, IsOnce}
use Rattle.cr_ancestors.specs.Making.{IsClosing}
use Rattle.cr_ancestors.proofs.Members.{none_in, in_head, in_tail, in_cases, in_at, has_from, contains_from, or_from, class_same}
use Rattle.cr_ancestors.proofs.Kept.{kept_front, kept_keeps, kept_has, kept_once, once_none, one_from}

-- what is listed was there or is new
pub kept_from : (xs ys : List ClassId) (x : ClassId) → Contains (kept xs ys) x → Contains xs x ⊎ Contains ys x
kept_from xs [] x h = inl h
kept_from xs (y ∷ ys) x h = elim (kept_from (with_one xs y) ys x h) [
  | inl old ↦ elim (one_from xs y x old) [ inl there ↦ inl there | inr e ↦ inr (subst (Contains (y ∷ ys)) e (in_head y ys)) ]
  | inr more ↦ inr (in_tail y x ys more)
]

old_in : (xs ys : List ClassId) (x : ClassId) → Contains xs x → Contains (kept xs ys) x
old_in xs ys x h = contains_from (kept xs ys) x (kept_keeps xs ys x (has_from xs x h))

new_in : (xs ys : List ClassId) (x : ClassId) → Contains ys x → Contains (kept xs ys) x
new_in xs ys x h = contains_from (kept xs ys) x (kept_has xs ys x (has_from ys x h))

front_get : (xs ys : List ClassId) (j : ℕ) (e : ClassId) → j < length xs → slice_get (xs ++ ys) j ≡ Some e → slice_get xs j ≡ Some e
front_get [] ys j e lt h = absurd (omega (arith, lt))
front_get (x ∷ xs) ys zero e lt h = h
front_get (x ∷ xs) ys (suc j) e lt h = front_get xs ys j e (omega (arith, lt)) h

numbers_in : (xs : List ClassId) (n : ℕ) → list_any (eqb n) (map (λ (c : ClassId). c.0) xs) ≡ true → (x : ClassId) × Contains xs x × (x.0 ≡ n)
numbers_in [] n h = absurd cc
numbers_in (x ∷ xs) n h = elim (or_from (eqb n x.0) (list_any (eqb n) (map (λ (c : ClassId). c.0) xs)) h) [
  | inl e ↦ (x, in_head x xs, sym (eqb-true n x.0 e))
  | inr more ↦ let found = numbers_in xs n more in (found.0, in_tail x found.0 xs found.1, found.2)
]

module _ (hierarchy : List (List ClassId)) (class : ClassId) (within : IsWithin hierarchy) where
  pub up_low : (below above : ClassId) → Contains (ups_of hierarchy below) above → above.0 < length hierarchy
  up_low below above there = by (slice_get hierarchy below.0) refl there
    where
      by : (o : Option (List ClassId)) → slice_get hierarchy below.0 ≡ o → Contains (unwrap_or o []) above → above.0 < length hierarchy
      by None e there = absurd (none_in above there)
      by (Some ups) e there =
          let lt = slice_get_within hierarchy below.0 ups e in
          let same : get_or hierarchy below.0 [] ≡ ups = same_Some (get_or hierarchy below.0 []) ups (sym (slice_get-get_or hierarchy below.0 [] lt) ∙ e) in
          All-contains (λ (up : ClassId). up.0 < length hierarchy) ups above (subst (All (λ (up : ClassId). up.0 < length hierarchy)) same (within.each below.0 [] lt)) there

  above_low : (above : ClassId) → IsAbove hierarchy class above → above.0 < length hierarchy
  above_low above (up.directly one there) = up_low class above there
  above_low above (up.further middle one below there) = up_low middle above there

  pub next_low : (found : List ClassId) (done n : ℕ) (next : ClassId) → IsClosing hierarchy class found done → slice_get found n ≡ Some next → next.0 < length hierarchy
  next_low found done n next h at = above_low next (h.sound next (in_at found n next at))

  pub few : (found : List ClassId) (done : ℕ) → IsClosing hierarchy class found done → length found ≤ length hierarchy
  few found done h =
      let ns = map (λ (c : ClassId). c.0) found in
      let distinct : IsDistinct eqb ns = IsDistinct-from_AllPairs Decides-eqb ns apart in
      let most = length-le_from_distinct_below ns (length hierarchy) distinct low in
      let same = length-map found (λ (c : ClassId). c.0) in
      omega (arith, most, same)
    where
      low : (n : ℕ) → list_any (eqb n) (map (λ (c : ClassId). c.0) found) ≡ true → n < length hierarchy
      low n m = let x = numbers_in found n m in let lt = above_low x.0 (h.sound x.0 x.1) in let e = x.2 in omega (arith, lt, e)

      apart : (i j d : ℕ) → i < j → j < length (map (λ (c : ClassId). c.0) found) → get_or (map (λ (c : ClassId). c.0) found) i d ≢ get_or (map (λ (c : ClassId). c.0) found) j d
      apart i j d lt long e =
          let len = length-map found (λ (c : ClassId). c.0) in
          let d' : ClassId = record { 0 = d } in
          let jn : j < length found = omega (arith, long, len) in
          let first = get_or-map (λ (c : ClassId). c.0) found i d' d (omega (arith, jn, lt)) in
          let second = get_or-map (λ (c : ClassId). c.0) found j d' d jn in
          h.once i j d' lt jn (class_same (get_or found i d') (get_or found j d') (sym first ∙ e ∙ second))

  pub closing_start : IsClosing hierarchy class (kept [] (ups_of hierarchy class)) 0
  closing_start = record {
    sound = λ above h. elim (kept_from [] (ups_of hierarchy class) above h) [ inl never ↦ absurd (none_in above never) | inr there ↦ up.directly above there ];
    first = λ above there. new_in [] (ups_of hierarchy class) above there;
    closed = λ j one above lt. absurd (omega (arith, lt));
    once = kept_once [] (ups_of hierarchy class) once_none;
    done_within = omega arith;
  }

  pub closing_step : (found : List ClassId) (done : ℕ) (next : ClassId) → IsClosing hierarchy class found done → slice_get found done ≡ Some next → IsClosing hierarchy class (kept found (ups_of hierarchy next)) (done + 1)
  closing_step found done next h at =
      let ups = ups_of hierarchy next in
      let more = kept_front found ups in
      let lt = slice_get_within found done next at in
      let long : length (kept found ups) ≡ length found + length more.0 = ap length more.1 ∙ length-append found more.0 in
      let over = h.sound next (in_at found done next at) in
      record {
        sound = λ above m. elim (kept_from found ups above m) [ inl old ↦ h.sound above old | inr new ↦ up.further next above over new ];
        first = λ above there. old_in found ups above (h.first above there);
        closed = λ j one above low is there.
            let front = front_get found more.0 j one (omega (arith, low, lt)) (subst (λ (l : List ClassId). slice_get l j ≡ Some one) more.1 is) in
            elim (split j low) [
              | inl before ↦ old_in found ups above (h.closed j one above before front there)
              | inr e ↦ let same : one ≡ next = same_Some one next (sym front ∙ ap (slice_get found) e ∙ at) in
                  new_in found ups above (subst (λ (c : ClassId). Contains (ups_of hierarchy c) above) same there)
            ];
        once = kept_once found ups h.once;
        done_within = omega (arith, lt, long);
      }
    where
      split : (j : ℕ) → j < done + 1 → (j < done) ⊎ (j ≡ done)
      split j l = elim (cases_lt j done) [ inl a ↦ inl a | inr b ↦ inr (omega (arith, l, b)) ]

  pub closing_end : (found : List ClassId) (done : ℕ) → IsClosing hierarchy class found done → length found ≤ done → (above : ClassId) → IsAbove hierarchy class above → Contains found above
  closing_end found done h le above (up.directly one there) = h.first above there
  closing_end found done h le above (up.further middle one below there) =
      let found_at = closing_end found done h le middle below in
      let lt = found_at.1 in
      let at : slice_get found found_at.0 ≡ Some middle = slice_get-get_or found found_at.0 middle lt ∙ ap Some found_at.2 in
      h.closed found_at.0 middle above (omega (arith, lt, le)) at there
