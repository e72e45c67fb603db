-- What a fiber keeps, beside what the meaning has: lists of locals and of slots, item by item.
use Rattle.std.proofs.Common.{◌≡◌, ◌<◌, ◌-◌, ℕ, List, [], ◌∷◌, ◌++◌, length, sym, ap, ◌∙◌, Option, Some}
use Rattle.std.specs.Prelude.{slice_get, slice_set, map, take}
use Rattle.std.specs.Option.{option_map}
use Rattle.std.proofs.lemmas.List.{map-set, take-map, length-map, map-append}
use Rattle.std.proofs.lemmas.Option.{slice_get-map}
use Rattle.cr_value.specs.declared.value.Value.{Value}
use Rattle.cr_meaning.specs.State as m
use Rattle.cr_meaning.specs.Locals.{with_slot, without_last, around, behind, seen_locals}
use Rattle.cr_meaning.specs.Fibers.{first_locals}
use Rattle.cr_fibers.specs.declared.locals.Slot.{Slot}
use Rattle.cr_fibers.specs.declared.locals.Locals.{Locals}
use Rattle.cr_fibers.specs.Held.{slot_of, locals_of}
use Rattle.cr_fibers.specs.Inner.{block_locals}
use Rattle.cr_fibers.proofs.Around.{without_last_is, first_behind_last, around_behind}

pub stands : (ls : List Locals) (place : ℕ) (found : Locals) → slice_get ls place ≡ Some found → slice_get (map locals_of ls) place ≡ Some (locals_of found)
stands ls place found e = slice_get-map locals_of ls place ∙ ap (option_map locals_of) e

-- locals among which one slot has its own value
pub write_is : (ls : List Locals) (place at : ℕ) (v : Value) (found written : Locals) → slice_get ls place ≡ Some found
    → locals_of written ≡ record (locals_of found) { slots = slice_set (map slot_of found.slots.items) at (m.Own v) }
    → map locals_of (slice_set ls place written) ≡ with_slot (slice_get (map locals_of ls) place) at (m.Own v) (map locals_of ls) place
write_is ls place at v found written e w =
    map-set locals_of ls place written
    ∙ ap (λ (l : m.Locals). slice_set (map locals_of ls) place l) w
    ∙ sym (ap (λ (o : Option m.Locals). with_slot o at (m.Own v) (map locals_of ls) place) (stands ls place found e))

-- locals without the last
pub leave_is : (old new : List Locals) (n : ℕ) → new ≡ take (n - 1) old → n ≡ length old → map locals_of new ≡ without_last (map locals_of old)
leave_is old new n e same =
    ap (map locals_of) e
    ∙ ap (λ (k : ℕ). map locals_of (take (k - 1) old)) same
    ∙ sym (take-map locals_of (length old - 1) old)
    ∙ ap (λ (k : ℕ). take (k - 1) (map locals_of old)) (sym (length-map old locals_of))
    ∙ sym (without_last_is (map locals_of old))

-- the locals of the block that a fiber begins with
pub first_is : (outer : List Locals) (slots : List Slot) (last made : Locals) (variables : List Value) → slice_get outer (length outer - 1) ≡ Some last
    → locals_of made ≡ block_locals (map slot_of slots) (length outer - 1) (locals_of last)
    → first_locals (map locals_of outer) (record { slots = map slot_of slots; variables = variables }) ≡ map locals_of outer ++ locals_of made ∷ []
first_is outer slots last made variables e w =
    first_behind_last (map locals_of outer) (record { slots = map slot_of slots; variables = variables }) (locals_of last)
    (ap (λ (k : ℕ). slice_get (map locals_of outer) (k - 1)) (length-map outer locals_of) ∙ stands outer (length outer - 1) last e)
    ∙ ap (λ (k : ℕ). map locals_of outer ++ block_locals (map slot_of slots) (k - 1) (locals_of last) ∷ []) (length-map outer locals_of)
    ∙ ap (λ (l : m.Locals). map locals_of outer ++ l ∷ []) (sym w)

-- the locals around a spawned block, those of one block more
pub around_is : (ls : List Locals) (most at place home : ℕ) (found made : Locals) (outer new : List Locals) → 0 < most → slice_get ls at ≡ Some found → found.home ≡ Some place
    → map locals_of outer ≡ around (map locals_of ls) (most - 1) place → home ≡ length outer - 1 → locals_of made ≡ seen_locals (locals_of found) (Some home) → new ≡ outer ++ made ∷ []
    → map locals_of new ≡ around (map locals_of ls) most at
around_is ls most at place home found made outer new some e has is last seen put =
    ap (map locals_of) put
    ∙ map-append locals_of outer (made ∷ [])
    ∙ ap (λ (l : m.Locals). map locals_of outer ++ l ∷ []) seen
    ∙ ap (λ (k : ℕ). map locals_of outer ++ seen_locals (locals_of found) (Some k) ∷ []) (last ∙ ap (λ (n : ℕ). n - 1) (sym (length-map outer locals_of)))
    ∙ ap (λ (ls' : List m.Locals). behind ls' (locals_of found)) is
    ∙ sym (around_behind (map locals_of ls) most at place (locals_of found) some (stands ls at found e) has)
