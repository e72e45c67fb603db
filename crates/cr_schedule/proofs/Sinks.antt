-- Text that goes to a sink over a page.
use Rattle.std.proofs.Common.{◌≡◌, ℕ, ◌+◌, List, [], ◌∷◌, ◌++◌, length, take, drop, Option, Some, None, Result, Ok, Err, OnErr, refl, sym, ap, subst, ◌∙◌, append_assoc, arith, inl, inr}
use Rattle.std.specs.Prelude.{slice_get}
use Rattle.std.proofs.Math.Seq.{take-append-add}
use Rattle.std.proofs.lemmas.Bool.{cases_lt}
use Rattle.std.proofs.lemmas.Grind.{flat_map-append}
use Rattle.std.proofs.lemmas.List.{append-nil, take-append-le, take_at, take_all, take_more, take-append-drop, at_drop_more}
use Rattle.std.proofs.lemmas.Option.{get_or_from_slice_get, slice_get_within}
use Rattle.cr_io.specs.Sink.{AppendsFront}
use Rattle.cr_io.proofs.WriteLemmas.{Appends-append}
use Rattle.cr_schedule.specs.declared.entry.Entry.{Entry}
use Rattle.cr_schedule.specs.Trace.{ended_line, trace}
use Rattle.cr_schedule.specs.Page.{Passes}

-- a front of a text is a front of a longer one
front_grows : (n : ℕ) (text more : List ℕ) → (m : ℕ) × (take n text ≡ take m (text ++ more))
front_grows n text more =
    elim (cases_lt n (length text)) [
      | inl lt ↦ (n, sym (take-append-le n text more (omega arith)))
      | inr le ↦ (length text, take_all n text le ∙ sym (take_at text more (length text) refl))
    ]

-- A text was written, and then a front of what stands on the page.
pub Passes-front : (w w' w'' : Option (List ℕ)) (front page more whole : List ℕ) → whole ≡ front ++ more → Passes w front w' page → AppendsFront w' page w'' → AppendsFront w whole w''
Passes-front None w' w'' front page more whole e passes err = tt
Passes-front (Some b) w' w'' front page more whole e passes err =
    let done = passes.0 in
    let found = subst (λ (v : Option (List ℕ)). AppendsFront v page w'') passes.2 err in
    let longer = front_grows found.0 page more in
    let split : whole ≡ done ++ (page ++ more) = e ∙ ap (λ (t : List ℕ). t ++ more) passes.1 ∙ append_assoc done page more in
    let part : take (length done + longer.0) whole ≡ done ++ take found.0 page =
    ap (take (length done + longer.0)) split ∙ take-append-add done (page ++ more) longer.0 ∙ ap (λ (t : List ℕ). done ++ t) (sym longer.1) in
    (length done + longer.0, found.1 ∙ ap (λ (t : List ℕ). Some t) (append_assoc b done (take found.0 page) ∙ ap (λ (t : List ℕ). b ++ t) (sym part)))

-- what was gathered up to a place, and the rest
pub trace-take-drop : (entries : List Entry) (at : ℕ) → trace entries ≡ trace (take at entries) ++ trace (drop at entries)
trace-take-drop entries at = ap trace (sym (take-append-drop at entries)) ∙ flat_map-append ended_line (take at entries) (drop at entries)

pub trace-take_more : (entries : List Entry) (at : ℕ) (entry : Entry) → slice_get entries at ≡ Some entry → trace (take (at + 1) entries) ≡ trace (take at entries) ++ ended_line entry
trace-take_more entries at entry is =
    ap trace (take_more entries at entry (slice_get_within entries at entry is) ∙ ap (λ (e : Entry). take at entries ++ e ∷ []) (get_or_from_slice_get entries at entry entry is))
    ∙ flat_map-append ended_line (take at entries) (entry ∷ [])
    ∙ ap (λ (t : List ℕ). trace (take at entries) ++ t) (append-nil (ended_line entry))

pub trace-drop_more : (entries : List Entry) (at : ℕ) (entry : Entry) → slice_get entries at ≡ Some entry → trace (drop at entries) ≡ ended_line entry ++ trace (drop (at + 1) entries)
trace-drop_more entries at entry is =
    at_drop_more trace entries at entry (slice_get_within entries at entry is) ∙ ap (λ (e : Entry). ended_line e ++ trace (drop (at + 1) entries)) (get_or_from_slice_get entries at entry entry is)

-- a line more on the page
pub Passes-more : (w w' w'' : Option (List ℕ)) (front page page' page'' line front' : List ℕ) → Passes w front w' page → Passes w' page w'' page' → page'' ≡ page' ++ line → front' ≡ front ++ line → Passes w front' w'' page''
Passes-more w w' w'' front page page' page'' line front' one two put is =
    let whole : front' ≡ (one.0 ++ two.0) ++ page'' =
    is
    ∙ ap (λ (t : List ℕ). t ++ line) (one.1 ∙ ap (λ (t : List ℕ). one.0 ++ t) two.1 ∙ sym (append_assoc one.0 two.0 page'))
    ∙ append_assoc (one.0 ++ two.0) page' line
    ∙ ap (λ (t : List ℕ). (one.0 ++ two.0) ++ t) (sym put) in
    (one.0 ++ two.0, whole, Appends-append w w' w'' one.0 two.0 one.2 two.2)

-- the line has gone from the rest to the page
pub line_moves : (page page' line rest rest' more : List ℕ) → page' ≡ page ++ line → rest ≡ line ++ rest' → page ++ (rest ++ more) ≡ page' ++ (rest' ++ more)
line_moves page page' line rest rest' more put is =
    ap (λ (t : List ℕ). page ++ (t ++ more)) is ∙ ap (λ (t : List ℕ). page ++ t) (append_assoc line rest' more) ∙ sym (append_assoc page line (rest' ++ more)) ∙ ap (λ (t : List ℕ). t ++ (rest' ++ more)) (sym put)

pub OnErr-map : {T E P Q : Type 0} (r : Result T E) → (P → Q) → OnErr r P → OnErr r Q
OnErr-map (Ok x) f p = tt
OnErr-map (Err e) f p = f p
