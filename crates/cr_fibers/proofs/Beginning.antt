-- The slots of a scope at its start, one after the other.
use Rattle.std.proofs.Common.{◌≡◌, ◌<◌, ◌≤◌, ◌+◌, ℕ, zero, suc, Bool, true, false, List, [], ◌∷◌, ◌++◌, length, get_or, refl, sym, ap, ◌∙◌, Some, None}
use Rattle.std.specs.Prelude.{map, take, drop, slice_get}
use Rattle.std.proofs.Math.Seq.{drop-cons}
use Rattle.std.proofs.Math.ListN.{drop_of_length-le}
use Rattle.std.proofs.Math.Numerals.{add-one}
use Rattle.std.proofs.lemmas.List.{append_assoc, append-nil, length-append, map-append}
use Rattle.std.proofs.lemmas.Option.{none-some}
use Rattle.cr_value.specs.declared.value.Value.{Value}
use Rattle.cr_value.specs.declared.value.Value.TheVariants.{Nil}
use Rattle.cr_core.specs.declared.scope.Slot.{Slot as Named}
use Rattle.cr_meaning.specs.State as m
use Rattle.cr_meaning.specs.Locals.{Begun, at_most, before_slot, begun, begun_captured, first_or_nil, rest_of}
use Rattle.cr_fibers.specs.declared.locals.Slot.{Slot}
use Rattle.cr_fibers.specs.Held.{slot_of}
use Rattle.cr_fibers.specs.Inner.{one_begun, with_front}

-- ---- the values of parameters

pub at_most_take : (n : ℕ) (vs : List Value) → at_most n vs ≡ take n vs
at_most_take zero vs = refl
at_most_take (suc n) [] = refl
at_most_take (suc n) (v ∷ vs) = ap (λ (ws : List Value). v ∷ ws) (at_most_take n vs)

rest_is : (vs : List Value) (k : ℕ) → rest_of (drop k vs) ≡ drop (suc k) vs
rest_is [] zero = refl
rest_is [] (suc k) = refl
rest_is (v ∷ vs) zero = refl
rest_is (v ∷ vs) (suc k) = rest_is vs k

value_same : (v w : Value) → Some v ≡ Some w → v ≡ w
value_same v w e = cc

pub first_there : (vs : List Value) (k : ℕ) (v : Value) → slice_get vs k ≡ Some v → v ≡ first_or_nil (drop k vs)
first_there [] zero v e = absurd (none-some v e)
first_there [] (suc k) v e = absurd (none-some v e)
first_there (w ∷ vs) zero v e = sym (value_same w v e)
first_there (w ∷ vs) (suc k) v e = first_there vs k v e

pub first_nowhere : (vs : List Value) (k : ℕ) → slice_get vs k ≡ None → Nil ≡ first_or_nil (drop k vs)
first_nowhere [] zero e = refl
first_nowhere [] (suc k) e = refl
first_nowhere (w ∷ vs) zero e = absurd (none-some w (sym e))
first_nowhere (w ∷ vs) (suc k) e = first_nowhere vs k e

-- ---- one name

abbrev the_begun : List m.Slot → List Value → Begun
the_begun slots variables = record { slots = slots; variables = variables }

begun_by : (i : ℕ) (captured : Bool) (v : Value) (vars : List Value) (more : List Value → Begun) → begun_captured i captured v vars more ≡ before_slot (one_begun i captured v vars).0 (more (one_begun i captured v vars).1)
begun_by i true v vars more = refl
begun_by i false v vars more = refl

one_step : (i : ℕ) (name : Named) (rest : List Named) (vs : List Value) (v : Value) (vars vars' : List Value) (slot : m.Slot) → v ≡ first_or_nil vs → one_begun i name.captured v vars ≡ (slot, vars')
    → begun i (name ∷ rest) vs vars ≡ before_slot slot (begun i rest (rest_of vs) vars')
one_step i name rest vs v vars vars' slot is e =
    ap (λ (w : Value). begun_captured i name.captured w vars (begun i rest (rest_of vs))) (sym is)
    ∙ begun_by i name.captured v vars (begun i rest (rest_of vs))
    ∙ ap (λ (p : m.Slot × List Value). before_slot p.0 (begun i rest (rest_of vs) p.1)) e

front_more : (front : List m.Slot) (slot : m.Slot) (b : Begun) → with_front front (before_slot slot b) ≡ with_front (front ++ slot ∷ []) b
front_more front slot b = ap (λ (slots : List m.Slot). the_begun slots b.variables) (sym (append_assoc front (slot ∷ []) b.slots))

-- one name more
pub begin_step : (i : ℕ) (names : List Named) (given : List Value) (at before : ℕ) (d : Named) (front after : List Slot) (slot : Slot) (v : Value) (made made' : List Value) → at < length names
    → v ≡ first_or_nil (drop at given)
    → ((variables : List Value) → length variables ≡ before → begun i names given variables ≡ with_front (map slot_of front) (begun i (drop at names) (drop at given) (variables ++ made)))
    → ((variables : List Value) → length variables ≡ before → one_begun i (get_or names at d).captured v (variables ++ made) ≡ (slot_of slot, variables ++ made'))
    → after ≡ front ++ slot ∷ []
    → (variables : List Value) → length variables ≡ before
    → begun i names given variables ≡ with_front (map slot_of after) (begun i (drop (at + 1) names) (drop (at + 1) given) (variables ++ made'))
begin_step i names given at before d front after slot v made made' within is so one put variables few =
    let rest = drop (suc at) names in
    let vars = variables ++ made' in
    so variables few
    ∙ ap (λ (ns : List Named). with_front (map slot_of front) (begun i ns (drop at given) (variables ++ made))) (drop-cons names at d within)
    ∙ ap (λ (b : Begun). with_front (map slot_of front) b) (one_step i (get_or names at d) rest (drop at given) v (variables ++ made) vars (slot_of slot) is (one variables few))
    ∙ front_more (map slot_of front) (slot_of slot) (begun i rest (rest_of (drop at given)) vars)
    ∙ ap (λ (slots : List m.Slot). with_front slots (begun i rest (rest_of (drop at given)) vars)) (sym (map-append slot_of front (slot ∷ [])))
    ∙ ap (λ (ss : List Slot). with_front (map slot_of ss) (begun i rest (rest_of (drop at given)) vars)) (sym put)
    ∙ ap (λ (vs : List Value). with_front (map slot_of after) (begun i rest vs vars)) (rest_is given at)
    ∙ ap (λ (n : ℕ). with_front (map slot_of after) (begun i (drop n names) (drop n given) vars)) (sym (add-one at))

-- behind the last
pub begin_end : (i : ℕ) (names : List Named) (given : List Value) (at : ℕ) (front : List Slot) (vars variables : List Value) → length names ≤ at
    → begun i names given variables ≡ with_front (map slot_of front) (begun i (drop at names) (drop at given) vars)
    → begun i names given variables ≡ record { slots = map slot_of front; variables = vars }
begin_end i names given at front vars variables past so =
    so
    ∙ ap (λ (ns : List Named). with_front (map slot_of front) (begun i ns (drop at given) vars)) (drop_of_length-le names past)
    ∙ ap (λ (slots : List m.Slot). the_begun slots vars) (append-nil (map slot_of front))

-- before the first
pub begin_start : (i : ℕ) (names : List Named) (given : List Value) (slots : List Slot) (made : List Value) → slots ≡ [] → made ≡ []
    → (variables : List Value) → begun i names given variables ≡ with_front (map slot_of slots) (begun i (drop 0 names) (drop 0 given) (variables ++ made))
begin_start i names given slots made none_yet none_made variables =
    ap (begun i names given) (sym (append-nil variables))
    ∙ ap (λ (ms : List Value). begun i names given (variables ++ ms)) (sym none_made)
    ∙ ap (λ (ss : List Slot). with_front (map slot_of ss) (begun i names given (variables ++ made))) (sym none_yet)

-- a captured name
pub held_is : (i : ℕ) (captured : Bool) (v : Value) (variables made made' : List Value) (before number : ℕ) → captured ≡ true → length variables ≡ before → number ≡ before + length made → made' ≡ made ++ v ∷ []
    → one_begun i captured v (variables ++ made) ≡ (m.Shared (record { fiber = i; number = number }), variables ++ made')
held_is i captured v variables made made' before number is few counted put =
    let pair : ℕ → List Value → (m.Slot × List Value) = λ n vs. (m.Shared (record { fiber = i; number = n }), vs) in
    ap (λ (b : Bool). one_begun i b v (variables ++ made)) is
    ∙ ap (λ (n : ℕ). pair n ((variables ++ made) ++ v ∷ [])) (length-append variables made ∙ ap (λ (k : ℕ). k + length made) few ∙ sym counted)
    ∙ ap (pair number) (append_assoc variables made (v ∷ []))
    ∙ ap (λ (ms : List Value). pair number (variables ++ ms)) (sym put)
