-- Locals that are found.
use Rattle.std.proofs.Common.{◌≡◌, ℕ, suc, eqb, ◌+◌, ◌-◌, ◌<◌, List, [], ◌∷◌, length, get_or, drop, reverse, ◌++◌, cond, Bool, true, false, Option, Some, None, refl, sym, ap, ◌∙◌, arith}
use Rattle.std.specs.Prelude.{slice_get}
use Rattle.std.proofs.lemmas.List.{at_drop_more, get_or-reverse, length-reverse, reverse-append}
use Rattle.std.proofs.lemmas.Option.{get_or_from_slice_get, slice_get_read}
use Rattle.cr_base.specs.declared.ids.NameId.{NameId}
use Rattle.cr_making.specs.declared.naming.Opened.{Opened}
use Rattle.cr_making.specs.Slots.{later, is_slot, slot_of}
use Rattle.cr_making.specs.Naming.{State, local_at, resolved_from, declared, declared_times, outermost_of}

pub later-none : {A : Type 0} (x : Option A) → later x None ≡ x
later-none None = refl
later-none (Some x) = refl

pub later-later : {A : Type 0} (x y z : Option A) → later (later x y) z ≡ later x (later y z)
later-later None y z = refl
later-later (Some x) y z = refl

turn : (name : NameId) (os : List Opened) (up : ℕ) (o : Opened) → up < length os → slice_get os (length os - 1 - up) ≡ Some o
    → resolved_from (up + 1) name (drop up (reverse os)) ≡ later (local_at o.number (up + 1) (slot_of 0 name o.slots)) (resolved_from (up + 1 + 1) name (drop (up + 1) (reverse os)))
turn name os up o lt is =
    let in_reverse : up < length (reverse os) = omega (arith, length-reverse os) in
    let same : get_or (reverse os) up o ≡ o = get_or-reverse os up o lt ∙ get_or_from_slice_get os (length os - 1 - up) o o is in
    at_drop_more (resolved_from (up + 1) name) (reverse os) up o in_reverse
    ∙ ap (λ (x : Opened). resolved_from (up + 1) name (x ∷ drop (up + 1) (reverse os))) same

pub turn_missing : (name : NameId) (os : List Opened) (up : ℕ) (o : Opened) → up < length os → slice_get os (length os - 1 - up) ≡ Some o → slot_of 0 name o.slots ≡ None
    → resolved_from (up + 1 + 1) name (drop (up + 1) (reverse os)) ≡ resolved_from (up + 1) name (drop up (reverse os))
turn_missing name os up o lt is none = sym (turn name os up o lt is ∙ ap (λ (x : Option ℕ). later (local_at o.number (up + 1) x) (resolved_from (up + 1 + 1) name (drop (up + 1) (reverse os)))) none)

pub turn_found : (name : NameId) (os : List Opened) (up : ℕ) (o : Opened) (slot : ℕ) → up < length os → slice_get os (length os - 1 - up) ≡ Some o → slot_of 0 name o.slots ≡ Some slot
    → resolved_from (up + 1) name (drop up (reverse os)) ≡ Some (record { scope = o.number; slot = slot; up = up + 1 })
turn_found name os up o slot lt is some = turn name os up o lt is ∙ ap (λ (x : Option ℕ). later (local_at o.number (up + 1) x) (resolved_from (up + 1 + 1) name (drop (up + 1) (reverse os)))) some

pub found_at : (name : NameId) (os : List Opened) (inner : Opened) (count up up' slot : ℕ) (o : Opened) (x y : Option ℕ)
    → count ≡ length os → up < count → Some o ≡ slice_get os (count - 1 - up)
    → x ≡ slot_of 0 name inner.slots → x ≡ None
    → resolved_from (up + 1) name (drop up (reverse os)) ≡ resolved_from 1 name (reverse os)
    → y ≡ slot_of 0 name o.slots → y ≡ Some slot → up' ≡ up + 1
    → Some (record { scope = o.number; slot = slot; up = up' }) ≡ resolved_from 0 name (inner ∷ reverse os)
found_at name os inner count up up' slot o x y len lt is xs none so_far ys some ups =
    let at : slice_get os (length os - 1 - up) ≡ Some o = sym (is ∙ ap (λ (n : ℕ). slice_get os (n - 1 - up)) len) in
    let within : up < length os = omega arith in
    ap (λ (n : ℕ). Some (record { scope = o.number; slot = slot; up = n })) ups
    ∙ sym (turn_found name os up o slot within at (sym ys ∙ some))
    ∙ so_far
    ∙ sym (ap (λ (z : Option ℕ). later (local_at inner.number 0 z) (resolved_from 1 name (reverse os))) (sym xs ∙ none))

pub missing_at : (name : NameId) (os : List Opened) (count up : ℕ) (o : Opened) (y : Option ℕ)
    → count ≡ length os → up < count → Some o ≡ slice_get os (count - 1 - up)
    → resolved_from (up + 1) name (drop up (reverse os)) ≡ resolved_from 1 name (reverse os)
    → y ≡ slot_of 0 name o.slots → y ≡ None
    → resolved_from (up + 1 + 1) name (drop (up + 1) (reverse os)) ≡ resolved_from 1 name (reverse os)
missing_at name os count up o y len lt is so_far ys none =
    let at : slice_get os (length os - 1 - up) ≡ Some o = sym (is ∙ ap (λ (n : ℕ). slice_get os (n - 1 - up)) len) in
    let within : up < length os = omega arith in
    turn_missing name os up o within at (sym ys ∙ none) ∙ so_far

by_test : (t : Bool) (n m : ℕ) (o here : Option ℕ) → n ≡ m → later (cond t (Some n) o) here ≡ cond t (Some m) (later o here)
by_test true n m o here e = ap (λ (x : ℕ). Some x) e
by_test false n m o here e = refl

pub slot_of-push : (k : ℕ) (q : NameId) (xs : List (Option NameId)) (x : Option NameId) → slot_of k q (xs ++ x ∷ []) ≡ cond (is_slot q x) (Some (k + length xs)) (slot_of k q xs)
slot_of-push k q [] x = let e : k ≡ k + 0 = omega arith in ap (λ (n : ℕ). cond (is_slot q x) (Some n) None) e
slot_of-push k q (y ∷ xs) x =
    let e : k + 1 + length xs ≡ k + suc (length xs) = omega arith in
    ap (λ (o : Option ℕ). later o (cond (is_slot q y) (Some k) None)) (slot_of-push (k + 1) q xs x)
    ∙ by_test (is_slot q x) (k + 1 + length xs) (k + suc (length xs)) (slot_of (k + 1) q xs) (cond (is_slot q y) (Some k) None) e

pub push_fresh : (q : NameId) (xs ys : List (Option NameId)) (x : Option NameId) (o : Option ℕ) → o ≡ slot_of 0 q xs → ys ≡ xs ++ x ∷ [] → x ≡ None → o ≡ slot_of 0 q ys
push_fresh q xs ys x o h e none = h ∙ sym (ap (slot_of 0 q) e ∙ slot_of-push 0 q xs x ∙ ap (λ (y : Option NameId). cond (is_slot q y) (Some (0 + length xs)) (slot_of 0 q xs)) none)

pub push_named : (q : NameId) (xs ys : List (Option NameId)) (x : Option NameId) (name : NameId) (place : ℕ) (o o' : Option ℕ) → o ≡ slot_of 0 q xs → ys ≡ xs ++ x ∷ [] → x ≡ Some name → place ≡ length xs → o' ≡ cond (eqb name.0 q.0) (Some place) o → o' ≡ slot_of 0 q ys
push_named q xs ys x name place o o' h e some len new =
    let zero_len : place ≡ 0 + length xs = omega arith in
    new
    ∙ ap (λ (p : Option ℕ). cond (eqb name.0 q.0) (Some place) p) h
    ∙ ap (λ (n : ℕ). cond (eqb name.0 q.0) (Some n) (slot_of 0 q xs)) zero_len
    ∙ sym (ap (slot_of 0 q) e ∙ slot_of-push 0 q xs x ∙ ap (λ (y : Option NameId). cond (is_slot q y) (Some (0 + length xs)) (slot_of 0 q xs)) some)

-- ---- the outermost scope, and locals in a row

outermost_last : (o : Opened) (os : List Opened) (p : Opened) → outermost_of o (os ++ p ∷ []) ≡ p
outermost_last o [] p = refl
outermost_last o (q ∷ os) p = outermost_last q os p

pub outermost_first : (o : Opened) (os : List Opened) (p : Opened) → Some p ≡ slice_get os 0 → outermost_of o (reverse os) ≡ p
outermost_first o [] p e = absurd cc
outermost_first o (q ∷ os) p e = let same : q ≡ p = cc in ap (outermost_of o) (reverse-append (q ∷ []) os) ∙ outermost_last o (reverse os) q ∙ same

pub outermost_none : (o : Opened) (os : List Opened) → slice_get os 0 ≡ None → outermost_of o (reverse os) ≡ o
outermost_none o [] e = refl
outermost_none o (q ∷ os) e = absurd cc

pub times_step : (n m : ℕ) (s t u : State) → n ≡ suc m → t ≡ (declared None s).after → declared_times n s ≡ u → declared_times m t ≡ u
times_step n m s t u e is h = ap (declared_times m) is ∙ sym (ap (λ (k : ℕ). declared_times k s) e) ∙ h

pub read_at : (read os : List Opened) (i : ℕ) (o : Opened) → read ≡ os → i < length os → o ≡ get_or read i o → Some o ≡ slice_get os i
read_at read os i o same lt is = sym (slice_get_read os (length os) i o refl lt (is ∙ ap (λ (l : List Opened). get_or l i o) same))
