-- Lists in which each place is kept where it first stands.
use Rattle.std.proofs.Common.{◌≡◌, ℕ, zero, suc, ◌+◌, ◌<◌, ◌≤◌, ◌⊎◌, inl, inr, Bool, true, false, eqb, List, [], ◌∷◌, ◌++◌, length, take, get_or, Contains, refl, sym, ap, ◌∙◌, subst, arith, append_assoc, length-append}
use Rattle.std.specs.Prelude.{if◌then◌else◌, ◌||◌, ◌≢◌}
use Rattle.std.proofs.Math.Seq.{take-append_seam}
use Rattle.std.proofs.lemmas.List.{take_more, get_or-take, get_or_default, length-take-le}
use Rattle.std.proofs.lemmas.List.Elements.{Contains-get_or, Contains-push_cases}
use Rattle.std.proofs.lemmas.List.Folds.{list_any-append}
use Rattle.std.proofs.lemmas.List.Quantifiers.{all_pairs_push}
use Rattle.cr_base.specs.declared.ids.ClassId.{ClassId}
use Rattle.cr_ancestors.specs.Line.{has, with_one, kept, IsOnce}
use Rattle.cr_ancestors.proofs.Members.{bool_cases, or_left, or_right, or_from, or_none, none_in, in_head, in_cases, has_from, contains_from}

-- ---- one more

pub one_there : (xs : List ClassId) (y : ClassId) → has xs y ≡ true → with_one xs y ≡ xs
one_there xs y e = ap (λ (b : Bool). if b then xs else xs ++ y ∷ []) e

pub one_new : (xs : List ClassId) (y : ClassId) → has xs y ≡ false → with_one xs y ≡ xs ++ y ∷ []
one_new xs y e = ap (λ (b : Bool). if b then xs else xs ++ y ∷ []) e

has_append : (xs ys : List ClassId) (x : ClassId) → has (xs ++ ys) x ≡ (has xs x || has ys x)
has_append xs ys x = list_any-append (λ (other : ClassId). eqb other.0 x.0) xs ys

one_keeps : (xs : List ClassId) (x y : ClassId) → has xs x ≡ true → has (with_one xs y) x ≡ true
one_keeps xs x y h = by (has xs y)
  where
    by : (b : Bool) → has (if b then xs else xs ++ y ∷ []) x ≡ true
    by true = h
    by false = has_append xs (y ∷ []) x ∙ or_left (has xs x) (has (y ∷ []) x) h

one_has : (xs : List ClassId) (y : ClassId) → has (with_one xs y) y ≡ true
one_has xs y = by (has xs y) refl
  where
    by : (b : Bool) → has xs y ≡ b → has (if b then xs else xs ++ y ∷ []) y ≡ true
    by true e = e
    by false e = has_append xs (y ∷ []) y ∙ or_right (has xs y) (has (y ∷ []) y) (has_from (y ∷ []) y (in_head y []))

or_false : (a b : Bool) → b ≡ false → (a || (b || false)) ≡ a
or_false true b e = refl
or_false false b e = ap (λ (c : Bool). c || false) e

one_test : (xs : List ClassId) (x y : ClassId) → eqb y.0 x.0 ≡ false → has (with_one xs y) x ≡ has xs x
one_test xs x y e = by (has xs y)
  where
    by : (b : Bool) → has (if b then xs else xs ++ y ∷ []) x ≡ has xs x
    by true = refl
    by false = has_append xs (y ∷ []) x ∙ or_false (has xs x) (eqb y.0 x.0) e

-- ---- many more

pub kept_append : (xs a b : List ClassId) → kept xs (a ++ b) ≡ kept (kept xs a) b
kept_append xs [] b = refl
kept_append xs (y ∷ a) b = kept_append (with_one xs y) a b

pub kept_keeps : (xs ys : List ClassId) (x : ClassId) → has xs x ≡ true → has (kept xs ys) x ≡ true
kept_keeps xs [] x h = h
kept_keeps xs (y ∷ ys) x h = kept_keeps (with_one xs y) ys x (one_keeps xs x y h)

pub kept_has : (xs ys : List ClassId) (x : ClassId) → has ys x ≡ true → has (kept xs ys) x ≡ true
kept_has xs [] x h = absurd cc
kept_has xs (y ∷ ys) x h = elim (or_from (eqb y.0 x.0) (has ys x) h) [
  | inl e ↦ kept_keeps (with_one xs y) ys x (head e)
  | inr more ↦ kept_has (with_one xs y) ys x more
]
  where
    head : eqb y.0 x.0 ≡ true → has (with_one xs y) x ≡ true
    head e =
        let h : Contains (y ∷ []) x = contains_from (y ∷ []) x (or_left (eqb y.0 x.0) false e) in
        let same : y ≡ x = elim (in_cases y x [] h) [ inl s ↦ s | inr later ↦ absurd (none_in x later) ] in
        subst (λ (c : ClassId). has (with_one xs y) c ≡ true) same (one_has xs y)

-- the list goes on behind what it was
pub kept_front : (xs ys : List ClassId) → (more : List ClassId) × (kept xs ys ≡ xs ++ more)
kept_front xs [] = ([], sym (append_nil xs))
  where
    append_nil : (l : List ClassId) → l ++ [] ≡ l
    append_nil [] = refl
    append_nil (x ∷ l) = ap (λ (m : List ClassId). x ∷ m) (append_nil l)
kept_front xs (y ∷ ys) =
    let rest = kept_front (with_one xs y) ys in
    by (has xs y) refl rest.0 rest.1
  where
    by : (b : Bool) → has xs y ≡ b → (more : List ClassId) → kept (with_one xs y) ys ≡ with_one xs y ++ more → (all : List ClassId) × (kept (with_one xs y) ys ≡ xs ++ all)
    by true e more is = (more, is ∙ ap (λ (l : List ClassId). l ++ more) (one_there xs y e))
    by false e more is = (y ∷ more, is ∙ ap (λ (l : List ClassId). l ++ more) (one_new xs y e) ∙ append_assoc xs (y ∷ []) more)

-- what was kept already may be put in its place
pub kept_kept : (out acc w : List ClassId) → kept out (kept acc w) ≡ kept (kept out acc) w
kept_kept out acc [] = refl
kept_kept out acc (y ∷ w) = kept_kept out (with_one acc y) w ∙ ap (λ (l : List ClassId). kept l w) (by (has acc y) refl)
  where
    by : (b : Bool) → has acc y ≡ b → kept out (with_one acc y) ≡ with_one (kept out acc) y
    by true e = ap (kept out) (one_there acc y e) ∙ sym (one_there (kept out acc) y (kept_has out acc y e))
    by false e = ap (kept out) (one_new acc y e) ∙ kept_append out acc (y ∷ [])

-- ---- no place twice

pub once_none : IsOnce []
once_none = λ i j d lt within. absurd (omega (arith, within))

one_once : (xs : List ClassId) (y : ClassId) → IsOnce xs → IsOnce (with_one xs y)
one_once xs y h = by (has xs y) refl
  where
    by : (b : Bool) → has xs y ≡ b → IsOnce (if b then xs else xs ++ y ∷ [])
    by true e = h
    by false e =
        all_pairs_push (λ (one other : ClassId). one ≢ other) xs y h
        (λ k d within same. let there = has_from xs y (subst (Contains xs) same (Contains-get_or xs k d within)) in absurd cc)

pub kept_once : (xs ys : List ClassId) → IsOnce xs → IsOnce (kept xs ys)
kept_once xs [] h = h
kept_once xs (y ∷ ys) h = kept_once (with_one xs y) ys (one_once xs y h)

-- ---- one after the other

-- what is not among the new ones is looked for among the old alone
kept_test : (xs ys : List ClassId) (x : ClassId) → has ys x ≡ false → has (kept xs ys) x ≡ has xs x
kept_test xs [] x e = refl
kept_test xs (y ∷ ys) x e =
    let apart = or_none (eqb y.0 x.0) (has ys x) e in
    kept_test (with_one xs y) ys x apart.1 ∙ one_test xs x y apart.0

front_lacks : (ys : List ClassId) (i : ℕ) (d : ClassId) → IsOnce ys → i < length ys → has (take i ys) (get_or ys i d) ≡ false
front_lacks ys i d once within = elim (bool_cases (has (take i ys) (get_or ys i d))) [
  | inl e ↦ absurd (twice (contains_from (take i ys) (get_or ys i d) e))
  | inr e ↦ e
]
  where
    twice : Contains (take i ys) (get_or ys i d) → ⊥
    twice (k, low, same) =
        let long = length-take-le i ys (omega (arith, within)) in
        let lt : k < i = omega (arith, low, long) in
        once k i (get_or ys i d) lt within
        (sym (get_or-take i ys k (get_or ys i d) lt) ∙ same ∙ get_or_default ys i d (get_or ys i d) within)

pub kept_more : (xs ys : List ClassId) (i : ℕ) (d : ClassId) → i < length ys → kept xs (take (i + 1) ys) ≡ with_one (kept xs (take i ys)) (get_or ys i d)
kept_more xs ys i d within = ap (kept xs) (take_more ys i d within) ∙ kept_append xs (take i ys) (get_or ys i d ∷ [])

pub front_is : (xs ys : List ClassId) → take (length xs) (kept xs ys) ≡ xs
front_is xs ys = let more = kept_front xs ys in ap (take (length xs)) more.1 ∙ take-append_seam xs more.0

pub front_within : (xs ys : List ClassId) → length xs ≤ length (kept xs ys)
front_within xs ys =
    let more = kept_front xs ys in
    let long : length (kept xs ys) ≡ length xs + length more.0 = ap length more.1 ∙ length-append xs more.0 in
    omega (arith, long)

-- the next of a list without repeats is put last exactly where the old ones lack it
pub next_new : (xs ys : List ClassId) (i : ℕ) (d : ClassId) → IsOnce ys → i < length ys → has xs (get_or ys i d) ≡ false → kept xs (take (i + 1) ys) ≡ kept xs (take i ys) ++ get_or ys i d ∷ []
next_new xs ys i d once within e =
    kept_more xs ys i d within ∙ one_new (kept xs (take i ys)) (get_or ys i d)
    (kept_test xs (take i ys) (get_or ys i d) (front_lacks ys i d once within) ∙ e)

pub next_there : (xs ys : List ClassId) (i : ℕ) (d : ClassId) → IsOnce ys → i < length ys → has xs (get_or ys i d) ≡ true → kept xs (take (i + 1) ys) ≡ kept xs (take i ys)
next_there xs ys i d once within e =
    kept_more xs ys i d within ∙ one_there (kept xs (take i ys)) (get_or ys i d)
    (kept_test xs (take i ys) (get_or ys i d) (front_lacks ys i d once within) ∙ e)

-- one turn of the loop that appends
pub append_then : (old more slice now after : List ClassId) (before i : ℕ) (d : ClassId) → IsOnce more → i < length more → slice ≡ now → now ≡ kept old (take i more) → before ≡ length old → has (take before slice) (get_or more i d) ≡ false → after ≡ now ++ get_or more i d ∷ [] → after ≡ kept old (take (i + 1) more)
append_then old more slice now after before i d once within same kept_so count lacks put =
    let front : take before slice ≡ old = ap (take before) (same ∙ kept_so) ∙ ap (λ (n : ℕ). take n (kept old (take i more))) count ∙ front_is old (take i more) in
    let lacks_old : has old (get_or more i d) ≡ false = ap (λ (l : List ClassId). has l (get_or more i d)) (sym front) ∙ lacks in
    put ∙ ap (λ (l : List ClassId). l ++ get_or more i d ∷ []) kept_so ∙ sym (next_new old more i d once within lacks_old)

pub append_else : (old more slice now after : List ClassId) (before i : ℕ) (d : ClassId) → IsOnce more → i < length more → slice ≡ now → now ≡ kept old (take i more) → before ≡ length old → has (take before slice) (get_or more i d) ≡ true → after ≡ now → after ≡ kept old (take (i + 1) more)
append_else old more slice now after before i d once within same kept_so count there put =
    let front : take before slice ≡ old = ap (take before) (same ∙ kept_so) ∙ ap (λ (n : ℕ). take n (kept old (take i more))) count ∙ front_is old (take i more) in
    let there_old : has old (get_or more i d) ≡ true = ap (λ (l : List ClassId). has l (get_or more i d)) (sym front) ∙ there in
    put ∙ kept_so ∙ sym (next_there old more i d once within there_old)

pub append_bound : (old front slice now : List ClassId) (before : ℕ) → slice ≡ now → now ≡ kept old front → before ≡ length old → before ≡ length (take before slice)
append_bound old front slice now before same kept_so count =
    let within = front_within old front in
    let long : length slice ≡ length (kept old front) = ap length (same ∙ kept_so) in
    sym (length-take-le before slice (omega (arith, within, long, count)))

-- one more: what is listed was there, or is that one
pub one_from : (xs : List ClassId) (y x : ClassId) → Contains (with_one xs y) x → Contains xs x ⊎ (y ≡ x)
one_from xs y x h = by (has xs y) h
  where
    by : (b : Bool) → Contains (if b then xs else xs ++ y ∷ []) x → Contains xs x ⊎ (y ≡ x)
    by true there = inl there
    by false there = Contains-push_cases xs y x there

-- one turn of a loop that puts last what is not listed
pub add_then : (old more now slice after : List ClassId) (i : ℕ) (d : ClassId) → i < length more → slice ≡ now → now ≡ kept old (take i more) → has slice (get_or more i d) ≡ false → after ≡ now ++ get_or more i d ∷ [] → after ≡ kept old (take (i + 1) more)
add_then old more now slice after i d within same kept_so lacks put =
    let lacks_now : has (kept old (take i more)) (get_or more i d) ≡ false = ap (λ (l : List ClassId). has l (get_or more i d)) (sym (same ∙ kept_so)) ∙ lacks in
    put ∙ ap (λ (l : List ClassId). l ++ get_or more i d ∷ []) kept_so ∙ sym (kept_more old more i d within ∙ one_new (kept old (take i more)) (get_or more i d) lacks_now)

pub add_else : (old more now slice after : List ClassId) (i : ℕ) (d : ClassId) → i < length more → slice ≡ now → now ≡ kept old (take i more) → has slice (get_or more i d) ≡ true → after ≡ now → after ≡ kept old (take (i + 1) more)
add_else old more now slice after i d within same kept_so there put =
    let there_now : has (kept old (take i more)) (get_or more i d) ≡ true = ap (λ (l : List ClassId). has l (get_or more i d)) (sym (same ∙ kept_so)) ∙ there in
    put ∙ kept_so ∙ sym (kept_more old more i d within ∙ one_there (kept old (take i more)) (get_or more i d) there_now)
