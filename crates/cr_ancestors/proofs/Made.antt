-- The lists that rounds make are those of their classes.
use Rattle.std.proofs.Common.{◌≡◌, ℕ, zero, suc, ◌+◌, ◌<◌, ◌≤◌, ◌⊎◌, inl, inr, Bool, true, false, cond, List, [], ◌∷◌, ◌++◌, length, get_or, Option, Some, None, refl, sym, ap, ◌∙◌, subst, arith}
use Rattle.std.specs.Prelude.{slice_get, slice_set, All, unwrap_or, ◌&&◌}
use Rattle.std.specs.List.{list_all, sum_by, count_by}
use Rattle.std.proofs.lemmas.List.{length-set}
use Rattle.std.proofs.lemmas.List.Sums.{sum_by-set, sum_by-cons}
use Rattle.std.proofs.lemmas.Option.{slice_get_within, slice_get-get_or, unwrap_or-slice_get, same_Some}
use Rattle.cr_base.specs.declared.ids.ClassId.{ClassId}
use Rattle.cr_ancestors.specs.Above.{ups_of}
use Rattle.cr_ancestors.specs.Line as lines
use Rattle.cr_ancestors.specs.Line.{Line, Lines, kept, IsOnce, AreAncestors, AreAll}
use Rattle.cr_ancestors.specs.Making.{class_id, is_made, is_open, list_of, is_ready, joined, open_count, IsPartial, is_due, IsIdle, IsRound, IsMadeAt}
use Rattle.cr_ancestors.proofs.Members.{bool_cases, and_from, class_same}
use Rattle.cr_ancestors.proofs.Kept.{kept_append, kept_kept, kept_front, kept_once, once_none}

-- ---- one list changes

set_same : (ls : List (List ClassId)) (k : ℕ) (new found : List ClassId) → slice_get (slice_set ls k new) k ≡ Some found → found ≡ new
set_same [] k new found is = absurd cc
set_same (l ∷ ls) zero new found is = sym (same_Some new found is)
set_same (l ∷ ls) (suc k) new found is = set_same ls k new found is

set_other : (ls : List (List ClassId)) (j k : ℕ) (new : List ClassId) → (j ≡ k → ⊥) → slice_get (slice_set ls j new) k ≡ slice_get ls k
set_other [] j k new ne = refl
set_other (l ∷ ls) zero zero new ne = absurd (ne refl)
set_other (l ∷ ls) zero (suc k) new ne = refl
set_other (l ∷ ls) (suc j) zero new ne = refl
set_other (l ∷ ls) (suc j) (suc k) new ne = set_other ls j k new (λ e. ne (ap suc e))

same_number : (a b : ℕ) → (a ≡ b) ⊎ (a ≡ b → ⊥)
same_number zero zero = inl refl
same_number zero (suc b) = inr (λ e. omega (arith, e))
same_number (suc a) zero = inr (λ e. omega (arith, e))
same_number (suc a) (suc b) = elim (same_number a b) [ inl e ↦ inl (ap suc e) | inr ne ↦ inr (λ e. ne (omega (arith, e))) ]

-- ---- the ancestors of what is ready

module _ (hierarchy lists : List (List ClassId)) (partial : IsPartial hierarchy lists) where
  list_at : (up : ClassId) → is_made (list_of lists up) ≡ true → AreAncestors hierarchy up (list_of lists up)
  list_at up made = by (slice_get lists up.0) refl made
    where
      by : (o : Option (List ClassId)) → slice_get lists up.0 ≡ o → is_made (unwrap_or o []) ≡ true → AreAncestors hierarchy up (unwrap_or o [])
      by None e made = absurd cc
      by (Some list) e made = elim (partial.each up list e) [ inl empty ↦ absurd (no list empty made) | inr are ↦ are ]
        where
          no : (list : List ClassId) → list ≡ [] → is_made list ≡ true → ⊥
          no list empty made = let bad : false ≡ true = ap is_made (sym empty) ∙ made in cc

  pub joined_lines : (ups list : List ClassId) → is_ready lists ups ≡ true → (written : List ClassId) × Lines hierarchy ups written × (joined lists list ups ≡ kept list written)
  joined_lines [] list ready = ([], lines.none, refl)
  joined_lines (up ∷ ups) list ready =
      let both = and_from (is_made (list_of lists up)) (is_ready lists ups) ready in
      let its = list_at up both.0 in
      let rest = joined_lines ups (kept list (list_of lists up)) both.1 in
      let first : kept list (list_of lists up) ≡ kept list its.written = ap (kept list) its.once ∙ kept_kept list [] its.written in (
        its.written ++ rest.0,
        lines.some up ups its.written rest.0 its.line rest.1,
        rest.2 ∙ ap (λ (l : List ClassId). kept l rest.0) first ∙ sym (kept_append list its.written rest.0),
      )

  made_ancestors : (n : ℕ) (ups : List ClassId) → slice_get hierarchy n ≡ Some ups → is_ready lists ups ≡ true → AreAncestors hierarchy (class_id n) (joined lists (class_id n ∷ []) ups)
  made_ancestors n ups at ready =
      let above = joined_lines ups (class_id n ∷ []) ready in
      let here : ups ≡ ups_of hierarchy (class_id n) = ap (λ (o : Option (List ClassId)). unwrap_or o []) (sym at) in
      record {
        written = class_id n ∷ above.0;
        line = lines.line (class_id n) above.0 (subst (λ (l : List ClassId). Lines hierarchy l above.0) here above.1);
        once = above.2;
      }

  pub partial_once : All IsOnce lists
  partial_once = λ k d within.
      let at : slice_get lists k ≡ Some (get_or lists k d) = slice_get-get_or lists k d within in
      elim (partial.each (class_id k) (get_or lists k d) at) [
        | inl empty ↦ subst IsOnce (sym empty) once_none
        | inr are ↦ subst IsOnce (sym are.once) (kept_once [] are.written once_none)
      ]

  pub partial_made : (n : ℕ) (ups : List ClassId) (new : List (List ClassId)) → slice_get hierarchy n ≡ Some ups → IsMadeAt n ups lists new → IsPartial hierarchy new
  partial_made n ups new at step = elim (bool_cases (is_due lists n ups)) [
    | inl due ↦ subst (IsPartial hierarchy) (sym (step.due due)) (made due)
    | inr not ↦ subst (IsPartial hierarchy) (sym (step.not_due not)) partial
  ]
    where
      made : is_due lists n ups ≡ true → IsPartial hierarchy (slice_set lists n (joined lists (class_id n ∷ []) ups))
      made due = record {
        many = length-set lists n (joined lists (class_id n ∷ []) ups) ∙ partial.many;
        each = λ class list is. elim (same_number n class.0) [
          | inl e ↦ inr (here class list e (subst (λ (k : ℕ). slice_get (slice_set lists n (joined lists (class_id n ∷ []) ups)) k ≡ Some list) (sym e) is))
          | inr ne ↦ partial.each class list (sym (set_other lists n class.0 (joined lists (class_id n ∷ []) ups) ne) ∙ is)
        ];
      }
        where
          ready : is_ready lists ups ≡ true
          ready = (and_from (is_open (list_of lists (class_id n))) (is_ready lists ups) due).1

          here : (class : ClassId) (list : List ClassId) → n ≡ class.0 → slice_get (slice_set lists n (joined lists (class_id n ∷ []) ups)) n ≡ Some list → AreAncestors hierarchy class list
          here class list e is =
              let same = set_same lists n (joined lists (class_id n ∷ []) ups) list is in
              subst (λ (c : ClassId). AreAncestors hierarchy c list) (class_same (class_id n) class e)
              (subst (AreAncestors hierarchy (class_id n)) (sym same) (made_ancestors n ups at ready))

-- ---- how many are left

joined_made : (lists : List (List ClassId)) (ups list : List ClassId) → is_made list ≡ true → is_made (joined lists list ups) ≡ true
joined_made lists [] list made = made
joined_made lists (up ∷ ups) list made =
    let more = kept_front list (list_of lists up) in
    joined_made lists ups (kept list (list_of lists up)) (subst (λ (l : List ClassId). is_made l ≡ true) (sym more.1) (longer list more.0 made))
  where
    longer : (xs ys : List ClassId) → is_made xs ≡ true → is_made (xs ++ ys) ≡ true
    longer [] ys made = absurd cc
    longer (x ∷ xs) ys made = refl

-- what a list adds to the count
abbrev weight : List ClassId → ℕ
weight list = cond (is_open list) 1 0

fewer : (lists : List (List ClassId)) (n : ℕ) (new : List ClassId) → n < length lists → is_open (list_of lists (class_id n)) ≡ true → is_made new ≡ true → open_count (slice_set lists n new) < open_count lists
fewer lists n new within is_o made =
    let change = sum_by-set weight lists n new [] within in
    let old : weight (get_or lists n []) ≡ 1 = ap weight (sym (unwrap_or-slice_get lists n [])) ∙ ap (λ (b : Bool). cond b 1 0) is_o in
    let zero_new : weight new ≡ 0 = closed new made in
    omega (arith, change, old, zero_new)
  where
    closed : (l : List ClassId) → is_made l ≡ true → weight l ≡ 0
    closed [] made = absurd cc
    closed (x ∷ l) made = refl

pub round_none : (hierarchy lists : List (List ClassId)) → IsPartial hierarchy lists → IsRound hierarchy lists 0 lists
round_none hierarchy lists partial = record { partial = partial; progress = inr (refl, λ k ups lt at. absurd (omega (arith, lt))) }

pub round_step : (hierarchy old : List (List ClassId)) (n : ℕ) (mid new : List (List ClassId)) (ups : List ClassId) → IsRound hierarchy old n mid → slice_get hierarchy n ≡ Some ups → IsMadeAt n ups mid new → IsRound hierarchy old (n + 1) new
round_step hierarchy old n mid new ups round at step = record {
  partial = partial_made hierarchy mid round.partial n ups new at step;
  progress = elim (bool_cases (is_due mid n ups)) [
    | inl due ↦ inl (fall due round.progress)
    | inr not ↦ still not round.progress
  ];
}
  where
    fall : is_due mid n ups ≡ true → (open_count mid < open_count old) ⊎ ((mid ≡ old) × IsIdle hierarchy old n) → open_count new < open_count old
    fall due before =
        let is_o = (and_from (is_open (list_of mid (class_id n))) (is_ready mid ups) due).0 in
        let within : n < length mid = let low = slice_get_within hierarchy n ups at in let many = round.partial.many in omega (arith, low, many) in
        let less = fewer mid n (joined mid (class_id n ∷ []) ups) within is_o (joined_made mid ups (class_id n ∷ []) refl) in
        let now : open_count new ≡ open_count (slice_set mid n (joined mid (class_id n ∷ []) ups)) = ap open_count (step.due due) in
        elim before [
          | inl lower ↦ omega (arith, less, now, lower)
          | inr same ↦ let e : open_count mid ≡ open_count old = ap open_count same.0 in omega (arith, less, now, e)
        ]

    still : is_due mid n ups ≡ false → (open_count mid < open_count old) ⊎ ((mid ≡ old) × IsIdle hierarchy old n) → (open_count new < open_count old) ⊎ ((new ≡ old) × IsIdle hierarchy old (n + 1))
    still not before =
        let same_new = step.not_due not in
        elim before [
          | inl lower ↦ inl (let e : open_count new ≡ open_count mid = ap open_count same_new in omega (arith, lower, e))
          | inr same ↦ inr (
            same_new ∙ same.0,
            λ k its lt is. elim (same_number k n) [
              | inl e ↦ let u : its ≡ ups = same_Some its ups (sym is ∙ ap (slice_get hierarchy) e ∙ at) in
                  ap (λ (j : ℕ). is_due old j its) e ∙ ap (is_due old n) u ∙ ap (λ (ls : List (List ClassId)). is_due ls n ups) (sym same.0) ∙ not
              | inr ne ↦ same.1 k its (omega (arith, lt, ne)) is
            ],
          )
        ]

-- ---- the beginning and the end

open_cons : (l : List ClassId) (ls : List (List ClassId)) → open_count (l ∷ ls) ≡ weight l + open_count ls
open_cons l ls = sum_by-cons weight l ls

pub some_open : (ls : List (List ClassId)) → 0 < open_count ls → (n : ℕ) × (n < length ls) × (is_made (list_of ls (class_id n)) ≡ false)
some_open [] lt = absurd (omega (arith, lt))
some_open ([] ∷ ls) lt = (0, omega arith, refl)
some_open ((x ∷ l) ∷ ls) lt =
    let e = open_cons (x ∷ l) ls in let rest = some_open ls (omega (arith, lt, e)) in
    let within = rest.1 in
    (suc rest.0, omega (arith, within), rest.2)

none_open : (ls : List (List ClassId)) (n : ℕ) (list : List ClassId) → open_count ls ≡ 0 → slice_get ls n ≡ Some list → list ≡ [] → ⊥
none_open [] n list none at empty = cc
none_open (l ∷ ls) zero list none at empty =
    let e = open_cons l ls in let s : l ≡ [] = same_Some l list at ∙ empty in
    let one : weight l ≡ 1 = ap weight s in
    omega (arith, e, one, none)
none_open (l ∷ ls) (suc n) list none at empty =
    let e = open_cons l ls in none_open ls n list (omega (arith, e, none)) at empty

pub all_made : (hierarchy lists : List (List ClassId)) → IsPartial hierarchy lists → open_count lists ≡ 0 → AreAll hierarchy lists
all_made hierarchy lists partial none = record {
  many = partial.many;
  each = λ class list at. elim (partial.each class list at) [ inl empty ↦ absurd (none_open lists class.0 list none at empty) | inr are ↦ are ];
}

pub none_made : (hierarchy lists : List (List ClassId)) → length lists ≡ length hierarchy → All (λ (l : List ClassId). l ≡ []) lists → IsPartial hierarchy lists
none_made hierarchy lists many empty = record {
  many = many;
  each = λ class list at. inl (get_is lists class.0 list at empty);
}
  where
    get_is : (ls : List (List ClassId)) (k : ℕ) (l : List ClassId) → slice_get ls k ≡ Some l → All (λ (l : List ClassId). l ≡ []) ls → l ≡ []
    get_is ls k l at all =
        let within = slice_get_within ls k l at in
        let e : Some (get_or ls k []) ≡ Some l = sym (slice_get-get_or ls k [] within) ∙ at in
        sym (same_Some (get_or ls k []) l e) ∙ all k [] within

pub length_open : (lists : List (List ClassId)) → All (λ (l : List ClassId). l ≡ []) lists → open_count lists ≡ length lists
length_open [] all = refl
length_open (l ∷ ls) all =
    let e = open_cons l ls in let s : l ≡ [] = all 0 l (omega arith) in
    let one : weight l ≡ 1 = ap weight s in
    let rest = length_open ls (λ k d lt. all (suc k) d (omega (arith, lt))) in
    omega (arith, e, one, rest)
