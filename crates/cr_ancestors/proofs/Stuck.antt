-- Where nothing is due and something is left, a class or module stands above itself; where all is made, none does.
use Rattle.std.proofs.Common.{◌≡◌, ℕ, zero, suc, ◌+◌, ◌<◌, ◌≤◌, ◌⊎◌, inl, inr, Bool, true, false, eqb, List, [], ◌∷◌, ◌++◌, length, get_or, Option, Some, None, Contains, refl, sym, ap, ◌∙◌, subst, arith, length-append}
use Rattle.std.specs.Prelude.{slice_get, unwrap_or, not, ◌&&◌, All}
use Rattle.std.specs.List.{list_any, list_all, IsDistinct}
use Rattle.std.specs.Cmp.{IsEquivalence}
use Rattle.std.proofs.lemmas.Bool.{eq-eqb, eqb-true}
use Rattle.std.proofs.lemmas.Cmp.{nat_eq_equiv}
use Rattle.std.proofs.lemmas.List.Elements.{All-contains}
use Rattle.std.proofs.lemmas.List.Folds.{list_any-append}
use Rattle.std.proofs.lemmas.Map.Keys.{IsDistinct-push}
use Rattle.std.proofs.lemmas.Map.Steps.{length-le_from_distinct_below}
use Rattle.std.proofs.lemmas.Option.{slice_get_within, slice_get-get_or, unwrap_or-slice_get}
use Rattle.cr_base.specs.declared.ids.ClassId.{ClassId}
use Rattle.cr_ancestors.specs.Above as up
use Rattle.cr_ancestors.specs.Above.{ups_of, IsAbove, IsWithin}
use Rattle.cr_ancestors.specs.Line as lines
use Rattle.cr_ancestors.specs.Line.{Line, Lines, AreAll}
use Rattle.cr_ancestors.specs.Making.{class_id, is_made, is_open, list_of, is_ready, is_due, open_count, IsPartial, IsIdle, IsRound}
use Rattle.cr_ancestors.proofs.Made.{some_open}
use Rattle.cr_ancestors.proofs.Members.{bool_cases, or_left, or_right, or_from, and_none, none_in, in_cases, in_head, in_tail}

-- ---- numbers in a list

abbrev In : ℕ → List ℕ → Type 0
In x xs = list_any (eqb x) xs ≡ true

in_kept : (x : ℕ) (xs ys : List ℕ) → In x xs → In x (xs ++ ys)
in_kept x xs ys h = list_any-append (eqb x) xs ys ∙ or_left (list_any (eqb x) xs) (list_any (eqb x) ys) h

from_new : (x : ℕ) (xs : List ℕ) (d : ℕ) → In x (xs ++ d ∷ []) → In x xs ⊎ (x ≡ d)
from_new x xs d h = elim (or_from (list_any (eqb x) xs) (list_any (eqb x) (d ∷ [])) (sym (list_any-append (eqb x) xs (d ∷ [])) ∙ h)) [
  | inl l ↦ inl l
  | inr r ↦ elim (or_from (eqb x d) false r) [ inl e ↦ inr (eqb-true x d e) | inr never ↦ absurd cc ]
]

distinct_none : IsDistinct eqb []
unfolding IsDistinct
distinct_none = tt

-- ---- a way upwards that comes back

module _ (hierarchy lists : List (List ClassId)) (within : IsWithin hierarchy) (partial : IsPartial hierarchy lists) (idle : IsIdle hierarchy lists (length hierarchy)) where
  Left : ℕ → Type 0
  Left n = (n < length hierarchy) × (is_made (list_of lists (class_id n)) ≡ false)

  not_ready : (ups : List ClassId) → is_ready lists ups ≡ false → (up : ClassId) × Contains ups up × (is_made (list_of lists up) ≡ false)
  not_ready [] e = absurd cc
  not_ready (up ∷ ups) e = elim (bool_cases (is_made (list_of lists up))) [
    | inl made ↦ let rest = not_ready ups (and_none (is_made (list_of lists up)) (is_ready lists ups) e made) in (rest.0, in_tail up rest.0 ups rest.1, rest.2)
    | inr left ↦ (up, in_head up ups, left)
  ]

  up_within : (n : ℕ) (above : ClassId) → n < length hierarchy → Contains (ups_of hierarchy (class_id n)) above → above.0 < length hierarchy
  up_within n above lt there =
      let here : ups_of hierarchy (class_id n) ≡ get_or hierarchy n [] = unwrap_or-slice_get hierarchy n [] in
      All-contains (λ (up : ClassId). up.0 < length hierarchy) (get_or hierarchy n []) above (within.each n [] lt) (subst (λ (l : List ClassId). Contains l above) here there)

  next : (n : ℕ) → Left n → (above : ℕ) × Contains (ups_of hierarchy (class_id n)) (class_id above) × Left above
  unfolding Left
  next n (lt, left) =
      let at = slice_get-get_or hierarchy n [] lt in
      let not_due = idle n (get_or hierarchy n []) lt at in
      let ready = and_none (is_open (list_of lists (class_id n))) (is_ready lists (get_or hierarchy n [])) not_due (ap not left) in
      let found = not_ready (get_or hierarchy n []) ready in
      let there = subst (λ (l : List ClassId). Contains l found.0) (sym (unwrap_or-slice_get hierarchy n [])) found.1 in
      (found.0.0, there, (up_within n found.0 lt there, found.2))

  low_more : (path : List ℕ) (n : ℕ) → ((x : ℕ) → In x path → x < length hierarchy) → n < length hierarchy → (x : ℕ) → In x (path ++ n ∷ []) → x < length hierarchy
  low_more path n low lt x h = elim (from_new x path n h) [ inl l ↦ low x l | inr e ↦ omega (arith, e, lt) ]

  walk : (fuel : ℕ) (path : List ℕ) (n : ℕ) → length path + fuel ≡ length hierarchy → IsDistinct eqb path → ((x : ℕ) → In x path → x < length hierarchy) → ((x : ℕ) → In x path → IsAbove hierarchy (class_id x) (class_id n)) → Left n
      → (class : ClassId) × (class.0 < length hierarchy) × IsAbove hierarchy class class
  unfolding Left
  walk zero path n count distinct low over left = elim (bool_cases (list_any (eqb n) path)) [
    | inl back ↦ (class_id n, left.0, over n back)
    | inr new ↦
        let most = length-le_from_distinct_below (path ++ n ∷ []) (length hierarchy) (IsDistinct-push nat_eq_equiv path n distinct new) (low_more path n low left.0) in
        let long = length-append path (n ∷ []) in absurd (omega (arith, most, long, count))
  ]
  walk (suc fuel) path n count distinct low over left =
      let step = next n left in
      elim (bool_cases (list_any (eqb n) path)) [
        | inl back ↦ (class_id n, left.0, over n back)
        | inr new ↦ let long = length-append path (n ∷ []) in
            walk fuel (path ++ n ∷ []) step.0 (omega (arith, long, count)) (IsDistinct-push nat_eq_equiv path n distinct new) (low_more path n low left.0)
            (λ x h. elim (from_new x path n h) [
              | inl l ↦ up.further (class_id n) (class_id step.0) (over x l) step.1
              | inr e ↦ subst (λ (k : ℕ). IsAbove hierarchy (class_id k) (class_id step.0)) (sym e) (up.directly (class_id step.0) step.1)
            ])
            step.2
      ]

  pub cycle : (n : ℕ) → n < length lists → is_made (list_of lists (class_id n)) ≡ false → (class : ClassId) × (class.0 < length hierarchy) × IsAbove hierarchy class class
  unfolding Left
  cycle n lt left =
      let many = partial.many in
      walk (length hierarchy) [] n (omega arith) distinct_none (λ x h. absurd cc) (λ x h. absurd cc) (omega (arith, lt, many), left)

-- ---- all lines end

part_line : (hierarchy : List (List ClassId)) (classes written : List ClassId) (above : ClassId) → Lines hierarchy classes written → Contains classes above → (its : List ClassId) × Line hierarchy above its × (length its ≤ length written)
part_line hierarchy classes written above lines.none there = absurd (none_in above there)
part_line hierarchy classes written above (lines.some class more its others one rest) there = elim (in_cases class above more there) [
  | inl e ↦ let long = length-append its others in (its, subst (λ (c : ClassId). Line hierarchy c its) e one, omega (arith, long))
  | inr later ↦ let found = part_line hierarchy more others above rest later in let le = found.2 in let long = length-append its others in (found.0, found.1, omega (arith, long, le))
]

up_line : (hierarchy : List (List ClassId)) (class above : ClassId) (written : List ClassId) → Line hierarchy class written → Contains (ups_of hierarchy class) above → (its : List ClassId) × Line hierarchy above its × (length its < length written)
up_line hierarchy class above written (lines.line one rest parts) there =
    let found = part_line hierarchy (ups_of hierarchy class) rest above parts there in let le = found.2 in (found.0, found.1, omega (arith, le))

above_line : (hierarchy : List (List ClassId)) (class above : ClassId) (written : List ClassId) → IsAbove hierarchy class above → Line hierarchy class written → (its : List ClassId) × Line hierarchy above its × (length its < length written)
above_line hierarchy class above written (up.directly one there) line = up_line hierarchy class above written line there
above_line hierarchy class above written (up.further middle one below there) line =
    let mid = above_line hierarchy class middle written below line in
    let top = up_line hierarchy middle above mid.0 mid.1 there in
    let low = mid.2 in let lower = top.2 in (top.0, top.1, omega (arith, low, lower))

no_line : (hierarchy : List (List ClassId)) (class : ClassId) → IsAbove hierarchy class class → (bound : ℕ) (written : List ClassId) → length written ≤ bound → Line hierarchy class written → ⊥
no_line hierarchy class over zero written le line = let found = above_line hierarchy class class written over line in let lt = found.2 in omega (arith, lt, le)
no_line hierarchy class over (suc bound) written le line =
    let found = above_line hierarchy class class written over line in let lt = found.2 in
    no_line hierarchy class over bound found.0 (omega (arith, lt, le)) found.1

-- what stands below something is one of the classes and modules
is_below : (hierarchy : List (List ClassId)) (class above : ClassId) → IsAbove hierarchy class above → class.0 < length hierarchy
is_below hierarchy class above (up.further middle one below there) = is_below hierarchy class middle below
is_below hierarchy class above (up.directly one there) = by (slice_get hierarchy class.0) refl there
  where
    by : (o : Option (List ClassId)) → slice_get hierarchy class.0 ≡ o → Contains (unwrap_or o []) above → class.0 < length hierarchy
    by None e there = absurd (none_in above there)
    by (Some ups) e there = slice_get_within hierarchy class.0 ups e

pub acyclic : (hierarchy table : List (List ClassId)) → AreAll hierarchy table → (class : ClassId) → IsAbove hierarchy class class → ⊥
acyclic hierarchy table all class over =
    let low = is_below hierarchy class class over in let many = all.many in
    let lt : class.0 < length table = omega (arith, low, many) in
    let are = all.each class (get_or table class.0 []) (slice_get-get_or table class.0 [] lt) in
    no_line hierarchy class over (length are.written) are.written (omega arith) are.line

-- a round that leaves as many lists open as there were, and there were some
pub stuck : (hierarchy old new : List (List ClassId)) → IsWithin hierarchy → IsPartial hierarchy old → IsRound hierarchy old (length hierarchy) new → 0 < open_count old → open_count old ≤ open_count new → (class : ClassId) × (class.0 < length hierarchy) × IsAbove hierarchy class class
stuck hierarchy old new within partial round some none = elim round.progress [
  | inl fewer ↦ absurd (omega (arith, fewer, none))
  | inr same ↦ let left = some_open old some in cycle hierarchy old within partial same.1 left.0 left.1 left.2
]
