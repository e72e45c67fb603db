-- The class around a row is the one that its parent is, or the one around that.
use Rattle.std.proofs.Common.{◌≡◌, ℕ, zero, suc, ◌+◌, ◌<◌, ◌≤◌, inl, inr, List, [], ◌∷◌, ◌++◌, length, Option, Some, None, refl, sym, ap, ◌∙◌, subst, arith, length-append, cond}
use Rattle.std.specs.Prelude.{slice_get, IfSome}
use Rattle.std.specs.Option.{option_flatten}
use Rattle.std.proofs.lemmas.Bool.{cases_lt}
use Rattle.std.proofs.lemmas.Option.{slice_get_past}
use Rattle.cr_base.specs.declared.ids.NodeId.{NodeId}
use Rattle.cr_core.specs.declared.row.Row.{Row}
use Rattle.cr_core.specs.Standing.{IsArena, IsParent}
use Rattle.cr_core.specs.Tree.{form_at}
use Rattle.cr_names.specs.Names.{parent_of, is_class_form, outwards, around_within, class_around}
use Rattle.cr_names.specs.Tables.{told}
use Rattle.cr_names.proofs.Noted.{option_cases}

get_low : {X : Type 0} (xs ys : List X) (n : ℕ) → n < length xs → slice_get (xs ++ ys) n ≡ slice_get xs n
get_low [] ys n low = absurd (omega arith)
get_low (x ∷ xs) ys zero low = refl
get_low (x ∷ xs) ys (suc n) low = get_low xs ys n (omega arith)

get_seam : {X : Type 0} (xs : List X) (y : X) (ys : List X) → slice_get (xs ++ y ∷ ys) (length xs) ≡ Some y
get_seam [] y ys = refl
get_seam (x ∷ xs) y ys = get_seam xs y ys

parent_below : (rows : List Row) (n : ℕ) (p : NodeId) → IsArena rows → parent_of (slice_get rows n) ≡ Some p → p.0 < n
parent_below rows n p arena e = elim (option_cases (slice_get rows n)) [
  | inl none ↦ let clash : None ≡ Some p = sym (ap parent_of none) ∙ e in absurd cc
  | inr some ↦
      let up : some.0.within.parent ≡ Some p = sym (ap parent_of some.1) ∙ e in
      let parent : IsParent rows n p = subst (λ (o : Option NodeId). IfSome o (IsParent rows n)) up (arena.each n some.0 some.1).parent in
      parent.before
]

outwards_same : (rows : List Row) (one other : ℕ → Option ℕ) (parent : Option NodeId) → ((p : NodeId) → parent ≡ Some p → one p.0 ≡ other p.0) → outwards rows one parent ≡ outwards rows other parent
outwards_same rows one other None same = refl
outwards_same rows one other (Some p) same = ap (λ (o : Option ℕ). cond (is_class_form (form_at rows (Some p))) (Some p.0) o) (same p refl)

enough : (rows : List Row) (f g n : ℕ) → IsArena rows → n < f → n < g → around_within rows f n ≡ around_within rows g n
enough rows zero g n arena a b = absurd (omega arith)
enough rows (suc f) zero n arena a b = absurd (omega arith)
enough rows (suc f) (suc g) n arena a b = outwards_same rows (around_within rows f) (around_within rows g) (parent_of (slice_get rows n)) (λ p e.
    let low = parent_below rows n p arena e in
    enough rows f g p.0 arena (omega arith) (omega arith))

pub around_next : (rows : List Row) (table : List (Option ℕ)) (n : ℕ) (row : Row) → IsArena rows → slice_get rows n ≡ Some row →
    ((m : ℕ) → m < n → told table m ≡ class_around rows m) → outwards rows (told table) row.within.parent ≡ class_around rows n
unfolding class_around
around_next rows table n row arena at known =
    outwards_same rows (told table) (around_within rows n) row.within.parent (λ p e.
    let low : p.0 < n = parent_below rows n p arena (ap parent_of at ∙ e) in
    known p.0 low ∙ enough rows (suc p.0) n p.0 arena (omega arith) low)
    ∙ ap (λ (o : Option Row). outwards rows (around_within rows n) (parent_of o)) (sym at)

pub one_more : (rows : List Row) (table longer : List (Option ℕ)) (n : ℕ) (row : Row) (x : Option ℕ) → IsArena rows → slice_get rows n ≡ Some row →
    (length table ≡ n) × ((m : ℕ) → m < n → told table m ≡ class_around rows m) → x ≡ outwards rows (told table) row.within.parent → longer ≡ table ++ x ∷ [] →
    (length longer ≡ n + 1) × ((m : ℕ) → m < n + 1 → told longer m ≡ class_around rows m)
one_more rows table longer n row x arena at known is push =
    let len = ap length push ∙ length-append table (x ∷ []) in
    let many = known.0 in (
      omega (arith, len, many),
      λ m low. ap (λ (l : List (Option ℕ)). told l m) push ∙ elim (cases_lt m n) [
        | inl before ↦ ap option_flatten (get_low table (x ∷ []) m (omega (arith, before, many))) ∙ known.1 m before
        | inr not_before ↦
            let here : m ≡ length table = omega (arith, low, not_before, many) in
            let there : m ≡ n = omega (arith, low, not_before) in
            ap (λ (j : ℕ). told (table ++ x ∷ []) j) here ∙ ap option_flatten (get_seam table x []) ∙ is ∙ around_next rows table n row arena at known.1 ∙ ap (λ (j : ℕ). class_around rows j) (sym there)
      ],
    )

past_rows : (rows : List Row) (n : ℕ) → length rows ≤ n → class_around rows n ≡ None
unfolding class_around
past_rows rows n past = ap (λ (o : Option Row). outwards rows (around_within rows n) (parent_of o)) (slice_get_past rows n past)

pub all_around : (rows : List Row) (table : List (Option ℕ)) (n : ℕ) → length rows ≤ n → n ≤ length rows → (length table ≡ n) × ((m : ℕ) → m < n → told table m ≡ class_around rows m) →
    (m : ℕ) → told table m ≡ class_around rows m
all_around rows table n past within known m =
    let many = known.0 in
    elim (cases_lt m n) [
      | inl low ↦ known.1 m low
      | inr high ↦ ap option_flatten (slice_get_past table m (omega (arith, high, many))) ∙ sym (past_rows rows m (omega (arith, high, past, within)))
    ]
