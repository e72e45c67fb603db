-- The lists that grow edge by edge are those of what stands above.
use Rattle.std.proofs.Common.{◌≡◌, ◌≢◌, ℕ, zero, suc, ◌+◌, inl, inr, Bool, true, false, cond, eqb, List, [], ◌∷◌, ◌++◌, length, map, Option, Some, None, refl, sym, ap, ◌∙◌, arith, eqb-true, eq-eqb, append_assoc, append-nil}
use Rattle.std.proofs.Math.ListN.{replicate, set}
use Rattle.std.specs.Prelude.{slice_get}
use Rattle.std.specs.List.{range_with_len, cons_option}
use Rattle.std.specs.Option.{option_map}
use Rattle.std.proofs.lemmas.Option.{same_Some, slice_get_within, slice_get-map}
use Rattle.cr_base.specs.declared.ids.ClassId.{ClassId}
use Rattle.cr_core.specs.Tree.{Contents}
use Rattle.cr_names.specs.declared.above.Edge.{Edge}
use Rattle.cr_names.specs.Above.{class_id, above_in, all_above, edges, hierarchy}
use Rattle.cr_names.specs.Growing.{with_above, with_edge, with_edges}
use Rattle.cr_names.proofs.Noted.{get_set_same, get_set_other, option_cases, test_cases}

abbrev Lists : Type 0
Lists = List (List ClassId)

abbrev longer : List ClassId → Option (List ClassId) → Option (List ClassId)
longer more o = option_map (λ (l : List ClassId). l ++ more) o

at_same : (lists : Lists) (edge : Edge) (n : ℕ) → edge.below.0 ≡ n → slice_get (with_edge lists edge) n ≡ longer (class_id edge.above.0 ∷ []) (slice_get lists n)
at_same lists edge n same =
    let b = edge.below.0 in
    elim (option_cases (slice_get lists b)) [
      | inl none ↦
          let kept : with_edge lists edge ≡ lists = ap (with_above lists b edge.above.0) none in
          let here : slice_get lists n ≡ None = ap (λ (k : ℕ). slice_get lists k) (sym same) ∙ none in
          ap (λ (ls : Lists). slice_get ls n) kept ∙ here ∙ ap (longer (class_id edge.above.0 ∷ [])) (sym here)
      | inr some ↦
          let list = some.0 in
          let more = list ++ class_id edge.above.0 ∷ [] in
          let made : with_edge lists edge ≡ set lists b more = ap (with_above lists b edge.above.0) some.1 in
          let here : slice_get lists n ≡ Some list = ap (λ (k : ℕ). slice_get lists k) (sym same) ∙ some.1 in
          ap (λ (ls : Lists). slice_get ls n) made ∙ ap (λ (k : ℕ). slice_get (set lists b more) k) (sym same)
          ∙ get_set_same lists b more (slice_get_within lists b list some.1) ∙ ap (longer (class_id edge.above.0 ∷ [])) (sym here)
    ]

at_other : (lists : Lists) (edge : Edge) (n : ℕ) → edge.below.0 ≢ n → slice_get (with_edge lists edge) n ≡ slice_get lists n
at_other lists edge n differ =
    let b = edge.below.0 in
    elim (option_cases (slice_get lists b)) [
      | inl none ↦ ap (λ (ls : Lists). slice_get ls n) (ap (with_above lists b edge.above.0) none)
      | inr some ↦
          let more = some.0 ++ class_id edge.above.0 ∷ [] in
          ap (λ (ls : Lists). slice_get ls n) (ap (with_above lists b edge.above.0) some.1) ∙ get_set_other lists b n more differ
    ]

longer_none : (o : Option (List ClassId)) → o ≡ longer [] o
longer_none None = refl
longer_none (Some list) = ap Some (sym (append-nil list))

longer_twice : (one other : List ClassId) (o : Option (List ClassId)) → longer other (longer one o) ≡ longer (one ++ other) o
longer_twice one other None = refl
longer_twice one other (Some list) = ap Some (append_assoc list one other)

one_edge : (lists : Lists) (edge : Edge) (rest : List ClassId) (n : ℕ) → longer rest (slice_get (with_edge lists edge) n) ≡ longer (cons_option (above_in n edge) rest) (slice_get lists n)
one_edge lists edge rest n = elim (test_cases (eqb edge.below.0 n)) [
  | inl same ↦
      ap (longer rest) (at_same lists edge n (eqb-true edge.below.0 n same)) ∙ longer_twice (class_id edge.above.0 ∷ []) rest (slice_get lists n)
      ∙ ap (λ (b : Bool). longer (cons_option (cond b (Some (class_id edge.above.0)) None) rest) (slice_get lists n)) (sym same)
  | inr differ ↦
      let apart : edge.below.0 ≢ n = λ e. let same = eq-eqb edge.below.0 n e in let clash : true ≡ false = sym same ∙ differ in cc in
      ap (longer rest) (at_other lists edge n apart) ∙ ap (λ (b : Bool). longer (cons_option (cond b (Some (class_id edge.above.0)) None) rest) (slice_get lists n)) (sym differ)
]

grown : (lists : Lists) (edges : List Edge) (n : ℕ) → slice_get (with_edges lists edges) n ≡ longer (all_above n edges) (slice_get lists n)
grown lists [] n = longer_none (slice_get lists n)
grown lists (edge ∷ edges) n = grown (with_edge lists edge) edges n ∙ one_edge lists edge (all_above n edges) n

from_nothing : (f : ℕ → List ClassId) (count low n : ℕ) → longer (f (low + n)) (slice_get (replicate count []) n) ≡ option_map f (slice_get (range_with_len low count) n)
from_nothing f zero low n = refl
from_nothing f (suc count) low zero = ap (λ (k : ℕ). Some (f k)) (omega arith)
from_nothing f (suc count) low (suc n) =
    let same : low + suc n ≡ (low + 1) + n = omega arith in
    ap (λ (k : ℕ). longer (f k) (slice_get (replicate count []) n)) same ∙ from_nothing f count (low + 1) n

equal : {X : Type 0} (xs ys : List X) → ((n : ℕ) → slice_get xs n ≡ slice_get ys n) → xs ≡ ys
equal [] [] same = refl
equal [] (y ∷ ys) same = let clash = same 0 in cc
equal (x ∷ xs) [] same = let clash = same 0 in cc
equal (x ∷ xs) (y ∷ ys) same = ap (λ z. z ∷ xs) (same_Some x y (same 0)) ∙ ap (λ zs. y ∷ zs) (equal xs ys (λ n. same (suc n)))

pub hierarchy_is : (t : Contents) (count : ℕ) (es : List Edge) (lists : Lists) → count ≡ length t.names → es ≡ edges t → lists ≡ with_edges (replicate count []) es → lists ≡ hierarchy t
unfolding hierarchy
hierarchy_is t count es lists many same is =
    let f = λ (n : ℕ). all_above n es in
    let all : with_edges (replicate count []) es ≡ map f (range_with_len 0 count) = equal (with_edges (replicate count []) es) (map f (range_with_len 0 count)) (λ n.
    let zero_n : n ≡ 0 + n = omega arith in
    grown (replicate count []) es n ∙ ap (λ (k : ℕ). longer (f k) (slice_get (replicate count []) n)) zero_n ∙ from_nothing f count 0 n ∙ sym (slice_get-map f (range_with_len 0 count) n)) in
    is ∙ all ∙ ap (λ (l : List Edge). map (λ (n : ℕ). all_above n l) (range_with_len 0 count)) same ∙ ap (λ (c : ℕ). map (λ (n : ℕ). all_above n (edges t)) (range_with_len 0 c)) many
