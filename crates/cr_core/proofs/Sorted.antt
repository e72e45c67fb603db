-- Rows that are sorted by what they are sorted by stand in the order of the text.
use Rattle.std.proofs.Common.{◌≡◌, ℕ, suc, ◌+◌, ◌<◌, Bool, true, false, List, [], ◌∷◌, ◌++◌, length, get_or, map, Option, Some, None, refl, sym, ap, ◌∙◌, subst, arith, append_assoc, length-append, if◌then◌else◌}
use Rattle.std.specs.Prelude.{slice_get, All, IsPermutation, IsSortedBy}
use Rattle.std.specs.declared.cmp.Ordering.{Ordering}
use Rattle.std.specs.Ordering.{ordering_then, bool_cmp, nat_cmp, is_lt}
use Rattle.std.proofs.lemmas.List.{get_or-map, length-map}
use Rattle.std.proofs.lemmas.List.Elements.{All-nil, All-cons, All-get_or}
use Rattle.std.proofs.lemmas.List.Sorted.{IsPermutation-map, All-permutation}
use Rattle.cr_base.specs.declared.ids.NodeId.{NodeId}
use Rattle.cr_core.specs.declared.form.ScopeId.{ScopeId}
use Rattle.cr_core.specs.declared.row.Row.{Row}
use Rattle.cr_core.specs.declared.order.Placed.{Placed}
use Rattle.cr_core.specs.Arena.{node_id}
use Rattle.cr_core.specs.Order.{row_before, stands_before, is_in, nodes_in, AreInOrder}
use Rattle.cr_core.specs.Placed.{row_of, placed_of, placed_in}
use Rattle.cr_core.proofs.Walked.{get_seam}

-- what is sorted is a row that stands there
record IsOf (rows : List Row) (p : Placed) : Type 0 where
  row : Row
  stands : slice_get rows p.row ≡ Some row
  is : p ≡ placed_of p.row row

branch : {A B : Type 0} (f : A → B) (t : Bool) (x y : A) → f (if t then x else y) ≡ (if t then f x else f y)
branch f true x y = refl
branch f false x y = refl

one_more : (whole : List Row) (p : Placed) (ps : List Placed) (t : Bool) → IsOf whole p → All (IsOf whole) ps → All (IsOf whole) (if t then p ∷ ps else ps)
one_more whole p ps true is all = All-cons (IsOf whole) p ps is all
one_more whole p ps false is all = all

placed_are_of : (scope : Option ScopeId) (n : ℕ) (before rows : List Row) → n ≡ length before → All (IsOf (before ++ rows)) (placed_in scope n rows)
placed_are_of scope n before [] len = All-nil (IsOf (before ++ []))
placed_are_of scope n before (r ∷ rs) len =
    let whole = before ++ r ∷ rs in
    let behind : suc n ≡ length (before ++ r ∷ []) = omega (arith, length-append before (r ∷ [])) in
    let rest : All (IsOf whole) (placed_in scope (suc n) rs) =
    subst (λ (rows : List Row). All (IsOf rows) (placed_in scope (suc n) rs)) (append_assoc before (r ∷ []) rs) (placed_are_of scope (suc n) (before ++ r ∷ []) rs behind) in
    let here : slice_get whole n ≡ Some r = subst (λ (k : ℕ). slice_get whole k ≡ Some r) (sym len) (get_seam before r rs) in
    one_more whole (placed_of n r) (placed_in scope (suc n) rs) (is_in scope r) (record { row = r; stands = here; is = refl }) rest

nodes_of_placed : (scope : Option ScopeId) (n : ℕ) (rows : List Row) → map row_of (placed_in scope n rows) ≡ nodes_in scope n rows
nodes_of_placed scope n [] = refl
nodes_of_placed scope n (r ∷ rs) =
    branch (map row_of) (is_in scope r) (placed_of n r ∷ placed_in scope (suc n) rs) (placed_in scope (suc n) rs)
    ∙ ap (λ (nodes : List NodeId). if is_in scope r then node_id n ∷ nodes else nodes) (nodes_of_placed scope (suc n) rs)

abbrev order_of : Placed → Placed → Ordering
order_of p q = ordering_then (bool_cmp p.source q.source) (ordering_then (nat_cmp p.at q.at) (nat_cmp p.row q.row))

same_test : (rows : List Row) (p q : Placed) → IsOf rows p → IsOf rows q → stands_before rows (row_of p) (row_of q) ≡ is_lt (order_of p q)
same_test rows p q a b =
    ap (λ (r : Option Row). row_before (row_of p) r (row_of q) (slice_get rows q.row)) a.stands
    ∙ ap (λ (r : Option Row). row_before (row_of p) (Some a.row) (row_of q) r) b.stands
    ∙ ap (λ (x : Placed). is_lt (order_of x (placed_of q.row b.row))) (sym a.is)
    ∙ ap (λ (y : Placed). is_lt (order_of p y)) (sym b.is)

pub in_order : (rows : List Row) (scope : Option ScopeId) (ps qs : List Placed) (nodes : List NodeId) → ps ≡ placed_in scope 0 rows → IsPermutation ps qs → IsSortedBy (λ (p q : Placed). is_lt (order_of p q)) qs → nodes ≡ map row_of qs → AreInOrder rows scope nodes
in_order rows scope ps qs nodes from permutation up is =
    let good : All (IsOf rows) qs = All-permutation (IsOf rows) ps qs permutation (subst (λ (ps : List Placed). All (IsOf rows) ps) (sym from) (placed_are_of scope 0 [] rows refl)) in
    record {
      all = subst (λ (ms : List NodeId). IsPermutation ms nodes) (ap (map row_of) from ∙ nodes_of_placed scope 0 rows)
          (subst (λ (ns : List NodeId). IsPermutation (map row_of ps) ns) (sym is) (IsPermutation-map row_of ps qs permutation));
      sorted = λ k d low high.
          let same : length nodes ≡ length qs = ap (λ (ns : List NodeId). length ns) is ∙ length-map qs row_of in
          let e : Placed = record { source = true; at = 0; row = d.0 } in
          let later = get_or-map row_of qs (k + 1) e d (omega arith) in
          let earlier = get_or-map row_of qs k e d (omega arith) in
          ap (λ (ns : List NodeId). stands_before rows (get_or ns (k + 1) d) (get_or ns k d)) is
          ∙ ap (λ (n : NodeId). stands_before rows n (get_or (map row_of qs) k d)) later
          ∙ ap (λ (n : NodeId). stands_before rows (row_of (get_or qs (k + 1) e)) n) earlier
          ∙ same_test rows (get_or qs (k + 1) e) (get_or qs k e) (All-get_or (IsOf rows) qs (k + 1) e (omega arith) good) (All-get_or (IsOf rows) qs k e (omega arith) good)
          ∙ up k e low (omega arith);
    }
