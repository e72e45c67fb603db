-- The least offence, row by row.
use Rattle.std.proofs.Common.{◌≡◌, ℕ, ◌+◌, ◌<◌, ◌≤◌, ◌⊎◌, inl, inr, Bool, true, false, cond, List, length, Option, Some, None, refl, sym, ap, ◌∙◌, subst, arith}
use Rattle.std.specs.Prelude.{slice_get, not}
use Rattle.std.specs.declared.cmp.Ordering.{Ordering}
use Rattle.std.specs.declared.cmp.Ordering.TheVariants.{Less, Equal, Greater}
use Rattle.std.specs.Ordering.{ordering_then, ordering_reverse, bool_cmp, nat_cmp, is_lt}
use Rattle.std.specs.Cmp.{IsTotalOrder, bool_cmp_total}
use Rattle.std.proofs.lemmas.Cmp.{then_total, on_total, nat_cmp_total, ranked}
use Rattle.std.proofs.lemmas.Bool.{cases_lt}
use Rattle.std.proofs.lemmas.Option.{slice_get_within}
use Rattle.cr_base.specs.declared.ids.NodeId.{NodeId}
use Rattle.cr_core.specs.declared.row.Place.{Place}
use Rattle.cr_core.specs.declared.row.Row.{Row}
use Rattle.cr_core.specs.Arena.{node_id}
use Rattle.cr_core.specs.Order.{stands_before, row_before, text_order}
use Rattle.cr_core.specs.Tree.{Contents}
use Rattle.cr_shapes.specs.declared.offence.What.{What}
use Rattle.cr_shapes.specs.declared.offence.Offence.{Offence}
use Rattle.cr_shapes.specs.Offences.{IsRow, IsOffence, code, IsFirst, IsLeast}
use Rattle.cr_shapes.specs.Offences as o
use Rattle.cr_shapes.specs.Leading.{IsFirstAt, IsNoLater, IsBest, IsLeastBelow, earlier}

-- ---- the order of the text

record At : Type 0 where
  place : Place
  number : ℕ

abbrev order : At → At → Ordering
order x y = text_order x.place x.number y.place y.number

order_total : IsTotalOrder order
order_total =
    then_total {R = λ (x y : At). bool_cmp (not x.place.prelude) (not y.place.prelude)} {S = λ (x y : At). ordering_then (nat_cmp x.place.at y.place.at) (nat_cmp x.number y.number)}
    (on_total (λ (x : At). not x.place.prelude) bool_cmp_total)
    (then_total {R = λ (x y : At). nat_cmp x.place.at y.place.at} {S = λ (x y : At). nat_cmp x.number y.number} (on_total (λ (x : At). x.place.at) nat_cmp_total) (on_total (λ (x : At). x.number) nat_cmp_total))

is_less : (r : Ordering) → is_lt r ≡ true → r ≡ Less
is_less Less e = refl
is_less Equal e = absurd cc
is_less Greater e = absurd cc

ordered : (r : Ordering) → is_lt r ≡ false → (r ≡ Equal) ⊎ (r ≡ Greater)
ordered Less e = absurd cc
ordered Equal e = inl refl
ordered Greater e = inr refl

second_equal : (r s : Ordering) → ordering_then r s ≡ Equal → s ≡ Equal
second_equal Less s e = absurd cc
second_equal Equal s e = e
second_equal Greater s e = absurd cc

same_number : (x y : At) → order x y ≡ Equal → x.number ≡ y.number
same_number x y e =
    let inner = second_equal (bool_cmp (not x.place.prelude) (not y.place.prelude)) (ordering_then (nat_cmp x.place.at y.place.at) (nat_cmp x.number y.number)) e in
    let last : Equal ≡ nat_cmp x.number y.number = sym (second_equal (nat_cmp x.place.at y.place.at) (nat_cmp x.number y.number) inner) in
    ranked x.number y.number Equal last

test_of : (rows : List Row) (m n : NodeId) (q r : Row) → slice_get rows m.0 ≡ Some q → slice_get rows n.0 ≡ Some r → stands_before rows m n ≡ is_lt (text_order q.place m.0 r.place n.0)
test_of rows m n q r a b = ap (λ (x : Option Row). row_before m x n (slice_get rows n.0)) a ∙ ap (λ (x : Option Row). row_before m (Some q) n x) b

before_twice : (rows : List Row) (l m n : NodeId) (p q r : Row) → slice_get rows l.0 ≡ Some p → slice_get rows m.0 ≡ Some q → slice_get rows n.0 ≡ Some r →
    stands_before rows l m ≡ true → stands_before rows m n ≡ true → stands_before rows l n ≡ true
before_twice rows l m n p q r a b d one other =
    let x : At = record { place = p.place; number = l.0 } in
    let y : At = record { place = q.place; number = m.0 } in
    let z : At = record { place = r.place; number = n.0 } in
    let first : order x y ≡ Less = is_less (order x y) (sym (test_of rows l m p q a b) ∙ one) in
    let second : order y z ≡ Less = is_less (order y z) (sym (test_of rows m n q r b d) ∙ other) in
    test_of rows l n p r a d ∙ ap is_lt (order_total.trans x y z first second)

before_other : (rows : List Row) (m n : NodeId) (q r : Row) → slice_get rows m.0 ≡ Some q → slice_get rows n.0 ≡ Some r → (m.0 ≡ n.0 → ⊥) → stands_before rows m n ≡ false → stands_before rows n m ≡ true
before_other rows m n q r a b differ not_before =
    let x : At = record { place = q.place; number = m.0 } in
    let y : At = record { place = r.place; number = n.0 } in
    elim (ordered (order x y) (sym (test_of rows m n q r a b) ∙ not_before)) [
      | inl equal ↦ absurd (differ (same_number x y equal))
      | inr greater ↦ test_of rows n m r q b a ∙ ap is_lt (order_total.antisymm y x ∙ ap ordering_reverse greater)
    ]

-- ---- offences are rows

pub row_of : (t : Contents) (n : ℕ) (what : What) → IsOffence t n what → (row : Row) × IsRow t n row
row_of t n _ (o.no_entry row literal none) = (row, literal.stands)
row_of t n _ (o.not_obvious row entry literal has bad) = (row, literal.stands)
row_of t n _ (o.spawned row stands form spawned) = (row, stands)
row_of t n _ (o.deep row name stands form outer deeper) = (row, stands)

-- ---- one row more

up_to : (t : Contents) (m n : ℕ) → m < n + 1 → (m < n) ⊎ (m ≡ n)
up_to t m n low = elim (cases_lt m n) [ inl before ↦ inl before | inr high ↦ inr (omega (arith, low, high)) ]

pub one_more_none : (t : Contents) (n : ℕ) (best : Option Offence) → IsFirstAt t n None → IsLeastBelow t n best → IsLeastBelow t (n + 1) best
one_more_none t n None none before = λ m what low offence. elim (up_to t m n low) [
  | inl earlier' ↦ before m what earlier' offence
  | inr here ↦ none what (subst (λ (k : ℕ). IsOffence t k what) here offence)
]
one_more_none t n (Some best) none before = let low = before.low in record {
  there = before.there;
  low = omega (arith, low);
  least = λ m what low' offence. elim (up_to t m n low') [
    | inl earlier' ↦ before.least m what earlier' offence
    | inr here ↦ absurd (none what (subst (λ (k : ℕ). IsOffence t k what) here offence))
  ];
}

first_found : (t : Contents) (n : NodeId) (what : What) → IsFirstAt t n.0 (Some what) → ((m : ℕ) (w : What) → m < n.0 → IsOffence t m w → IsNoLater t (record { node = n; what = what }) m w) →
    IsBest t (n.0 + 1) (record { node = n; what = what })
first_found t n what first before = record {
  there = first.0;
  low = omega arith;
  least = λ m w low offence. elim (up_to t m n.0 low) [
    | inl earlier' ↦ before m w earlier' offence
    | inr here ↦ inr (here, first.1 w (subst (λ (k : ℕ). IsOffence t k w) here offence))
  ];
}

replaced : (t : Contents) (n : NodeId) (what : What) (best : Offence) → IsFirstAt t n.0 (Some what) → IsBest t n.0 best → stands_before t.rows n best.node ≡ true → IsBest t (n.0 + 1) (record { node = n; what = what })
replaced t n what best first before ahead =
    let here = row_of t n.0 what first.0 in
    let there = row_of t best.node.0 best.what before.there in
    first_found t n what first (λ m w low offence.
    let that = row_of t m w offence in
    elim (before.least m w low offence) [
      | inl later ↦ inl (before_twice t.rows n best.node (node_id m) here.0 there.0 that.0 here.1 there.1 that.1 ahead later)
      | inr same ↦ inl (ap (λ (k : ℕ). stands_before t.rows n (node_id k)) same.0 ∙ ahead)
    ])

kept : (t : Contents) (n : NodeId) (what : What) (best : Offence) → IsFirstAt t n.0 (Some what) → IsBest t n.0 best → stands_before t.rows n best.node ≡ false → IsBest t (n.0 + 1) best
kept t n what best first before behind =
    let here = row_of t n.0 what first.0 in
    let there = row_of t best.node.0 best.what before.there in
    let low = before.low in
    let ahead : stands_before t.rows best.node n ≡ true = before_other t.rows n best.node here.0 there.0 here.1 there.1 (λ same. omega (arith, low, same)) behind in
    record {
      there = before.there;
      low = omega (arith, low);
      least = λ m w low' offence. elim (up_to t m n.0 low') [
        | inl earlier' ↦ before.least m w earlier' offence
        | inr same ↦ inl (ap (λ (k : ℕ). stands_before t.rows best.node (node_id k)) same ∙ ahead)
      ];
    }

chosen : (t : Contents) (n : NodeId) (what : What) (best : Offence) (b : Bool) → IsFirstAt t n.0 (Some what) → IsBest t n.0 best → stands_before t.rows n best.node ≡ b →
    IsBest t (n.0 + 1) (cond b (record { node = n; what = what }) best)
chosen t n what best true first before is = replaced t n what best first before is
chosen t n what best false first before is = kept t n what best first before is

pub one_more_some : (t : Contents) (n : NodeId) (what : What) (best : Option Offence) → IsFirstAt t n.0 (Some what) → IsLeastBelow t n.0 best →
    IsLeastBelow t (n.0 + 1) (Some (earlier t.rows best (record { node = n; what = what })))
one_more_some t n what None first before = first_found t n what first (λ m w low offence. absurd (before m w low offence))
one_more_some t n what (Some best) first before = chosen t n what best (stands_before t.rows n best.node) first before refl

-- ---- all rows

pub all_rows : (t : Contents) (n : ℕ) (best : Option Offence) → length t.rows ≤ n → IsLeastBelow t n best → IsFirst t best
all_rows t n None past before = λ m what offence.
    let low = slice_get_within t.rows m (row_of t m what offence).0 (row_of t m what offence).1 in
    before m what (omega (arith, low, past)) offence
all_rows t n (Some best) past before = record {
  there = before.there;
  least = λ m what offence.
      let low = slice_get_within t.rows m (row_of t m what offence).0 (row_of t m what offence).1 in
      before.least m what (omega (arith, low, past)) offence;
}
