-- What stands under a row, and rows that name no instance variable of a given name: the lists that are made of them.
use Rattle.std.proofs.Common.{◌≡◌, ℕ, zero, suc, ◌+◌, ◌-◌, ◌<◌, ◌≤◌, ◌⊎◌, inl, inr, ⊎_elim, Bool, true, false, List, [], ◌∷◌, ◌++◌, length, set, get_or, Option, Some, None, refl, sym, ap, ◌∙◌, subst, arith}
use Rattle.std.specs.Prelude.{slice_get, if◌then◌else◌, nat_lt, All}
use Rattle.std.proofs.lemmas.Option.{same_Some, slice_get_within, slice_get-get_or, get_or_from_slice_get}
use Rattle.std.proofs.lemmas.List.{get_or_append_left, get_or_push, get_or_past, length_push}
use Rattle.std.proofs.lemmas.Bool.{lt-ltb, ltb-true}
use Rattle.std.proofs.lemmas.Bool.Decides.{nat_tests}
use Rattle.cr_base.specs.declared.ids.NameId.{NameId}
use Rattle.cr_base.specs.declared.ids.NodeId.{NodeId}
use Rattle.cr_core.specs.declared.row.Row.{Row}
use Rattle.cr_flow.specs.Ways.{IsRow}
use Rattle.cr_flow.specs.Chain.{IsForward}
use Rattle.cr_flow.specs.Under.{higher, past, furthest, ArePasts, named, IsClearFrom, AreFirsts, noted_in, noted}
use Rattle.cr_flow.proofs.Parts.{lt-or-le}

pub higher_left : (a b : ℕ) → a ≤ higher a b
higher_left a b = grind (arith, nat_tests)

pub higher_right : (a b : ℕ) → b ≤ higher a b
higher_right a b = grind (arith, nat_tests)

higher_within : (a b m : ℕ) → a ≤ m → b ≤ m → higher a b ≤ m
higher_within a b m h g = by (nat_lt a b)
  where
    by : (t : Bool) → (if t then b else a) ≤ m
    by true = g
    by false = h

-- what stands under a row
own_below : (many end : ℕ) (pasts : List ℕ) (own : ℕ) (ps : List NodeId) → own ≤ furthest many end pasts own ps
own_below many end pasts own [] = omega arith
own_below many end pasts own (p ∷ ps) =
    let a = higher_left own (past many end pasts p.0) in let b = own_below many end pasts (higher own (past many end pasts p.0)) ps in omega (arith, a, b)

part_below : (many end : ℕ) (pasts : List ℕ) (own : ℕ) (ps : List NodeId) (i : ℕ) (c : NodeId) → slice_get ps i ≡ Some c → past many end pasts c.0 ≤ furthest many end pasts own ps
part_below many end pasts own [] i c e = absurd (cc)
part_below many end pasts own (p ∷ ps) zero c e =
    let s : p ≡ c = same_Some p c e in
    let a = higher_right own (past many end pasts p.0) in let b = own_below many end pasts (higher own (past many end pasts p.0)) ps in
    subst (λ (v : NodeId). past many end pasts v.0 ≤ furthest many end pasts (higher own (past many end pasts p.0)) ps) s (omega (arith, a, b))
part_below many end pasts own (p ∷ ps) (suc i) c e = part_below many end pasts (higher own (past many end pasts p.0)) ps i c e

all_below : (many end : ℕ) (pasts : List ℕ) → ((n : ℕ) → past many end pasts n ≤ many) → (own : ℕ) (ps : List NodeId) → own ≤ many → furthest many end pasts own ps ≤ many
all_below many end pasts most own [] le = le
all_below many end pasts most own (p ∷ ps) le = let a = most p.0 in all_below many end pasts most (higher own (past many end pasts p.0)) ps (higher_within own (past many end pasts p.0) many le a)

same_or_not : (a b : ℕ) → (a ≡ b) ⊎ (a ≡ b → ⊥)
same_or_not a b =
    ⊎_elim (λ (h : a < b). inr (λ e. omega (arith, h, e)))
    (λ (h : b ≤ a). ⊎_elim (λ (g : b < a). inr (λ e. omega (arith, g, e))) (λ (g : a ≤ b). inl (omega (arith, h, g))) (lt-or-le b a))
    (lt-or-le a b)

-- one row more is told
module _ (many end : ℕ) (pasts : List ℕ) (v m : ℕ) (new : suc (m + length pasts) ≡ end) where
  told_now : past many end (pasts ++ v ∷ []) m ≡ v
  told_now = ap (λ (b : Bool). if b then get_or (pasts ++ v ∷ []) (end - suc m) many else many) (lt-ltb m end (omega (arith, new))) ∙ get_or_push pasts v many (end - suc m) (omega (arith, new))

  told_other : (n : ℕ) → (n ≡ m → ⊥) → past many end (pasts ++ v ∷ []) n ≡ past many end pasts n
  told_other n off = by (nat_lt n end) refl
    where
      inside : n < end → get_or (pasts ++ v ∷ []) (end - suc n) many ≡ get_or pasts (end - suc n) many
      inside lt =
          ⊎_elim (λ (h : end - suc n < length pasts). get_or_append_left pasts (v ∷ []) many (end - suc n) h)
          (λ (h : length pasts ≤ end - suc n).
          ⊎_elim (λ (g : length pasts < end - suc n).
          get_or_past (pasts ++ v ∷ []) (end - suc n) many (let l = length_push pasts v in omega (arith, l, g)) ∙ sym (get_or_past pasts (end - suc n) many h))
          (λ (g : end - suc n ≤ length pasts). absurd (off (omega (arith, lt, h, g, new))))
          (lt-or-le (length pasts) (end - suc n)))
          (lt-or-le (end - suc n) (length pasts))

      by : (b : Bool) → nat_lt n end ≡ b → (if b then get_or (pasts ++ v ∷ []) (end - suc n) many else many) ≡ (if b then get_or pasts (end - suc n) many else many)
      by true e = inside (ltb-true n end e)
      by false e = refl

module _ (rows : List Row) (end : ℕ) (pasts : List ℕ) (v : ℕ) where
  pub one_more : IsForward rows → ArePasts rows end pasts → (m : ℕ) (q : Row) → suc (m + length pasts) ≡ end → end ≤ length rows → slice_get rows m ≡ Some q → v ≡ furthest (length rows) end pasts (suc m) q.parts → ArePasts rows end (pasts ++ v ∷ [])
  one_more fw p m q new there at is = record { most = most; own = own; parts = parts }
    where
      now : past (length rows) end (pasts ++ v ∷ []) m ≡ v
      now = told_now (length rows) end pasts v m new

      other : (n : ℕ) → (n ≡ m → ⊥) → past (length rows) end (pasts ++ v ∷ []) n ≡ past (length rows) end pasts n
      other n off = told_other (length rows) end pasts v m new n off

      most : (n : ℕ) → past (length rows) end (pasts ++ v ∷ []) n ≤ length rows
      most n =
          ⊎_elim (λ (h : n ≡ m).
          let a = all_below (length rows) end pasts p.most (suc m) q.parts (omega (arith, new, there)) in
          subst (λ (k : ℕ). past (length rows) end (pasts ++ v ∷ []) k ≤ length rows) (sym h) (omega (arith, a, now, is)))
          (λ (h : n ≡ m → ⊥). let a = other n h in let b = p.most n in omega (arith, a, b))
          (same_or_not n m)

      own : (n : ℕ) → n < length rows → n < past (length rows) end (pasts ++ v ∷ []) n
      own n lt =
          ⊎_elim (λ (h : n ≡ m).
          let a = own_below (length rows) end pasts (suc m) q.parts in
          subst (λ (k : ℕ). k < past (length rows) end (pasts ++ v ∷ []) k) (sym h) (omega (arith, a, now, is)))
          (λ (h : n ≡ m → ⊥). let a = other n h in let b = p.own n lt in omega (arith, a, b))
          (same_or_not n m)

      parts : (n c : NodeId) (i : ℕ) (r : Row) → IsRow rows n r → slice_get r.parts i ≡ Some c → past (length rows) end (pasts ++ v ∷ []) c.0 ≤ past (length rows) end (pasts ++ v ∷ []) n.0
      parts n c i r row part =
          let later = (fw.parts n c i r row part).later in
          ⊎_elim (λ (h : n.0 ≡ m).
          let same : r ≡ q = same_Some r q (sym row ∙ ap (slice_get rows) h ∙ at) in
          let a = part_below (length rows) end pasts (suc m) q.parts i c (ap (λ (s : Row). slice_get s.parts i) (sym same) ∙ part) in
          let b = other c.0 (λ g. omega (arith, later, h, g)) in
          subst (λ (k : ℕ). past (length rows) end (pasts ++ v ∷ []) c.0 ≤ past (length rows) end (pasts ++ v ∷ []) k) (sym h) (omega (arith, a, b, now, is)))
          (λ (h : n.0 ≡ m → ⊥).
          ⊎_elim (λ (g : c.0 ≡ m). let a = other n.0 h in let b = untold n.0 (omega (arith, later, g)) in let l = most c.0 in omega (arith, a, b, l))
          (λ (g : c.0 ≡ m → ⊥). let a = other n.0 h in let b = other c.0 g in let d = p.parts n c i r row part in omega (arith, a, b, d))
          (same_or_not c.0 m))
          (same_or_not n.0 m)
        where
          untold : (k : ℕ) → k < m → past (length rows) end pasts k ≡ length rows
          untold k lt = ap (λ (b : Bool). if b then get_or pasts (end - suc k) (length rows) else length rows) (lt-ltb k end (omega (arith, lt, new))) ∙ get_or_past pasts (end - suc k) (length rows) (omega (arith, lt, new))

pub none_told : (rows : List Row) (end : ℕ) → ArePasts rows end []
none_told rows end = record {
  most = λ n. let a = whole n in omega (arith, a);
  own = λ n lt. let a = whole n in omega (arith, a, lt);
  parts = λ n c i r is part. let a = whole n.0 in let b = whole c.0 in omega (arith, a, b);
}
  where
    whole : (n : ℕ) → past (length rows) end [] n ≡ length rows
    whole n = by (nat_lt n end)
      where
        by : (b : Bool) → (if b then length rows else length rows) ≡ length rows
        by true = refl
        by false = refl

pub row_at : (rows : List Row) (n : ℕ) → n < length rows → (r : Row) × (slice_get rows n ≡ Some r)
row_at [] n lt = absurd (omega (arith, lt))
row_at (r ∷ rows) zero lt = (r, refl)
row_at (r ∷ rows) (suc n) lt = row_at rows n (omega (arith, lt))

-- which row names an instance variable first
pub name_same : (a b : NameId) → a.0 ≡ b.0 → a ≡ b
name_same a b e = ap (λ (k : ℕ). record { 0 = k }) e

set_same : (xs : List ℕ) (i y m : ℕ) → slice_get (set xs i y) i ≡ Some m → m ≡ y
set_same [] i y m e = absurd (cc)
set_same (x ∷ xs) zero y m e = sym (same_Some y m e)
set_same (x ∷ xs) (suc i) y m e = set_same xs i y m e

set_other : (xs : List ℕ) (i j y : ℕ) → (i ≡ j → ⊥) → slice_get (set xs i y) j ≡ slice_get xs j
set_other [] i j y off = refl
set_other (x ∷ xs) zero zero y off = absurd (off refl)
set_other (x ∷ xs) zero (suc j) y off = refl
set_other (x ∷ xs) (suc i) zero y off = refl
set_other (x ∷ xs) (suc i) (suc j) y off = set_other xs i j y (λ e. off (ap suc e))

noted_same : (xs : List ℕ) (i y m : ℕ) → slice_get (noted_in y i xs (slice_get xs i)) i ≡ Some m → m ≡ y
noted_same xs i y m e = by (slice_get xs i) refl e
  where
    by : (o : Option ℕ) → slice_get xs i ≡ o → slice_get (noted_in y i xs o) i ≡ Some m → m ≡ y
    by None k e = absurd (cc)
    by (Some v) k e = set_same xs i y m e

noted_other : (xs : List ℕ) (i j y : ℕ) (o : Option ℕ) → (i ≡ j → ⊥) → slice_get (noted_in y i xs o) j ≡ slice_get xs j
noted_other xs i j y None off = refl
noted_other xs i j y (Some v) off = set_other xs i j y off

module _ (rows : List Row) (n : ℕ) (q : Row) (at : slice_get rows n ≡ Some q) where
  -- one row more, which does not name it
  one_lower : (k : NameId) (m : ℕ) → ¬ (named q.form ≡ Some k) → IsClearFrom rows k (suc n) m → IsClearFrom rows k n m
  one_lower k m off c = λ i r low lt is names.
      ⊎_elim (λ (h : n < i). c i r (omega (arith, h)) lt is names)
      (λ (h : i ≤ n).
      let e : n ≡ i = omega (arith, h, low) in
      off (ap (λ (s : Row). named s.form) (same_Some q r (sym at ∙ ap (slice_get rows) e ∙ is)) ∙ names))
      (lt-or-le n i)

  pub firsts_lower : (firsts : List ℕ) → AreFirsts rows (suc n) firsts → AreFirsts rows n (noted n firsts (named q.form))
  firsts_lower firsts h = by (named q.form) refl
    where
      by : (o : Option NameId) → named q.form ≡ o → AreFirsts rows n (noted n firsts o)
      by None e = λ k m is. one_lower k m (λ g. absurd (cc)) (h k m is)
      by (Some j) e = λ k m is.
          ⊎_elim (λ (s : j.0 ≡ k.0).
          let last : m ≡ n = noted_same firsts j.0 n m (ap (slice_get (noted_in n j.0 firsts (slice_get firsts j.0))) s ∙ is) in
          λ i r low lt row names. omega (arith, last, low, lt))
          (λ (s : j.0 ≡ k.0 → ⊥). one_lower k m (λ g. s (ap (λ (v : NameId). v.0) (same_Some j k (sym e ∙ g)))) (h k m (sym (noted_other firsts j.0 k.0 n (slice_get firsts j.0) s) ∙ is)))
          (same_or_not j.0 k.0)

pub none_noted : (rows : List Row) (end : ℕ) (firsts : List ℕ) → All (λ first. first ≡ end) firsts → AreFirsts rows end firsts
none_noted rows end firsts all = λ k m is n r low lt row names.
    let e = all k.0 m (slice_get_within firsts k.0 m is) in let same = get_or_from_slice_get firsts k.0 m m is in
    omega (arith, e, same, low, lt)

-- a name that is not listed is named nowhere before row 0
pub clear_at : (rows : List Row) (low : ℕ) (firsts : List ℕ) (k : NameId) → AreFirsts rows low firsts → IsClearFrom rows k low (get_or firsts k.0 0)
clear_at rows low firsts k h = by (lt-or-le k.0 (length firsts))
  where
    by : (k.0 < length firsts) ⊎ (length firsts ≤ k.0) → IsClearFrom rows k low (get_or firsts k.0 0)
    by (inl lt) = h k (get_or firsts k.0 0) (slice_get-get_or firsts k.0 0 lt)
    by (inr le) = λ n r from lt row names. let e = get_or_past firsts k.0 0 le in omega (arith, e, lt)

pub clear_less : (rows : List Row) (k : NameId) (low m v : ℕ) → m ≤ v → IsClearFrom rows k low v → IsClearFrom rows k low m
clear_less rows k low m v le c = λ n r from lt is. c n r from (omega (arith, lt, le)) is
