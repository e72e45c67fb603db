-- The line of a class, reckoned so far upwards as there are classes and modules.
use Rattle.std.proofs.Common.{◌≡◌, ℕ, zero, suc, ◌+◌, ◌<◌, ◌≤◌, inl, inr, Bool, true, false, List, [], ◌∷◌, ◌++◌, length, Some, Contains, refl, ap, ◌∙◌, subst, arith, length-append}
use Rattle.std.specs.Prelude.{slice_get, flat_map}
use Rattle.std.proofs.lemmas.List.Elements.{Contains-append_left, Contains-append_right, Contains-append_cases}
use Rattle.std.proofs.lemmas.Bool.{cases_lt}
use Rattle.std.proofs.lemmas.Option.{slice_get_within}
use Rattle.cr_base.specs.declared.ids.ClassId.{ClassId}
use Rattle.cr_ancestors.specs.Above.{ups_of, IsWithin}
use Rattle.cr_ancestors.specs.Line as lines
use Rattle.cr_ancestors.specs.Line.{Line, Lines, has, kept, AreAncestors, AreAll}
use Rattle.cr_ancestors.specs.Reckoned.{line_to, ancestors_in}
use Rattle.cr_ancestors.proofs.Members.{bool_cases, none_in, in_head, in_tail, in_cases, has_from, contains_from}
use Rattle.cr_ancestors.proofs.Lookup.{line_one}
use Rattle.cr_ancestors.proofs.Closing.{up_low}

-- ---- how many of so many classes a list has

abbrev digit : Bool → ℕ
digit true = 1
digit false = 0

abbrev of_first : ℕ → List ClassId → ℕ
of_first zero list = 0
of_first (suc n) list = digit (has list (record { 0 = n })) + of_first n list

digit_most : (b : Bool) → digit b ≤ 1
digit_most true = omega arith
digit_most false = omega arith

of_first_most : (n : ℕ) (list : List ClassId) → of_first n list ≤ n
of_first_most zero list = omega arith
of_first_most (suc n) list =
    let one = digit_most (has list (record { 0 = n })) in let more = of_first_most n list in omega (arith, one, more)

digit_within : (a b : Bool) → (a ≡ true → b ≡ true) → digit a ≤ digit b
digit_within true true h = omega arith
digit_within true false h = let e = h refl in absurd cc
digit_within false b h = omega arith

of_first_within : (n : ℕ) (xs ys : List ClassId) → ((x : ClassId) → has xs x ≡ true → has ys x ≡ true) → of_first n xs ≤ of_first n ys
of_first_within zero xs ys h = omega arith
of_first_within (suc n) xs ys h =
    let one = digit_within (has xs (record { 0 = n })) (has ys (record { 0 = n })) (h (record { 0 = n })) in
    let more = of_first_within n xs ys h in omega (arith, one, more)

digit_less : (a b : Bool) → a ≡ false → b ≡ true → digit a < digit b
digit_less true b e f = absurd cc
digit_less false true e f = omega arith
digit_less false false e f = absurd cc

-- a list that lacks one of the classes that another has
of_first_less : (n m : ℕ) (xs ys : List ClassId) → ((x : ClassId) → has xs x ≡ true → has ys x ≡ true) → m < n →
    has xs (record { 0 = m }) ≡ false → has ys (record { 0 = m }) ≡ true → of_first n xs < of_first n ys
of_first_less zero m xs ys h low e f = absurd (omega (arith, low))
of_first_less (suc n) m xs ys h low e f = elim (cases_lt m n) [
  | inl less ↦
      let one = digit_within (has xs (record { 0 = n })) (has ys (record { 0 = n })) (h (record { 0 = n })) in
      let more = of_first_less n m xs ys h less e f in omega (arith, one, more)
  | inr past ↦
      let same : m ≡ n = omega (arith, low, past) in
      let one = digit_less (has xs (record { 0 = n })) (has ys (record { 0 = n }))
      (subst (λ (k : ℕ). has xs (record { 0 = k }) ≡ false) same e) (subst (λ (k : ℕ). has ys (record { 0 = k }) ≡ true) same f) in
      let more = of_first_within n xs ys h in omega (arith, one, more)
]

-- ---- lines within lines

module _ (h : List (List ClassId)) where
  -- the line of one of these stands in theirs
  in_lines : (us written : List ClassId) → Lines h us written → (u : ClassId) (v : List ClassId) → Contains us u → Line h u v →
      ((x : ClassId) → Contains v x → Contains written x) × (length v ≤ length written)
  in_lines us written lines.none u v m l = absurd (none_in u m)
  in_lines us written (lines.some c cs its others one rest) u v m l = elim (in_cases c u cs m) [
    | inl e ↦
        let same : v ≡ its = line_one h u v its l (subst (λ (k : ClassId). Line h k its) e one) in
        let long = length-append its others in
        let size = ap (λ (w : List ClassId). length w) same in
        (λ x k. Contains-append_left its others x (subst (λ (w : List ClassId). Contains w x) same k), omega (arith, long, size))
    | inr later ↦
        let r = in_lines cs others rest u v later l in
        let long = length-append its others in
        let size = r.1 in
        (λ x k. Contains-append_right its others x (r.0 x k), omega (arith, long, size))
  ]

  -- what stands in a line has a line, which is no longer
  record HasLine (x : ClassId) (most : ℕ) : Type 0 where
    line_of : List ClassId
    is : Line h x line_of
    short : length line_of ≤ most

  mutual
    line_in : (c : ClassId) (w : List ClassId) → Line h c w → (x : ClassId) → Contains w x → HasLine x (length w)
    line_in c w (lines.line one above parts) x m = elim (in_cases one x above m) [
      | inl e ↦ record { line_of = w; is = subst (λ (k : ClassId). Line h k w) e (lines.line one above parts); short = omega arith }
      | inr later ↦ let r = line_in_lines (ups_of h one) above parts x later in let s = r.short in record { line_of = r.line_of; is = r.is; short = omega (arith, s) }
    ]

    line_in_lines : (us written : List ClassId) → Lines h us written → (x : ClassId) → Contains written x → HasLine x (length written)
    line_in_lines us written lines.none x m = absurd (none_in x m)
    line_in_lines us written (lines.some c cs its others one rest) x m =
        let long = length-append its others in
        elim (Contains-append_cases its others x m) [
          | inl front ↦ let r = line_in c its one x front in let s = r.short in record { line_of = r.line_of; is = r.is; short = omega (arith, s, long) }
          | inr back ↦ let r = line_in_lines cs others rest x back in let s = r.short in record { line_of = r.line_of; is = r.is; short = omega (arith, s, long) }
        ]

  module _ (within : IsWithin h) where
    -- the line of what stands directly above has fewer of the classes
    fewer : (c u : ClassId) (w v : List ClassId) → c.0 < length h → Line h c w → Contains (ups_of h c) u → Line h u v →
        of_first (length h) v < of_first (length h) w
    fewer c u w v low (lines.line one above parts) m l =
        let r = in_lines (ups_of h one) above parts u v m l in
        let size = r.1 in
        of_first_less (length h) one.0 v (one ∷ above)
        (λ x k. has_from (one ∷ above) x (in_tail one x above (r.0 x (contains_from v x k))))
        low
        (elim (bool_cases (has v one)) [
          | inl k ↦
              let back = line_in u v l one (contains_from v one k) in
              let same = line_one h one back.line_of (one ∷ above) back.is (lines.line one above parts) in
              let e = ap (λ (ls : List ClassId). length ls) same in
              let short = back.short in
              absurd (omega (arith, e, short, size))
          | inr k ↦ k
        ])
        (has_from (one ∷ above) one (in_head one above))

    some_of : (u : ClassId) (v : List ClassId) → u.0 < length h → Line h u v → 0 < of_first (length h) v
    some_of u v low (lines.line one above parts) =
        let less = of_first_less (length h) one.0 [] (one ∷ above) (λ x k. absurd cc) low refl (has_from (one ∷ above) one (in_head one above)) in
        omega (arith, less)

    reckoned_lines : (d : ℕ) (us written : List ClassId) → Lines h us written →
        ((u : ClassId) (v : List ClassId) → Contains us u → Line h u v → v ≡ line_to h d u) → written ≡ flat_map (line_to h d) us
    reckoned_lines d us written lines.none each = refl
    reckoned_lines d us written (lines.some c cs its others one rest) each =
        ap (λ (w : List ClassId). w ++ others) (each c its (in_head c cs) one)
        ∙ ap (λ (w : List ClassId). line_to h d c ++ w) (reckoned_lines d cs others rest (λ u v m l. each u v (in_tail c u cs m) l))

    reckoned_line : (d : ℕ) (c : ClassId) (w : List ClassId) → c.0 < length h → Line h c w → of_first (length h) w ≤ d + 1 → w ≡ line_to h d c
    reckoned_line zero c w low (lines.line one above parts) most = ap (λ (ls : List ClassId). one ∷ ls) (alone (ups_of h one) above parts (λ u m. m))
      where
        alone : (us written : List ClassId) → Lines h us written → ((u : ClassId) → Contains us u → Contains (ups_of h one) u) → written ≡ []
        alone us written lines.none inside = refl
        alone us written (lines.some u more its others its_line rest) inside =
            let there = inside u (in_head u more) in
            let less = fewer one u (one ∷ above) its low (lines.line one above parts) there its_line in
            let some = some_of u its (up_low h one within one u there) its_line in
            absurd (omega (arith, less, some, most))
    reckoned_line (suc d) c w low (lines.line one above parts) most =
        ap (λ (ls : List ClassId). one ∷ ls)
        (reckoned_lines d (ups_of h one) above parts
        (λ u v m l. let less = fewer one u (one ∷ above) v low (lines.line one above parts) m l in
        reckoned_line d u v (up_low h one within one u m) l (omega (arith, less, most))))

    pub reckoned : (table : List (List ClassId)) → AreAll h table → (class : ClassId) (ancestors : List ClassId) → slice_get table class.0 ≡ Some ancestors →
        ancestors ≡ ancestors_in h class
    reckoned table all class ancestors at =
        let are = all.each class ancestors at in
        let many = all.many in
        let low : class.0 < length h = let l = slice_get_within table class.0 ancestors at in omega (arith, l, many) in
        let most = of_first_most (length h) are.written in
        are.once ∙ ap (kept []) (reckoned_line (length h) class are.written low are.line (omega (arith, most)))
