-- The choice as a function is the choice as lookup says it, where no two methods of a place take the same.
use Rattle.std.proofs.Common.{◌≡◌, ℕ, zero, suc, ◌<◌, inl, inr, Bool, true, false, not, ◌&&◌, eqb, List, [], ◌∷◌, length, Option, Some, None, refl, sym, ap, ◌∙◌, subst, arith, eqb-true, eq-eqb}
use Rattle.std.specs.Prelude.{slice_get, filter, unwrap_or, option_map, ◌||◌, All}
use Rattle.std.specs.List.{list_all}
use Rattle.std.specs.Option.{option_or}
use Rattle.std.proofs.lemmas.Bool.{cases_lt}
use Rattle.std.proofs.lemmas.Option.{same_Some, slice_get-get_or, slice_get_past, slice_get_within}
use Rattle.cr_base.specs.declared.ids.ClassId.{ClassId}
use Rattle.cr_base.specs.declared.ids.MethodId.{MethodId}
use Rattle.cr_base.specs.declared.ids.NameId.{NameId}
use Rattle.cr_ancestors.specs.Line.{has}
use Rattle.cr_lookup.specs.declared.method.Takes.{Takes}
use Rattle.cr_lookup.specs.declared.method.Method.{Method}
use Rattle.cr_lookup.specs.declared.method.Place.{Place}
use Rattle.cr_lookup.specs.declared.method.Sought.{Sought}
use Rattle.cr_lookup.specs.Methods.{fits, FitsAll, Matches, IsWithin, ArePairs, EachPair, IsBelow}
use Rattle.cr_lookup.specs.Choice.{IsLeast, IsLeastAt, HasNone, IsChoice, methods_of}
use Rattle.cr_tables.specs.Numbers.{first_classes}
use Rattle.cr_tables.specs.Choosing.{is_same, take_all, is_match, is_within, is_below, most_special, chosen_among, first_chosen}
use Rattle.cr_tables.specs.Tables.{AreApart}
use Rattle.cr_tables.proofs.Listed.{In, and_from, and_both, not_false, from_not, implied, implies, in_at, place_in, in_filter, from_filter, all_in, all_at, find_one, filter_none, in_first, from_first}

-- ---- matches

same_to : (a b : Bool) → is_same a b ≡ true → a ≡ b
same_to true b e = sym e
same_to false true e = absurd cc
same_to false false e = refl

same_from : (a b : Bool) → a ≡ b → is_same a b ≡ true
same_from true b e = sym e
same_from false true e = absurd cc
same_from false false e = refl

name_same : (a b : NameId) → a.0 ≡ b.0 → a ≡ b
name_same a b e = λ i. record { 0 = e i }

fits_more : (p : Takes) (ps : List Takes) (c : ClassId) (cs : List ClassId) → fits p c ≡ true → FitsAll ps cs → FitsAll (p ∷ ps) (c ∷ cs)
fits_more p ps c cs h more zero t d a b =
    subst (λ (x : Takes). fits x d ≡ true) (same_Some p t a) (subst (λ (x : ClassId). fits p x ≡ true) (same_Some c d b) h)
fits_more p ps c cs h more (suc i) t d a b = more i t d a b

take_all_to : (ps : List Takes) (cs : List ClassId) → take_all ps cs ≡ true → (length cs ≡ length ps) × FitsAll ps cs
take_all_to [] [] e = (refl, λ i t c a b. absurd cc)
take_all_to [] (c ∷ cs) e = absurd cc
take_all_to (p ∷ ps) [] e = absurd cc
take_all_to (p ∷ ps) (c ∷ cs) e =
    let s = and_from (fits p c) (take_all ps cs) e in
    let r = take_all_to ps cs s.1 in (ap (λ (n : ℕ). suc n) r.0, fits_more p ps c cs s.0 r.1)

take_all_from : (ps : List Takes) (cs : List ClassId) → length cs ≡ length ps → FitsAll ps cs → take_all ps cs ≡ true
take_all_from [] [] e h = refl
take_all_from [] (c ∷ cs) e h = absurd (omega (arith, e))
take_all_from (p ∷ ps) [] e h = absurd (omega (arith, e))
take_all_from (p ∷ ps) (c ∷ cs) e h =
    and_both (fits p c) (take_all ps cs) (h zero p c refl refl) (take_all_from ps cs (omega (arith, e)) (λ i t d a b. h (suc i) t d a b))

pub match_to : (sought : Sought) (args : List ClassId) (m : Method) → is_match sought args m ≡ true → Matches m sought args
match_to sought args m e =
    let named = eqb m.name.0 sought.name.0 in
    let block = is_same m.block sought.block in
    let seen = not (has m.passed_over sought.receiver) in
    let takes = take_all m.parameters args in
    let s = and_from (named && block && seen) takes e in
    let r = and_from (named && block) seen s.0 in
    let q = and_from named block r.0 in
    let t = take_all_to m.parameters args s.1 in
    record {
      name_is = name_same m.name sought.name (eqb-true m.name.0 sought.name.0 q.0);
      block_is = same_to m.block sought.block q.1;
      looked_at = from_not (has m.passed_over sought.receiver) r.1;
      count = t.0;
      fit = t.1;
    }

pub match_from : (sought : Sought) (args : List ClassId) (m : Method) → Matches m sought args → is_match sought args m ≡ true
match_from sought args m h =
    let named = eqb m.name.0 sought.name.0 in
    let block = is_same m.block sought.block in
    let seen = not (has m.passed_over sought.receiver) in
    let takes = take_all m.parameters args in
    and_both (named && block && seen) takes
    (and_both (named && block) seen
    (and_both named block (eq-eqb m.name.0 sought.name.0 (ap (λ (n : NameId). n.0) h.name_is)) (same_from m.block sought.block h.block_is))
    (not_false (has m.passed_over sought.receiver) h.looked_at))
    (take_all_from m.parameters args h.count h.fit)

-- ---- how methods compare

module _ (k : ℕ) where
  within_to : (a b : Takes) → is_within (first_classes k) a b ≡ true → IsWithin k a b
  within_to a b e = λ class low h.
      implied (fits a class) (fits b class) (all_at (λ (c : ClassId). not (fits a c) || fits b c) (first_classes k) class e (in_first k class low)) h

  within_from : (a b : Takes) → IsWithin k a b → is_within (first_classes k) a b ≡ true
  within_from a b h = all_in (λ (c : ClassId). not (fits a c) || fits b c) (first_classes k)
      (λ class m. implies (fits a class) (fits b class) (h class (from_first k class m)))

  pair_more : (a b : Takes) (ps qs : List Takes) → IsWithin k a b → EachPair (IsWithin k) ps qs → EachPair (IsWithin k) (a ∷ ps) (b ∷ qs)
  pair_more a b ps qs h more zero u v e f =
      subst (λ (x : Takes). IsWithin k x v) (same_Some a u e) (subst (λ (x : Takes). IsWithin k a x) (same_Some b v f) h)
  pair_more a b ps qs h more (suc i) u v e f = more i u v e f

  below_to : (ps qs : List Takes) → is_below (first_classes k) ps qs ≡ true → ArePairs (IsWithin k) ps qs
  below_to [] [] e = record { many = refl; each = λ i u v a b. absurd cc }
  below_to [] (b ∷ qs) e = absurd cc
  below_to (a ∷ ps) [] e = absurd cc
  below_to (a ∷ ps) (b ∷ qs) e =
      let s = and_from (is_within (first_classes k) a b) (is_below (first_classes k) ps qs) e in
      let r = below_to ps qs s.1 in
      record { many = ap (λ (n : ℕ). suc n) r.many; each = pair_more a b ps qs (within_to a b s.0) r.each }

  below_from : (ps qs : List Takes) → ArePairs (IsWithin k) ps qs → is_below (first_classes k) ps qs ≡ true
  below_from [] [] h = refl
  below_from [] (b ∷ qs) h = let e = h.many in absurd (omega (arith, e))
  below_from (a ∷ ps) [] h = let e = h.many in absurd (omega (arith, e))
  below_from (a ∷ ps) (b ∷ qs) h =
      and_both (is_within (first_classes k) a b) (is_below (first_classes k) ps qs)
      (within_from a b (h.each zero a b refl refl))
      (below_from ps qs (record { many = let e = h.many in omega (arith, e); each = λ i u v e f. h.each (suc i) u v e f }))

  -- ---- the choice

  abbrev beats_all : List Method → Method → Bool
  beats_all methods m = list_all (λ (other : Method). is_below (first_classes k) m.parameters other.parameters) methods

  module _ (methods : List Method) (sought : Sought) (args : List ClassId) where
    abbrev found : List Method
    found = filter (is_match sought args) methods

    chosen_none : HasNone methods sought args → chosen_among (first_classes k) sought args methods ≡ None
    chosen_none h =
        let none : found ≡ [] = filter_none (is_match sought args) methods
        (λ m there e. let p = place_in methods m there in h p.0 m (slice_get_within methods p.0 m p.1) p.1 (match_to sought args m e)) in
        ap (λ (ms : List Method). option_map (λ (m : Method). m.id) (most_special (first_classes k) ms)) none

    chosen_one : (i : ℕ) (apart : AreApart k methods) (is : IsLeast k methods sought args (length methods) i) →
        chosen_among (first_classes k) sought args methods ≡ Some is.method.id
    chosen_one i apart is = ap (option_map (λ (m : Method). m.id)) (find_one (beats_all found) found is.method here beats only)
      where
        here : In is.method found
        here = in_filter (is_match sought args) methods is.method (in_at methods i is.method is.there) (match_from sought args is.method is.fit)

        least : (other : Method) → In other found → IsBelow k is.method other
        least other m =
            let r = from_filter (is_match sought args) methods other m in
            let p = place_in methods other r.1 in
            is.least p.0 other (slice_get_within methods p.0 other p.1) p.1 (match_to sought args other r.0)

        beats : beats_all found is.method ≡ true
        beats = all_in (λ (other : Method). is_below (first_classes k) is.method.parameters other.parameters) found
            (λ other m. below_from is.method.parameters other.parameters (least other m))

        only : (y : Method) → In y found → beats_all found y ≡ true → y ≡ is.method
        only y m e =
            let r = from_filter (is_match sought args) methods y m in
            let p = place_in methods y r.1 in
            let fit = match_to sought args y r.0 in
            let below = below_to y.parameters is.method.parameters
            (all_at (λ (other : Method). is_below (first_classes k) y.parameters other.parameters) found is.method e here) in
            let same = apart p.0 i y is.method p.1 is.there (record {
              name = fit.name_is ∙ sym is.fit.name_is;
              block = fit.block_is ∙ sym is.fit.block_is;
              below = below;
              above = least y m;
            }) in
            same_Some y is.method (sym p.1 ∙ ap (slice_get methods) same ∙ is.there)

-- ---- among places

none_apart : (k : ℕ) → AreApart k []
none_apart k = λ i j m n e f twins. absurd cc

apart_of : (k : ℕ) (methods : List (List Method)) (place : Place) → All (AreApart k) methods → AreApart k (methods_of methods place)
apart_of k methods place all =
    let family : List Method → Type 0 = λ ms. AreApart k ms in
    elim (cases_lt place.0 (length methods)) [
      | inl low ↦ subst family (sym (ap (λ (o : Option (List Method)). unwrap_or o []) (slice_get-get_or methods place.0 [] low))) (all place.0 [] low)
      | inr past ↦ subst family (sym (ap (λ (o : Option (List Method)). unwrap_or o []) (slice_get_past methods place.0 past))) (none_apart k)
    ]

module _ (k : ℕ) (methods : List (List Method)) (sought : Sought) (args : List ClassId) (apart : All (AreApart k) methods) where
  abbrev here : Place → Option MethodId
  here p = chosen_among (first_classes k) sought args (methods_of methods p)

  abbrev further_on : List Place → Option MethodId
  further_on places = first_chosen (first_classes k) methods sought args places

  none_first : (places : List Place) → ((j : ℕ) (p : Place) → slice_get places j ≡ Some p → HasNone (methods_of methods p) sought args) → further_on places ≡ None
  none_first [] h = refl
  none_first (p ∷ places) h =
      ap (λ (o : Option MethodId). option_or o (further_on places)) (chosen_none k (methods_of methods p) sought args (h zero p refl))
      ∙ none_first places (λ j q e. h (suc j) q e)

  one_at : (p : Place) (id : MethodId) → IsLeastAt k (methods_of methods p) sought args id → here p ≡ Some id
  one_at p id least =
      chosen_one k (methods_of methods p) sought args least.place (apart_of k methods p apart) least.is ∙ ap Some least.number

  some_first : (places : List Place) (n : ℕ) (p : Place) (id : MethodId) → slice_get places n ≡ Some p → IsLeastAt k (methods_of methods p) sought args id →
      ((j : ℕ) (q : Place) → j < n → slice_get places j ≡ Some q → HasNone (methods_of methods q) sought args) → further_on places ≡ Some id
  some_first [] n p id e least before = absurd cc
  some_first (q ∷ places) zero p id e least before =
      ap (λ (o : Option MethodId). option_or o (further_on places))
      (one_at q id (subst (λ (x : Place). IsLeastAt k (methods_of methods x) sought args id) (sym (same_Some q p e)) least))
  some_first (q ∷ places) (suc n) p id e least before =
      ap (λ (o : Option MethodId). option_or o (further_on places)) (chosen_none k (methods_of methods q) sought args (before zero q (omega arith) refl))
      ∙ some_first places n p id e least (λ j x low f. before (suc j) x (omega (arith, low)) f)

  pub choice_is : (places : List Place) (r : Option MethodId) → IsChoice k methods places sought args r → r ≡ first_chosen (first_classes k) methods sought args places
  choice_is places None h = sym (none_first places h)
  choice_is places (Some id) h = sym (some_first places h.nth h.place id h.there h.least h.none_before)
