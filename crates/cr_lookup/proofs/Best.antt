-- The most special of the matches so far, and one more.
use Rattle.std.proofs.Common.{◌≡◌, ℕ, zero, suc, ◌+◌, ◌<◌, inl, inr, Bool, true, false, List, [], ◌∷◌, length, Some, refl, sym, ap, ◌∙◌, subst, arith}
use Rattle.std.specs.Prelude.{slice_get, unwrap_or, Option, All}
use Rattle.std.proofs.lemmas.Bool.{cases_lt}
use Rattle.std.proofs.lemmas.Option.{slice_get_within, slice_get_past, slice_get-get_or, same_Some, get_or_from_slice_get}
use Rattle.cr_base.specs.declared.ids.ClassId.{ClassId}
use Rattle.cr_lookup.specs.declared.method.Takes.{Takes}
use Rattle.cr_lookup.specs.declared.method.Method.{Method}
use Rattle.cr_lookup.specs.declared.method.Sought.{Sought}
use Rattle.cr_lookup.specs.Methods.{fits, Matches, IsBelow, Overlaps, IsCalm}
use Rattle.cr_lookup.specs.declared.method.Place.{Place}
use Rattle.cr_lookup.specs.Choice.{IsLeast, IsLeastAt, HasNoMatch, methods_of}

get_some : {A : Type 0} (xs : List A) (i : ℕ) → i < length xs → (x : A) × (slice_get xs i ≡ Some x)
get_some [] i lt = absurd (omega (arith, lt))
get_some (x ∷ xs) zero lt = (x, refl)
get_some (x ∷ xs) (suc i) lt = get_some xs i (omega (arith, lt))

stable : (b : Bool) → ((b ≡ true → ⊥) → ⊥) → b ≡ true
stable true h = refl
stable false h = absurd (h (λ e. cc))

below_self : (k : ℕ) (m : Method) → IsBelow k m m
below_self k m = record {
  many = refl;
  each = λ i a b e f. let same : a ≡ b = same_Some a b (sym e ∙ f) in λ c lt h. subst (λ (takes : Takes). fits takes c ≡ true) same h;
}

below_trans : (k : ℕ) (l m n : Method) → IsBelow k l m → IsBelow k m n → IsBelow k l n
below_trans k l m n h g = record {
  many = h.many ∙ g.many;
  each = λ i a b e f.
      let low = slice_get_within l.parameters i a e in let many = h.many in
      let at = get_some m.parameters i (omega (arith, low, many)) in
      λ c lt q. g.each i at.0 b at.1 f c lt (h.each i a at.0 e at.1 c lt q);
}

-- the methods of a place do not clash where those of no place do
calm_none : (k : ℕ) → IsCalm k []
calm_none k = λ n c. let e = c.first in absurd cc

pub calm_of : (k : ℕ) (methods : List (List Method)) (place : Place) → All (IsCalm k) methods → IsCalm k (methods_of methods place)
calm_of k methods place all =
    let family : List Method → Type 0 = λ ms. IsCalm k ms in
    elim (cases_lt place.0 (length methods)) [
      | inl low ↦ subst family (sym (ap (λ (o : Option (List Method)). unwrap_or o []) (slice_get-get_or methods place.0 [] low))) (all place.0 [] low)
      | inr past ↦ subst family (sym (ap (λ (o : Option (List Method)). unwrap_or o []) (slice_get_past methods place.0 past))) (calm_none k)
    ]

pub least_at : (k : ℕ) (methods : List Method) (sought : Sought) (args : List ClassId) (place : ℕ) (m : Method) → IsLeast k methods sought args (length methods) place → slice_get methods place ≡ Some m → IsLeastAt k methods sought args m.id
least_at k methods sought args place m is at = record {
  place = place;
  is = is;
  number = ap (λ (n : Method). n.id) (same_Some is.method m (sym is.there ∙ at));
}

module _ (k : ℕ) (methods : List Method) (sought : Sought) (args : List ClassId) (calm : IsCalm k methods) (classes : All (λ (class : ClassId). class.0 < k) args) where
  overlap : (m n : Method) → Matches m sought args → Matches n sought args → Overlaps k m n
  overlap m n a b = record {
    many = sym a.count ∙ b.count;
    each = λ i u v e f.
        let low = slice_get_within m.parameters i u e in let count = a.count in
        let lt : i < length args = omega (arith, low, count) in
        let at = get_some args i lt in
        record {
          class = at.0;
          within = subst (λ (c : ClassId). c.0 < k) (get_or_from_slice_get args i at.0 at.0 at.1) (classes i at.0 lt);
          first = a.fit i u at.0 e at.1;
          second = b.fit i v at.0 f at.1;
        };
  }

  -- of two matches one is the more special
  compared : (i j : ℕ) (m n : Method) → i < j → slice_get methods i ≡ Some m → slice_get methods j ≡ Some n → Matches m sought args → Matches n sought args → ¬ (IsBelow k n m) → IsBelow k m n
  compared i j m n lt at at' a b not =
      let both : (IsBelow k m n → ⊥) → ⊥ = λ h. calm j (record {
        earlier = i;
        m = m;
        later = n;
        before = lt;
        first = at;
        second = at';
        clash = record {
          name = a.name_is ∙ sym b.name_is;
          block = a.block_is ∙ sym b.block_is;
          overlap = overlap m n a b;
          not_below = h;
          not_above = not;
        };
      }) in
      record {
        many = sym a.count ∙ b.count;
        each = λ p u v e f c low h. stable (fits v c) (λ no_fit. both (λ below. no_fit (below.each p u v e f c low h)));
      }

  pub better_none : (many : ℕ) (m : Method) → slice_get methods many ≡ Some m → ¬ (Matches m sought args) → HasNoMatch methods sought args many → HasNoMatch methods sought args (many + 1)
  better_none many m at not none = λ j other lt there fit.
      elim (cases_lt j many) [
        | inl l ↦ none j other l there fit
        | inr l ↦ let e : j ≡ many = omega (arith, lt, l) in
            let same : other ≡ m = same_Some other m (sym there ∙ ap (slice_get methods) e ∙ at) in not (subst (λ (n : Method). Matches n sought args) same fit)
      ]

  pub better_first : (many : ℕ) (m : Method) → slice_get methods many ≡ Some m → Matches m sought args → HasNoMatch methods sought args many → IsLeast k methods sought args (many + 1) many
  better_first many m at fit none = record {
    method = m;
    before = omega arith;
    there = at;
    fit = fit;
    least = λ j other lt there also. elim (cases_lt j many) [
      | inl l ↦ absurd (none j other l there also)
      | inr l ↦ let e : j ≡ many = omega (arith, lt, l) in
          let same : m ≡ other = same_Some m other (sym at ∙ ap (slice_get methods) (sym e) ∙ there) in subst (IsBelow k m) same (below_self k m)
    ];
  }

  pub better_skip : (many b : ℕ) (m : Method) → slice_get methods many ≡ Some m → ¬ (Matches m sought args) → IsLeast k methods sought args many b → IsLeast k methods sought args (many + 1) b
  better_skip many b m at not best = record {
    method = best.method;
    before = let lt = best.before in omega (arith, lt);
    there = best.there;
    fit = best.fit;
    least = λ j other lt there also. elim (cases_lt j many) [
      | inl l ↦ best.least j other l there also
      | inr l ↦ let e : j ≡ many = omega (arith, lt, l) in
          let same : other ≡ m = same_Some other m (sym there ∙ ap (slice_get methods) e ∙ at) in absurd (not (subst (λ (n : Method). Matches n sought args) same also))
    ];
  }

  pub better_new : (many b : ℕ) (old m : Method) → slice_get methods b ≡ Some old → slice_get methods many ≡ Some m → Matches m sought args → IsBelow k m old → IsLeast k methods sought args many b → IsLeast k methods sought args (many + 1) many
  better_new many b old m at_old at fit below best =
      let s : best.method ≡ old = same_Some best.method old (sym best.there ∙ at_old) in
      record {
        method = m;
        before = omega arith;
        there = at;
        fit = fit;
        least = λ j other lt there also. elim (cases_lt j many) [
          | inl l ↦ below_trans k m old other below (subst (λ (n : Method). IsBelow k n other) s (best.least j other l there also))
          | inr l ↦ let e : j ≡ many = omega (arith, lt, l) in
              let same : m ≡ other = same_Some m other (sym at ∙ ap (slice_get methods) (sym e) ∙ there) in subst (IsBelow k m) same (below_self k m)
        ];
      }

  pub better_old : (many b : ℕ) (old m : Method) → slice_get methods b ≡ Some old → slice_get methods many ≡ Some m → Matches m sought args → ¬ (IsBelow k m old) → IsLeast k methods sought args many b → IsLeast k methods sought args (many + 1) b
  better_old many b old m at_old at fit not best =
      let s : best.method ≡ old = same_Some best.method old (sym best.there ∙ at_old) in
      let not_best : IsBelow k m best.method → ⊥ = λ h. not (subst (IsBelow k m) s h) in
      let low = best.before in
      record {
        method = best.method;
        before = omega (arith, low);
        there = best.there;
        fit = best.fit;
        least = λ j other lt there also. elim (cases_lt j many) [
          | inl l ↦ best.least j other l there also
          | inr l ↦ let e : j ≡ many = omega (arith, lt, l) in
              let same : m ≡ other = same_Some m other (sym at ∙ ap (slice_get methods) (sym e) ∙ there) in
              subst (IsBelow k best.method) same (compared b many best.method m low best.there at best.fit fit not_best)
        ];
      }
