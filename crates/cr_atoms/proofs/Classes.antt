-- The atoms that a test of their classes keeps.
use Rattle.std.proofs.Common.{◌≡◌, ◌≢◌, ◌==◌, Bool, true, false, cond, not, List, [], ◌∷◌, filter, Contains, Option, Some, None, refl, sym, ap, ◌∙◌, subst, ◌⊎◌, inl, inr, true≢false, eqb-true, eq-eqb}
use Rattle.std.specs.List.{list_any}
use Rattle.std.specs.Option.{option_map_or}
use Rattle.std.proofs.lemmas.List.Folds.{Any-from_list_any, list_any-from_Any}
use Rattle.cr_base.specs.declared.ids.ClassId.{ClassId}
use Rattle.cr_atoms.proofs.Members.{none_in, in_head, in_tail, in_cases}

module _ {X : Type 0} (p : X → Bool) where
  pub from_filter : (xs : List X) (x : X) → Contains (filter p xs) x → Contains xs x × (p x ≡ true)
  from_filter [] x h = absurd (none_in x h)
  from_filter (y ∷ ys) x h = by_test (p y) refl h (from_filter ys x)
    where
      by_test : (b : Bool) → p y ≡ b → Contains (cond b (y ∷ filter p ys) (filter p ys)) x → (Contains (filter p ys) x → Contains ys x × (p x ≡ true)) → Contains (y ∷ ys) x × (p x ≡ true)
      by_test true e is rest = elim (in_cases y x (filter p ys) is) [
        | inl same ↦ (subst (Contains (y ∷ ys)) same (in_head y ys), subst (λ (z : X). p z ≡ true) same e)
        | inr more ↦ (in_tail y x ys (rest more).0, (rest more).1)
      ]
      by_test false e is rest = (in_tail y x ys (rest is).0, (rest is).1)

  pub in_filter : (xs : List X) (x : X) → Contains xs x → p x ≡ true → Contains (filter p xs) x
  in_filter [] x h passes = absurd (none_in x h)
  in_filter (y ∷ ys) x h passes = by_test (p y) refl (in_cases y x ys h) (λ more. in_filter ys x more passes)
    where
      by_test : (b : Bool) → p y ≡ b → (y ≡ x) ⊎ Contains ys x → (Contains ys x → Contains (filter p ys) x) → Contains (cond b (y ∷ filter p ys) (filter p ys)) x
      by_test true e (inl same) rest = subst (Contains (y ∷ filter p ys)) same (in_head y (filter p ys))
      by_test true e (inr more) rest = in_tail y x (filter p ys) (rest more)
      by_test false e (inl same) rest = absurd (true≢false (sym passes ∙ ap p (sym same) ∙ e))
      by_test false e (inr more) rest = rest more

class_same : (a b : ClassId) → a.0 ≡ b.0 → a ≡ b
class_same a b e = λ i. record { 0 = e i }

-- whether a class that may be absent is among these
abbrev is_among : List ClassId → Option ClassId → Bool
is_among classes o = option_map_or (λ class. list_any (λ other. other.0 == class.0) classes) o false

pub among : (classes : List ClassId) (o : Option ClassId) → is_among classes o ≡ true → (class : ClassId) × (o ≡ Some class) × Contains classes class
among classes None e = absurd (true≢false (sym e))
among classes (Some class) e =
    let any = Any-from_list_any (λ (other : ClassId). other.0 == class.0) classes e in
    (class, refl, subst (Contains classes) (class_same any.1 class (eqb-true any.1.0 class.0 any.4)) (any.0, any.2, any.3))

pub is_in : (classes : List ClassId) (o : Option ClassId) → (class : ClassId) × (o ≡ Some class) × Contains classes class → is_among classes o ≡ true
is_in classes o (class, e, (k, within, at)) =
    ap (is_among classes) e ∙ list_any-from_Any (λ (other : ClassId). other.0 == class.0) classes (k, class, within, at, eq-eqb class.0 class.0 refl)

pub other_class : (class : ClassId) (o : Option ClassId) → not (is_among (class ∷ []) o) ≡ true → o ≢ Some class
other_class class o e is = true≢false (sym e ∙ ap not (is_in (class ∷ []) o (class, is, in_head class [])))

only : (class d : ClassId) → Contains (class ∷ []) d → d ≡ class
only class d there = elim (in_cases class d [] there) [ inl is ↦ sym is | inr more ↦ absurd (none_in d more) ]

pub is_other : (class : ClassId) (o : Option ClassId) → o ≢ Some class → not (is_among (class ∷ []) o) ≡ true
is_other class o h = by_test (is_among (class ∷ []) o) refl
  where
    by_test : (b : Bool) → is_among (class ∷ []) o ≡ b → not b ≡ true
    by_test true e = let found = among (class ∷ []) o e in absurd (h (found.1 ∙ ap Some (only class found.0 found.2)))
    by_test false e = refl
