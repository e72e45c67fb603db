-- The lines of the table are apart, and a line is known by its three parts.
use Rattle.std.proofs.Common.{◌≡◌, ◌≢◌, ℕ, zero, suc, ◌==◌, Bool, true, false, ◌&&◌, if◌then◌else◌, List, [], ◌∷◌, map, slice_get, Some, None, eq-eqb, refl, sym, ap, subst, ◌∙◌, rules}
use Rattle.std.specs.Str.{bytes_eq}
use Rattle.std.proofs.lemmas.Slice.Eq.{bytes_eq-Decides}
use denote.Enum.Bare.{true_same}
use Rattle.cr_prelude.specs.contracts.class.BuiltinClass.{the_type}
use Rattle.cr_prelude.specs.Builtins.{Line, lines, same_class, OneNumberALine}

-- a test of two lines, which computes
alike : Line → Line → Bool
alike k l = same_class k.class l.class && (bytes_eq k.name l.name && (k.count == l.count))

same_self : (l : Line) → same_class l.class l.class ≡ true
unfolding same_class
same_self l = true_same the_type l.class l.class refl

and_true : (a b c : Bool) → a ≡ true → b ≡ true → c ≡ true → (a && (b && c)) ≡ true
and_true true true true p q r = refl
and_true false b c p q r = absurd cc
and_true true false c p q r = absurd cc
and_true true true false p q r = absurd cc

alike_self : (l : Line) → alike l l ≡ true
unfolding alike
alike_self l = and_true _ _ _ (same_self l) ((bytes_eq-Decides l.name l.name).1 refl) (eq-eqb l.count l.count refl)

-- no line of the list is like this one
fresh : Line → List Line → Bool
fresh l [] = true
fresh l (k ∷ ks) = if alike l k then false else fresh l ks

apart : List Line → Bool
apart [] = true
apart (l ∷ ls) = fresh l ls && apart ls

other : (b r : Bool) → (if b then false else r) ≡ true → (b ≡ false) × (r ≡ true)
other true r e = absurd cc
other false r e = (refl, e)

both : (a b : Bool) → (a && b) ≡ true → (a ≡ true) × (b ≡ true)
both true b e = (refl, e)
both false b e = absurd cc

not_among : (l : Line) (ks : List Line) (j : ℕ) → fresh l ks ≡ true → slice_get ks j ≡ Some l → ⊥
unfolding fresh
not_among l [] j is e = absurd cc
not_among l (k ∷ ks) zero is e =
    let same : k ≡ l = cc in
    let unlike : alike l k ≡ false = (other _ _ is).0 in
    let like : alike l k ≡ true = subst (λ (x : Line). alike l x ≡ true) (sym same) (alike_self l) in
    absurd cc
not_among l (k ∷ ks) (suc j) is e = not_among l ks j ((other _ _ is).1) e

one_place : (ls : List Line) → apart ls ≡ true → (i j : ℕ) (l : Line) → slice_get ls i ≡ Some l → slice_get ls j ≡ Some l → i ≡ j
unfolding apart
one_place [] is i j l p q = absurd cc
one_place (k ∷ ks) is zero zero l p q = refl
one_place (k ∷ ks) is zero (suc j) l p q = absurd (not_among k ks j ((both _ _ is).0) (let same : k ≡ l = cc in q ∙ ap Some (sym same)))
one_place (k ∷ ks) is (suc i) zero l p q = absurd (not_among k ks i ((both _ _ is).0) (let same : k ≡ l = cc in p ∙ ap Some (sym same)))
one_place (k ∷ ks) is (suc i) (suc j) l p q = ap suc (one_place ks ((both _ _ is).1) i j l p q)

lines_apart : apart lines ≡ true
unfolding lines same_class alike fresh apart
lines_apart = refl

pub one_number_a_line : OneNumberALine
one_number_a_line = one_place lines lines_apart
