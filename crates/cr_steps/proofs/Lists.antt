-- A list of which one element was replaced.
use Rattle.std.proofs.Common.{◌≡◌, ℕ, zero, suc, List, [], ◌∷◌, Some, refl, sym, ap, subst, ◌∙◌}
use Rattle.std.specs.Prelude.{slice_get, slice_set, All}
use Rattle.std.proofs.lemmas.Option.{slice_get_within, get_or_from_slice_get}

pub set_here : {A : Type 0} (xs : List A) (i : ℕ) (x y : A) → slice_get xs i ≡ Some x → slice_get (slice_set xs i y) i ≡ Some y
set_here [] i x y e = absurd cc
set_here (z ∷ xs) zero x y e = refl
set_here (z ∷ xs) (suc i) x y e = set_here xs i x y e

pub set_twice : {A : Type 0} (xs : List A) (i : ℕ) (x y : A) → slice_set (slice_set xs i x) i y ≡ slice_set xs i y
set_twice [] i x y = refl
set_twice (z ∷ xs) zero x y = refl
set_twice (z ∷ xs) (suc i) x y = ap (λ (us : List _). z ∷ us) (set_twice xs i x y)

pub set_self : {A : Type 0} (xs : List A) (i : ℕ) (x : A) → slice_get xs i ≡ Some x → slice_set xs i x ≡ xs
set_self [] i x e = refl
set_self (z ∷ xs) zero x e = let same : z ≡ x = cc in ap (λ (u : _). u ∷ xs) (sym same)
set_self (z ∷ xs) (suc i) x e = ap (λ (us : List _). z ∷ us) (set_self xs i x e)

-- where one element was replaced by one that is as good, there is an element as good at each place
pub kept_at : {A B : Type 0} (g : A → B) (xs : List A) (i k : ℕ) (x y z : A) → slice_get xs i ≡ Some x → g y ≡ g x → slice_get xs k ≡ Some z
    → (u : A) × (slice_get (slice_set xs i y) k ≡ Some u) × (g u ≡ g z)
kept_at g [] i k x y z e same at = absurd cc
kept_at g (w ∷ xs) zero zero x y z e same at = (y, refl, same ∙ ap g (let a : x ≡ z = cc in a))
kept_at g (w ∷ xs) zero (suc k) x y z e same at = (z, at, refl)
kept_at g (w ∷ xs) (suc i) zero x y z e same at = (z, at, refl)
kept_at g (w ∷ xs) (suc i) (suc k) x y z e same at = kept_at g xs i k x y z e same at

pub at_place : {A : Type 0} (P : A → Type 0) (xs : List A) (i : ℕ) (x : A) → All P xs → slice_get xs i ≡ Some x → P x
at_place P xs i x all e = subst P (get_or_from_slice_get xs i x x e) (all i x (slice_get_within xs i x e))
