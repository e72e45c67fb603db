-- What is left of a number in the bits of a width is equal to it modulo the width, and is the only such number.
use Rattle.std.proofs.Common.{◌≡◌, ◌∙◌, sym, ap, subst, ℕ, ◌+◌, ◌-◌, ◌*◌, ◌/◌, ◌%◌, ◌^◌, ◌<◌, zero, suc, Bool, true, false, refl, arith, w32, w64, to_z, of_z}
use Rattle.std.specs.Prelude.{ℤ, pos, negsuc, neg_ℤ, ◌+ℤ◌, ◌*ℤ◌, FitsSigned, ltb}
use Rattle.std.specs.Int.{int_wrap}
use Rattle.std.proofs.lemmas.Int.{ints, to_z-of_z, SFits-int_wrap}
use borrow.Author.Differences.{sum_is_lem}
use native.Mathlib.Nat.{div-add-mod', mod-lt}
use mir.Syntax.{Width}
use mir.Val.{bits, hbits, sel}
use lib.Pow.{pow_pos}
use Rattle.cr_value.specs.Arithmetic.{Wraps}
use Rattle.cr_value.specs.declared.arithmetic.Width.{Width as TheWidth}
use Rattle.cr_value.specs.declared.arithmetic.Width.TheVariants.{Small, Big}

-- from the bits n of z, which are z and k times the modulus, the number that is read
shifted : (m h n : ℕ) (z k : ℤ) → n < m → z +ℤ k *ℤ pos m ≡ pos n → (b : Bool) → ltb n h ≡ b → (j : ℤ) × (sel b (pos n) (negsuc (m - suc n)) ≡ z +ℤ j *ℤ pos m)
shifted m h n z k below e true t = (k, sym e)
shifted m h n z k below e false t =
    let less = ap (λ (x : ℕ). x * m) (sum_is_lem k (negsuc 0)) in
    (k +ℤ negsuc 0, omega (arith, ints, less))

-- the bits of a number are that number and so many times the modulus
from_natural : (q m r a : ℕ) → q * m + r ≡ a → pos a +ℤ neg_ℤ (pos q) *ℤ pos m ≡ pos r
from_natural zero m r a e = omega (arith, ints)
from_natural (suc q) m r a e = omega (arith, ints)

from_negative : (q m r a : ℕ) → q * m + r ≡ a → r < m → negsuc a +ℤ pos (suc q) *ℤ pos m ≡ pos (m - 1 - r)
from_negative q m r a e below = omega (arith, ints)

-- what is left in the bits of a width is equal to the number modulo the width
pub wrap_is : (w : Width) (z : ℤ) → (j : ℤ) × (int_wrap w z ≡ z +ℤ j *ℤ pos (2 ^ bits w))
unfolding int_wrap
wrap_is w (pos a) =
    let m : ℕ = 2 ^ bits w in
    let some : 0 < m = pow_pos (bits w) in
    shifted m (2 ^ hbits w) (a % m) (pos a) (neg_ℤ (pos (a / m))) (mod-lt a some) (from_natural (a / m) m (a % m) a (div-add-mod' a m)) (ltb (a % m) (2 ^ hbits w)) refl
wrap_is w (negsuc a) =
    let m : ℕ = 2 ^ bits w in
    let some : 0 < m = pow_pos (bits w) in
    let small = mod-lt a some in
    shifted m (2 ^ hbits w) (m - 1 - a % m) (negsuc a) (pos (suc (a / m))) (omega arith) (from_negative (a / m) m (a % m) a (div-add-mod' a m) small) (ltb (m - 1 - a % m) (2 ^ hbits w)) refl

-- and it fits the width
pub wraps_small : (exact : ℤ) → Wraps Small exact (int_wrap w32 exact)
wraps_small exact = record { fits = SFits-int_wrap w32 exact; modulo = wrap_is w32 exact }

pub wraps_big : (exact : ℤ) → Wraps Big exact (int_wrap w64 exact)
wraps_big exact = record { fits = SFits-int_wrap w64 exact; modulo = wrap_is w64 exact }

-- what the code's result is, read back from 64 bits
pub small_result : (w : TheWidth) (exact r : ℤ) → w ≡ Small → r ≡ int_wrap w32 exact → Wraps w exact (to_z w64 (of_z w64 r))
small_result w exact r is e =
    let fits : FitsSigned w32 r = subst (λ (x : ℤ). FitsSigned w32 x) (sym e) (SFits-int_wrap w32 exact) in
    let kept : to_z w64 (of_z w64 r) ≡ r = to_z-of_z w64 r (record { sfits = omega (arith, fits.sfits) }) in
    subst (λ (v : TheWidth). Wraps v exact (to_z w64 (of_z w64 r))) (sym is) (subst (λ (x : ℤ). Wraps Small exact x) (sym (kept ∙ e)) (wraps_small exact))

pub big_result : (w : TheWidth) (exact r : ℤ) → w ≡ Big → r ≡ int_wrap w64 exact → Wraps w exact r
big_result w exact r is e =
    subst (λ (v : TheWidth). Wraps v exact r) (sym is) (subst (λ (x : ℤ). Wraps Big exact x) (sym e) (wraps_big exact))

-- no two numbers of a width are equal modulo it
wrapped_once_small : (exact one other : ℤ) → Wraps Small exact one → Wraps Small exact other → one ≡ other
wrapped_once_small exact one other f g =
    let a = f.modulo.1 in let b = g.modulo.1 in let p = f.fits in let q = g.fits in omega (arith, ints)

wrapped_once_big : (exact one other : ℤ) → Wraps Big exact one → Wraps Big exact other → one ≡ other
wrapped_once_big exact one other f g =
    let a = f.modulo.1 in let b = g.modulo.1 in let p = f.fits in let q = g.fits in omega (arith, ints)

pub wrapped_once : (w : TheWidth) (exact one other : ℤ) → Wraps w exact one → Wraps w exact other → one ≡ other
wrapped_once Small = wrapped_once_small
wrapped_once Big = wrapped_once_big
