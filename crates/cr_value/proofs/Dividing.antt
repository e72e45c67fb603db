-- A division has one floor quotient and remainder, which differ from those that round towards 0 where the signs do.
use Rattle.std.proofs.Common.{◌≡◌, ◌∙◌, sym, ap, subst, ℕ, zero, ◌+◌, ◌*◌, ◌/◌, ◌<◌, ◌≤◌, suc, Bool, true, false, refl, arith, w32, w64, to_z, of_z}
use Rattle.std.specs.Prelude.{◌≢◌, ℤ, pos, negsuc, ◌+ℤ◌, ◌-ℤ◌, ◌*ℤ◌, unsigned_abs, int_div, int_rem, FitsSigned, not, neg_ℤ, ◌↔◌, Option, Some, None, SomeIff, IfOk, IsErrOf}
use Rattle.std.specs.Option.{ok_or}
use Rattle.std.proofs.lemmas.Int.{ints, unsigned_abs-mul, quot-rem, rem_below, by_lt_z, fits_signed_from_abs, to_z-of_z}
use native.Mathlib.Nat.{div-add-mod', mul-le-mul_left}
use lib.Signed.{lt_z}
use mathlib.Core.Bool.{beq, true≢false}
use borrow.Author.Differences.{up, down}
use mathlib.Core.Logic.{inl, inr}
use Rattle.cr_value.specs.Arithmetic.{Fits}
use Rattle.cr_value.specs.declared.arithmetic.Width.{Width as TheWidth}
use Rattle.cr_value.specs.declared.arithmetic.Width.TheVariants.{Small, Big}
use Rattle.cr_value.specs.declared.division.Division.TheVariants.{Overflow}
use Rattle.cr_value.specs.Division.{IsRest, IsFloorDivision, IsFloorQuotient}

-- s b + p b is (s + p) b
pub sum_of_products : (s p q b : ℤ) → s +ℤ p ≡ q → s *ℤ b +ℤ p *ℤ b ≡ q *ℤ b
sum_of_products s p q b e =
    let gap : up s + up p + down q ≡ down s + down p + up q = omega (arith, ints) in
    let ups = ap (λ (x : ℕ). x * up b) gap in
    let downs = ap (λ (x : ℕ). x * down b) gap in
    omega (arith, ints, ups, downs)

-- no multiple of b but 0 is nearer to 0 than b
small_multiple : (d b : ℤ) → unsigned_abs (d *ℤ b) < unsigned_abs b → d ≡ pos 0
small_multiple (pos zero) b h = refl
small_multiple (pos (suc n)) b h = absurd (omega (arith, h, unsigned_abs-mul (pos (suc n)) b))
small_multiple (negsuc n) b h = absurd (omega (arith, h, unsigned_abs-mul (negsuc n) b))

-- what a division leaves fits where the divisor does
pub between : (r b : ℤ) → FitsSigned w64 b → IsRest b r → FitsSigned w64 r
between r b f (inl h) = omega (arith, ints)
between r b f (inr h) = omega (arith, ints)

between_small : (r b : ℤ) → FitsSigned w32 b → IsRest b r → FitsSigned w32 r
between_small r b f (inl h) = omega (arith, ints)
between_small r b f (inr h) = omega (arith, ints)

-- two rests are nearer to each other than b is to 0
near : (b r s : ℤ) → IsRest b r → IsRest b s
    → unsigned_abs (s -ℤ r) < unsigned_abs b
near b r s (inl h) (inl k) = omega (arith, ints)
near b r s (inl h) (inr k) = omega (arith, ints)
near b r s (inr h) (inl k) = omega (arith, ints)
near b r s (inr h) (inr k) = omega (arith, ints)

-- a division has one quotient and one rest
pub floor_division_once : (a b q r p s : ℤ) → IsFloorDivision a b q r → IsFloorDivision a b p s → (q ≡ p) × (r ≡ s)
floor_division_once a b q r p s f g =
    let d : ℤ = q -ℤ p in
    let products = sum_of_products d p q b (omega (arith, ints)) in
    let wholes : q *ℤ b +ℤ r ≡ p *ℤ b +ℤ s = sym f.whole ∙ g.whole in
    let multiple : d *ℤ b ≡ s -ℤ r = omega (arith, ints) in
    let none : d ≡ pos 0 = small_multiple d b (subst (λ (x : ℤ). unsigned_abs x < unsigned_abs b) (sym multiple) (near b r s f.rest g.rest)) in
    let same : q ≡ p = omega (arith, ints, none) in
    (same, omega (arith, ints, wholes, ap (λ (x : ℤ). x *ℤ b) same))

-- a divisor that is not 0 has a size
some : (b : ℤ) → b ≢ pos 0 → 0 < unsigned_abs b
some b h = omega (arith, ints)

-- a quotient by 2 or more is no more than half
half : (a b : ℤ) → 2 ≤ unsigned_abs b → 2 * unsigned_abs (int_div a b) ≤ unsigned_abs a
half (pos a) (pos b) h = omega (arith, div-add-mod' a b, mul-le-mul_left (a / b) h)
half (pos a) (negsuc b) h = omega (arith, ints, div-add-mod' a (suc b), mul-le-mul_left (a / suc b) h)
half (negsuc a) (pos b) h = omega (arith, ints, div-add-mod' (suc a) b, mul-le-mul_left (suc a / b) h)
half (negsuc a) (negsuc b) h = omega (arith, div-add-mod' (suc a) (suc b), mul-le-mul_left (suc a / suc b) h)

-- the two signs differ
abbrev pub apart : ℤ → ℤ → Bool
apart r b = not (beq (lt_z r (pos 0)) (lt_z b (pos 0)))

-- the rest and the quotient that round towards 0 fit 64 bits
pub rest_fits : (a b : ℤ) → FitsSigned w64 b → b ≢ pos 0 → FitsSigned w64 (int_rem a b)
rest_fits a b f h = let below = rem_below a b (some b h) in omega (arith, ints)

pub quotient_fits : (a b : ℤ) → FitsSigned w64 a → b ≢ pos 0 → b ≢ negsuc 0 → FitsSigned w64 (int_div a b)
quotient_fits a (pos zero) f h k = absurd (h refl)
quotient_fits a (pos (suc zero)) f h k = omega (arith, ints)
quotient_fits a (pos (suc (suc n))) f h k = let less = half a (pos (suc (suc n))) (omega arith) in fits_signed_from_abs w64 _ (omega (arith, ints))
quotient_fits a (negsuc zero) f h k = absurd (k refl)
quotient_fits a (negsuc (suc n)) f h k = let less = half a (negsuc (suc n)) (omega arith) in fits_signed_from_abs w64 _ (omega (arith, ints))

-- where the signs differ, the quotient that rounds towards 0 is one too high
pub record Lowered (a b : ℤ) : Type 0 where
  pub quotient_fits : FitsSigned w64 (int_div a b -ℤ pos 1)
  pub rest_fits : FitsSigned w64 (int_rem a b +ℤ b)
  pub divides : IsFloorDivision a b (int_div a b -ℤ pos 1) (int_rem a b +ℤ b)

lowered_rest : (r b : ℤ) → r ≢ pos 0 → unsigned_abs r < unsigned_abs b → (s t : Bool) → lt_z r (pos 0) ≡ s → lt_z b (pos 0) ≡ t → not (beq s t) ≡ true
    → IsRest b (r +ℤ b)
lowered_rest r b h below true true p q e = absurd (true≢false (sym e))
lowered_rest r b h below true false p q e = inl (omega (arith, ints), omega (arith, ints))
lowered_rest r b h below false true p q e = inr (omega (arith, ints), omega (arith, ints))
lowered_rest r b h below false false p q e = absurd (true≢false (sym e))

lowered_whole : (a b q r : ℤ) → q *ℤ b +ℤ r ≡ a → a ≡ (q -ℤ pos 1) *ℤ b +ℤ (r +ℤ b)
lowered_whole a b q r e =
    let split = sum_of_products (q -ℤ pos 1) (pos 1) q b (omega (arith, ints)) in
    omega (arith, ints, split, e)

pub lowered : (a b : ℤ) → FitsSigned w64 a → FitsSigned w64 b → b ≢ pos 0 → int_rem a b ≢ pos 0 → apart (int_rem a b) b ≡ true → Lowered a b
lowered a b f g h k e =
    let below = rem_below a b (some b h) in
    let rest = lowered_rest (int_rem a b) b k below (lt_z (int_rem a b) (pos 0)) (lt_z b (pos 0)) refl refl e in
    let less = half a b (omega (arith, ints)) in
    record {
      quotient_fits = omega (arith, ints);
      rest_fits = between (int_rem a b +ℤ b) b g rest;
      divides = record { whole = lowered_whole a b (int_div a b) (int_rem a b) (quot-rem a b); rest = rest };
    }

-- where the signs agree, or nothing is left, the two roundings agree
kept_rest : (r b : ℤ) → b ≢ pos 0 → unsigned_abs r < unsigned_abs b → (s t : Bool) → lt_z r (pos 0) ≡ s → lt_z b (pos 0) ≡ t → not (beq s t) ≡ false
    → IsRest b r
kept_rest r b h below true true p q e = inr (omega (arith, ints), omega (arith, ints))
kept_rest r b h below true false p q e = absurd (true≢false e)
kept_rest r b h below false true p q e = absurd (true≢false e)
kept_rest r b h below false false p q e = inl (omega (arith, ints), omega (arith, ints))

pub kept_apart : (a b : ℤ) → b ≢ pos 0 → apart (int_rem a b) b ≡ false → IsFloorDivision a b (int_div a b) (int_rem a b)
kept_apart a b h e = record {
  whole = sym (quot-rem a b);
  rest = kept_rest (int_rem a b) b h (rem_below a b (some b h)) (lt_z (int_rem a b) (pos 0)) (lt_z b (pos 0)) refl refl e;
}

kept_zero : (b : ℤ) → b ≢ pos 0 → (r : ℤ) → r ≡ pos 0 → IsRest b r
kept_zero b h r e = by_lt_z (pos 0) b (λ l. inl (omega (arith, ints), omega (arith, ints))) (λ l. inr (omega (arith, ints), omega (arith, ints)))

pub kept_even : (a b : ℤ) → b ≢ pos 0 → int_rem a b ≡ pos 0 → IsFloorDivision a b (int_div a b) (int_rem a b)
kept_even a b h e = record { whole = sym (quot-rem a b); rest = kept_zero b h (int_rem a b) e }

-- a number is 0 where its bits are, and -1 where they are all set
pub from_bits : (r : ℤ) → FitsSigned w64 r → of_z w64 r ≡ 0 → r ≡ pos 0
from_bits r f e = sym (to_z-of_z w64 r f) ∙ ap (to_z w64) e

pub minus_one_from_bits : (b : ℤ) → FitsSigned w64 b → of_z w64 b ≡ 18446744073709551615 → b ≡ negsuc 0
minus_one_from_bits b f e = sym (to_z-of_z w64 b f) ∙ ap (to_z w64) e

-- of a division by -1 nothing is left
pub by_minus_one : (a : ℤ) → IsFloorDivision a (negsuc 0) (neg_ℤ a) (pos 0)
by_minus_one a = record { whole = omega (arith, ints); rest = inr (omega (arith, ints), omega (arith, ints)) }

pub quotient_by_minus_one : (a b : ℤ) → b ≡ negsuc 0 → IsFloorDivision a b (neg_ℤ a) (pos 0)
quotient_by_minus_one a b e = subst (λ (x : ℤ). IsFloorDivision a x (neg_ℤ a) (pos 0)) (sym e) (by_minus_one a)

-- the rest fits the width
pub fits_between : (w : TheWidth) (a b q r : ℤ) → Fits w b → IsFloorDivision a b q r → Fits w r
fits_between Small a b q r f d = between_small r b f d.rest
fits_between Big a b q r f d = between r b f d.rest

-- where the one quotient fits, none does not
pub quotient_that_fits : (w : TheWidth) (a b q r : ℤ) → IsFloorDivision a b q r → Fits w q → ((x : ℤ) × IsFloorQuotient a b x × (¬ Fits w x)) → ⊥
quotient_that_fits w a b q r d f (x, (s, e), misses) = misses (subst (λ (y : ℤ). Fits w y) (floor_division_once a b q r x s d e).0 f)

-- the answer at -1, where the quotient is the opposite number
pub opposite_ok : (w : TheWidth) (a b : ℤ) (o : Option ℤ) → b ≡ negsuc 0 → SomeIff o (Fits w (neg_ℤ a)) (neg_ℤ a)
    → IfOk (ok_or o Overflow) (λ q. IsFloorQuotient a b q × Fits w q)
opposite_ok w a b None e s = tt
opposite_ok w a b (Some x) e s =
    ((pos 0, subst (λ (q : ℤ). IsFloorDivision a b q (pos 0)) (sym s.1) (quotient_by_minus_one a b e)), subst (λ (q : ℤ). Fits w q) (sym s.1) s.0)

pub opposite_overflow : (w : TheWidth) (a b : ℤ) (o : Option ℤ) → b ≡ negsuc 0 → SomeIff o (Fits w (neg_ℤ a)) (neg_ℤ a)
    → IsErrOf (ok_or o Overflow) Overflow ↔ ((q : ℤ) × IsFloorQuotient a b q × (¬ Fits w q))
opposite_overflow w a b None e s = (λ _. (neg_ℤ a, (pos 0, quotient_by_minus_one a b e), s), λ _. refl)
opposite_overflow w a b (Some x) e s =
    (λ h. absurd (let none : ⊥ = cc in none), λ h. absurd (quotient_that_fits w a b (neg_ℤ a) (pos 0) (quotient_by_minus_one a b e) s.0 h))
