-- The arithmetic of values, by its own contracts, gives what the definitions compute.
use Rattle.std.proofs.Common.{◌≡◌, ◌≢◌, ◌∙◌, sym, ap, subst, ℕ, zero, suc, ◌+◌, ◌-◌, ◌*◌, ◌/◌, ◌%◌, ◌<◌, ◌^◌, Bool, true, false, refl, arith}
use Rattle.std.specs.Prelude.{ℤ, pos, negsuc, neg_ℤ, ◌+ℤ◌, ◌-ℤ◌, ◌*ℤ◌, ◌<ℤ◌, ◌≤ℤ◌, Option, Some, None, SomeIff, Result, Ok, Err, IfOk, IsErrOf, ◌↔◌, if◌then◌else◌}
use Rattle.std.proofs.lemmas.Int.{ints}
use Rattle.std.proofs.lemmas.Bool.Decides.{nat_tests}
use native.Mathlib.Nat.{div-add-mod', mod-lt}
use mathlib.Core.Logic.{inl, inr}
use Rattle.cr_value.specs.Arithmetic.{Fits, Wraps}
use Rattle.cr_value.specs.Division.{IsFloorDivision, IsFloorQuotient, IsFloorRemainder}
use Rattle.cr_value.specs.declared.arithmetic.Width.{Width as TheWidth}
use Rattle.cr_value.specs.declared.arithmetic.Width.TheVariants.{Small, Big}
use Rattle.cr_value.specs.declared.division.Division.{Division}
use Rattle.cr_value.specs.declared.division.Division.TheVariants as division
use Rattle.cr_value.proofs.Dividing.{floor_division_once}
use Rattle.cr_value.proofs.Wrapping.{wraps_small, wraps_big, wrapped_once}
use Rattle.cr_builtins.specs.declared.outcome.Outcome.{Outcome}
use Rattle.cr_builtins.specs.declared.outcome.Outcome.TheVariants.{Gives, Raises}
use Rattle.cr_builtins.specs.declared.raise.Raise.TheVariants as raise
use Rattle.cr_builtins.specs.Answers.{told, divided}
use Rattle.cr_builtins.specs.Numbers.{fits, checked, integer, wrapped, floor_by, floor_quotient, floor_remainder, unless_zero}

-- ---- what fits

pub fits_true : (w : TheWidth) (n : ℤ) → Fits w n → fits w n ≡ true
fits_true Small (pos n) h = let below : n < 2 ^ 31 = h.sfits in grind (arith, nat_tests)
fits_true Small (negsuc n) h = let below : n < 2 ^ 31 = h.sfits in grind (arith, nat_tests)
fits_true Big (pos n) h = let below : n < 2 ^ 63 = h.sfits in grind (arith, nat_tests)
fits_true Big (negsuc n) h = let below : n < 2 ^ 63 = h.sfits in grind (arith, nat_tests)

fits_back : (w : TheWidth) (n : ℤ) → fits w n ≡ true → Fits w n
fits_back Small (pos n) h = record { sfits = grind (arith, nat_tests) }
fits_back Small (negsuc n) h = record { sfits = grind (arith, nat_tests) }
fits_back Big (pos n) h = record { sfits = grind (arith, nat_tests) }
fits_back Big (negsuc n) h = record { sfits = grind (arith, nat_tests) }

never : (b : Bool) → (b ≡ true → ⊥) → b ≡ false
never true h = absurd (h refl)
never false h = refl

pub fits_false : (w : TheWidth) (n : ℤ) → (¬ Fits w n) → fits w n ≡ false
fits_false w n h = never (fits w n) (λ e. h (fits_back w n e))

-- the outcome of a number that fits, and of one that does not
pub checked_fits : (w : TheWidth) (n : ℤ) → Fits w n → checked w n ≡ Gives (integer w n)
checked_fits w n h = ap (λ (b : Bool). if b then Gives (integer w n) else Raises raise.Overflow) (fits_true w n h)

pub checked_misses : (w : TheWidth) (n : ℤ) → (¬ Fits w n) → checked w n ≡ Raises raise.Overflow
checked_misses w n h = ap (λ (b : Bool). if b then Gives (integer w n) else Raises raise.Overflow) (fits_false w n h)

pub checked_is : (w : TheWidth) (n : ℤ) (o : Option ℤ) → SomeIff o (Fits w n) n → told w o ≡ checked w n
checked_is w n None h = sym (checked_misses w n h)
checked_is w n (Some x) h = ap (λ (y : ℤ). Gives (integer w y)) h.1 ∙ sym (checked_fits w n h.0)

-- ---- wrapping

pub wrapped_is : (w : TheWidth) (exact r : ℤ) → Wraps w exact r → integer w r ≡ wrapped w exact
wrapped_is Small exact r h = ap (integer Small) (wrapped_once Small exact r _ h (wraps_small exact))
wrapped_is Big exact r h = ap (integer Big) (wrapped_once Big exact r _ h (wraps_big exact))

-- ---- division

rest_natural : (q b r a : ℕ) → q * b + r ≡ a → pos a -ℤ pos q *ℤ pos b ≡ pos r
rest_natural q b r a e = omega (arith, ints)

rest_negative : (q b r a : ℕ) → q * b + r ≡ a → r < b → negsuc a -ℤ negsuc q *ℤ pos b ≡ pos (b - 1 - r)
rest_negative q b r a e below = omega (arith, ints)

-- what is left of a by a natural number lies from 0 to below it
left_by : (a : ℤ) (b : ℕ) → 0 < b → (pos 0 ≤ℤ (a -ℤ floor_by a b *ℤ pos b)) × ((a -ℤ floor_by a b *ℤ pos b) <ℤ pos b)
left_by (pos a) b some =
    let e = rest_natural (a / b) b (a % b) a (div-add-mod' a b) in
    let small = mod-lt a some in
    (omega (arith, ints, e), omega (arith, ints, e, small))
left_by (negsuc a) b some =
    let small = mod-lt a some in
    let e = rest_negative (a / b) b (a % b) a (div-add-mod' a b) small in
    (omega (arith, ints, e), omega (arith, ints, e, small))

whole : (a p : ℤ) → a ≡ p +ℤ (a -ℤ p)
whole a p = omega (arith, ints)

-- by a negative number is the opposite by the natural one
turned : (a q : ℤ) (n : ℕ) → a -ℤ q *ℤ negsuc n ≡ neg_ℤ (neg_ℤ a -ℤ q *ℤ pos (suc n))
turned a q n = omega (arith, ints)

pub floor_is : (a b : ℤ) → b ≢ pos 0 → IsFloorDivision a b (floor_quotient a b) (floor_remainder a b)
floor_is a (pos zero) h = absurd (h refl)
floor_is a (pos (suc n)) h = record {
  whole = whole a (floor_quotient a (pos (suc n)) *ℤ pos (suc n));
  rest = inl (left_by a (suc n) (omega arith));
}
floor_is a (negsuc n) h =
    let e = turned a (floor_by (neg_ℤ a) (suc n)) n in
    let left = left_by (neg_ℤ a) (suc n) (omega arith) in
    record {
      whole = whole a (floor_quotient a (negsuc n) *ℤ negsuc n);
      rest = inr (omega (arith, ints, e, left.1), omega (arith, ints, e, left.0));
    }

-- a divisor that is not 0 lets the outcome through
not_zero : (b : ℤ) (given : Outcome) → b ≢ pos 0 → unless_zero b given ≡ given
not_zero (pos zero) given h = absurd (h refl)
not_zero (pos (suc n)) given h = refl
not_zero (negsuc n) given h = refl

by_zero : (b : ℤ) (given : Outcome) → b ≡ pos 0 → unless_zero b given ≡ Raises raise.Division
by_zero b given e = ap (λ (x : ℤ). unless_zero x given) e

pub divided_is : (w : TheWidth) (a b : ℤ) (r : Result ℤ Division)
    → IfOk r (λ q. IsFloorQuotient a b q × Fits w q)
    → (IsErrOf r division.ZeroDivisor ↔ (b ≡ pos 0))
    → (IsErrOf r division.Overflow ↔ ((q : ℤ) × IsFloorQuotient a b q × (¬ Fits w q)))
    → divided w r ≡ unless_zero b (checked w (floor_quotient a b))
divided_is w a b (Ok q) ok zero_divisor overflow =
    let some : b ≢ pos 0 = λ e. (let no = zero_divisor.1 e in let none : ⊥ = cc in none) in
    let one : q ≡ floor_quotient a b = (floor_division_once a b q ok.0.0 _ _ ok.0.1 (floor_is a b some)).0 in
    ap (λ (x : ℤ). Gives (integer w x)) one
    ∙ sym (not_zero b (checked w (floor_quotient a b)) some
    ∙ checked_fits w (floor_quotient a b) (subst (λ (x : ℤ). Fits w x) one ok.1))
divided_is w a b (Err division.ZeroDivisor) ok zero_divisor overflow =
    sym (by_zero b (checked w (floor_quotient a b)) (zero_divisor.0 refl))
divided_is w a b (Err division.Overflow) ok zero_divisor overflow =
    let some : b ≢ pos 0 = λ e. (let no = zero_divisor.1 e in let none : ⊥ = cc in none) in
    let (q, quotient, misses) = overflow.0 refl in
    let one : q ≡ floor_quotient a b = (floor_division_once a b q quotient.0 _ _ quotient.1 (floor_is a b some)).0 in
    sym (not_zero b (checked w (floor_quotient a b)) some
    ∙ checked_misses w (floor_quotient a b) (subst (λ (x : ℤ). ¬ Fits w x) one misses))

pub left_is : (w : TheWidth) (a b : ℤ) (r : Result ℤ Division)
    → IfOk r (λ m. IsFloorRemainder a b m × Fits w m)
    → (IsErrOf r division.ZeroDivisor ↔ (b ≡ pos 0))
    → (¬ IsErrOf r division.Overflow)
    → divided w r ≡ unless_zero b (Gives (integer w (floor_remainder a b)))
left_is w a b (Ok m) ok zero_divisor overflow =
    let some : b ≢ pos 0 = λ e. (let no = zero_divisor.1 e in let none : ⊥ = cc in none) in
    let one : m ≡ floor_remainder a b = (floor_division_once a b ok.0.0 m _ _ ok.0.1 (floor_is a b some)).1 in
    ap (λ (x : ℤ). Gives (integer w x)) one ∙ sym (not_zero b _ some)
left_is w a b (Err division.ZeroDivisor) ok zero_divisor overflow = sym (by_zero b _ (zero_divisor.0 refl))
left_is w a b (Err division.Overflow) ok zero_divisor overflow = absurd (overflow refl)
