-- Texts that were made are those of the definitions, and have no more characters than bytes.
use Rattle.std.proofs.Common.{◌≡◌, ◌∙◌, sym, ap, ℕ, zero, suc, ◌*◌, ◌<◌, ◌≤◌, Bool, true, false, refl, arith, List, length, nat_le, length-append}
use Rattle.std.specs.Prelude.{ℤ, pos, Result, Ok, Err, IfOk, IsErrOf, ◌↔◌, if◌then◌else◌}
use Rattle.cr_base.specs.declared.memory.NoMemory.{NoMemory}
use Rattle.std.specs.List.{repeat}
use Rattle.std.proofs.lemmas.Bool.Decides.{nat_tests}
use Rattle.cr_value.specs.declared.text.TheConstants.{TEXT_LIMIT}
use Rattle.cr_value.specs.declared.text.TextFault.{TextFault}
use Rattle.cr_value.specs.declared.text.TextFault.TheVariants as fault
use Rattle.cr_value.specs.declared.value.Value.TheVariants as value
use Rattle.cr_builtins.specs.declared.outcome.Outcome.{Outcome}
use Rattle.cr_builtins.specs.declared.outcome.Outcome.TheVariants.{Gives, Raises}
use Rattle.cr_builtins.specs.declared.raise.Raise.TheVariants.{Limit}
use Rattle.cr_builtins.specs.Answers.{IsLimited}
use Rattle.cr_builtins.specs.Texts.{limited, repeated}

pub length-repeat : (n : ℕ) (xs : List ℕ) → n * length xs ≡ length (repeat n xs)
length-repeat zero xs = omega arith
length-repeat (suc n) xs = let e = length-repeat n xs in let s = length-append xs (repeat n xs) in omega (arith, e, s)

always : (b : Bool) → (b ≡ false → ⊥) → b ≡ true
always true h = refl
always false h = absurd (h refl)

never : (b : Bool) → (b ≡ true → ⊥) → b ≡ false
never true h = absurd (h refl)
never false h = refl

above : (n m : ℕ) → nat_le n m ≡ false → m < n
above n m h = grind (arith, nat_tests)

within : (n m : ℕ) → nat_le n m ≡ true → n ≤ m
within n m h = grind (arith, nat_tests)

-- a text that was made of so many bytes, and is not too long
pub limited_is : (bytes : List ℕ) (n : ℕ) (made : Result (List ℕ) TextFault) (given : Outcome)
    → IfOk made (λ text. text ≡ bytes) → (IsErrOf made fault.TooLong ↔ (TEXT_LIMIT < n)) → n ≡ length bytes
    → IsLimited made given → given ≡ limited bytes
limited_is bytes n (Ok text) given ok long e h =
    let fits : nat_le (length bytes) TEXT_LIMIT ≡ true =
    always _ (λ f. (let no = long.1 (let m = above (length bytes) TEXT_LIMIT f in omega (arith, m, e)) in let none : ⊥ = cc in none)) in
    h ∙ ap (λ (t : List ℕ). Gives (value.Word t)) ok ∙ sym (ap (λ (b : Bool). if b then Gives (value.Word bytes) else Raises Limit) fits)
limited_is bytes n (Err fault.TooLong) given ok long e h =
    let misses : nat_le (length bytes) TEXT_LIMIT ≡ false =
    never _ (λ f. (let m = within (length bytes) TEXT_LIMIT f in let l = long.0 refl in absurd (omega (arith, m, l, e)))) in
    h ∙ sym (ap (λ (b : Bool). if b then Gives (value.Word bytes) else Raises Limit) misses)
limited_is bytes n (Err fault.NoMemory) given ok long e h = absurd h

-- the text as many times
pub repeated_is : (bytes : List ℕ) (n : ℕ) (times : ℤ) (made : Result (List ℕ) TextFault) (r : Result Outcome NoMemory)
    → pos n ≡ times
    → IfOk made (λ text. text ≡ repeat n bytes) → (IsErrOf made fault.TooLong ↔ (TEXT_LIMIT < n * length bytes))
    → IfOk r (λ given. IsLimited made given) → IfOk r (λ given. given ≡ repeated bytes times)
repeated_is bytes n times made (Ok given) is ok long h =
    limited_is (repeat n bytes) (n * length bytes) made given ok long (length-repeat n bytes) h ∙ ap (repeated bytes) is
repeated_is bytes n times made (Err e) is ok long h = tt
