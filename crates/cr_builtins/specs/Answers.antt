-- What the arithmetic of values answers, as outcomes. It only carries proofs.
use Rattle.std.specs.Prelude.{◌≡◌, ℕ, ℤ, List, Option, Some, None, Result, Ok, Err}
use Rattle.cr_value.specs.declared.arithmetic.Width.{Width}
use Rattle.cr_value.specs.declared.text.TextFault.{TextFault}
use Rattle.cr_value.specs.declared.text.TextFault.TheVariants as fault
use Rattle.cr_value.specs.declared.value.Value.TheVariants as value
use Rattle.cr_value.specs.declared.division.Division.{Division}
use Rattle.cr_value.specs.declared.division.Division.TheVariants as division
use Rattle.cr_builtins.specs.declared.raise.Raise.TheVariants as raise
use Rattle.cr_builtins.specs.declared.outcome.Outcome.{Outcome}
use Rattle.cr_builtins.specs.declared.outcome.Outcome.TheVariants.{Gives, Raises}
use Rattle.cr_builtins.specs.Numbers.{integer}

abbrev pub told : Width → Option ℤ → Outcome
told w (Some n) = Gives (integer w n)
told w None = Raises raise.Overflow

abbrev pub divided : Width → Result ℤ Division → Outcome
divided w (Ok n) = Gives (integer w n)
divided w (Err division.ZeroDivisor) = Raises raise.Division
divided w (Err division.Overflow) = Raises raise.Overflow

-- the outcome of a text that was made, if it is not too long; of want of memory there is none
abbrev pub IsLimited : Result (List ℕ) TextFault → Outcome → Type 0
IsLimited (Ok text) given = given ≡ Gives (value.Word text)
IsLimited (Err fault.TooLong) given = given ≡ Raises raise.Limit
IsLimited (Err fault.NoMemory) given = ⊥
