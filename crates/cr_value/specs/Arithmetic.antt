-- The numbers of the language: the signed integers of 32 and of 64 bits.
use Rattle.std.specs.Prelude.{◌≡◌, ℕ, ◌^◌, ℤ, pos, ◌+ℤ◌, ◌*ℤ◌, FitsSigned}
use Rattle.std.specs.Int.{w32, w64}
use Rattle.cr_value.specs.declared.arithmetic.Width.{Width}
use Rattle.cr_value.specs.declared.arithmetic.Width.TheVariants.{Small, Big}

-- An integer of this width can be this number.
abbrev pub Fits : Width → ℤ → Type 0
Fits Small number = FitsSigned w32 number
Fits Big number = FitsSigned w64 number

-- How many numbers a width has.
abbrev pub modulus : Width → ℕ
modulus Small = 2 ^ 32
modulus Big = 2 ^ 64

-- The result is a number of this width, and equal to the exact one modulo the width.
pub record Wraps (w : Width) (exact result : ℤ) : Type 0 where
  pub fits : Fits w result
  pub modulo : (k : ℤ) × (result ≡ exact +ℤ k *ℤ pos (modulus w))
