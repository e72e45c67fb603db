-- A printed number is a short text.
use Rattle.std.proofs.Common.{◌≡◌, ap, ℕ, ◌≤◌, List, length, arith, w64}
use Rattle.std.specs.Prelude.{ℤ, FitsSigned}
use Rattle.std.specs.Fmt.{signed_decimal}
use Rattle.std.proofs.lemmas.Fmt.{length_signed_le}

pub short_digits : (number : ℤ) (bytes : List ℕ) → FitsSigned w64 number → bytes ≡ signed_decimal number → length bytes ≤ 1048576
short_digits number bytes fits is =
    let few = length_signed_le 20 number (omega (arith, fits.sfits)) fits.sfits in omega (arith, few, ap length is)
