-- Numbers of one digit, written out.
use Rattle.std.proofs.Common.{◌≡◌, ◌∷◌, [], lit<}
use Rattle.std.specs.Fmt.{decimal}
use Rattle.std.proofs.lemmas.Fmt.{decimal_digit}

pub one_is : decimal 1 ≡ 49 ∷ []
one_is = decimal_digit 1 (lit< tt)

pub two_is : decimal 2 ≡ 50 ∷ []
two_is = decimal_digit 2 (lit< tt)
