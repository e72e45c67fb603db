use Rattle.std.proofs.Common.{◌≡◌, ℕ, ap}
use Rattle.std.specs.Prelude.{ℤ, pos, negsuc, unsigned_abs}
use Rattle.std.specs.Int.{FitsUnsignedBits}
use Rattle.std.proofs.lemmas.Int.{to_z-of_z}
use Rattle.cr_builtins.proofs.Lengths.{repeated_is}
use Rattle.cr_builtins.proofs.texts.repeated_times.Goals as goal

-- a number that has an unsigned one is that
its_number : (z : ℤ) (n : ℕ) → FitsUnsignedBits 32 z × (n ≡ unsigned_abs z) → pos n ≡ z
its_number (pos m) n h = ap pos h.1
its_number (negsuc m) n h = absurd h.0

pub returns-in-Ok : goal.returns-in-Ok
returns-in-Ok c =
    let fits = c.ranges.times in
    repeated_is c.args.text.now c.in-Ok.times c.args.times c.times.result c.limited.result
    (its_number c.args.times c.in-Ok.times (simp to_z-of_z at c.in-Ok.ensures))
    c.times.ensures.ok c.times.ensures.too_long c.limited.ensures
