use Rattle.std.proofs.Common.{ℤ, rules, refl, sym, subst, w64, FitsSigned}
use Rattle.std.specs.Prelude.{IfOk, IsErrOf, ◌↔◌, Result}
use Rattle.std.proofs.lemmas.Int.{to_z-of_z}
use Rattle.cr_value.proofs.Dividing.{minus_one_from_bits, opposite_ok, opposite_overflow, quotient_that_fits}
use Rattle.cr_value.specs.Arithmetic.{Fits}
use Rattle.cr_value.specs.Division.{IsFloorDivision, IsFloorQuotient}
use Rattle.cr_value.specs.declared.division.Division.{Division}
use Rattle.cr_value.specs.declared.division.Division.TheVariants.{Overflow}
use Rattle.cr_value.proofs.division.floor_div.Goals as goal

pub returns-then-b-eqminus1-clause-ok : goal.returns-then-b-eqminus1-clause-ok
returns-then-b-eqminus1-clause-ok c =
    let a = c.ranges.a in
    let b = minus_one_from_bits c.args.b c.ranges.b c.if-b-eqminus1.true in
    let P : Result ℤ Division → Type 0 = λ r. IfOk r (λ q. IsFloorQuotient c.args.a c.args.b q × Fits c.args.w q) in
    subst P (sym c.ok_or.ensures.value) (opposite_ok c.args.w c.args.a c.args.b c.neg.result b (simp to_z-of_z at c.neg.ensures))

pub returns-then-b-eqminus1-clause-overflow : goal.returns-then-b-eqminus1-clause-overflow
returns-then-b-eqminus1-clause-overflow c =
    let a = c.ranges.a in
    let b = minus_one_from_bits c.args.b c.ranges.b c.if-b-eqminus1.true in
    let P : Result ℤ Division → Type 0 = λ r. IsErrOf r Overflow ↔ ((q : ℤ) × IsFloorQuotient c.args.a c.args.b q × (¬ Fits c.args.w q)) in
    subst P (sym c.ok_or.ensures.value) (opposite_overflow c.args.w c.args.a c.args.b c.neg.result b (simp to_z-of_z at c.neg.ensures))

pub returns-then-holds-clause-ok : goal.returns-then-holds-clause-ok
returns-then-holds-clause-ok c =
    let a = c.ranges.a in
    let b = c.ranges.b in
    let quotient : FitsSigned w64 c.floored-quotient.result.0 = search rules in
    simp to_z-of_z ((c.floored-quotient.result.1, simp to_z-of_z at c.floored-quotient.ensures), simp to_z-of_z at (c.holds.ensures.0 c.if-holds.true))

pub returns-then-holds-clause-overflow : goal.returns-then-holds-clause-overflow
returns-then-holds-clause-overflow c =
    let a = c.ranges.a in
    let b = c.ranges.b in
    let quotient : FitsSigned w64 c.floored-quotient.result.0 = search rules in
    let divides : IsFloorDivision c.args.a c.args.b c.floored-quotient.result.0 c.floored-quotient.result.1 = simp to_z-of_z at c.floored-quotient.ensures in
    let fits : Fits c.args.w c.floored-quotient.result.0 = simp to_z-of_z at (c.holds.ensures.0 c.if-holds.true) in
    (λ h. absurd (let none : ⊥ = cc in none), λ h. absurd (quotient_that_fits c.args.w c.args.a c.args.b _ _ divides fits h))

pub returns-else-holds-clause-overflow : goal.returns-else-holds-clause-overflow
returns-else-holds-clause-overflow c =
    let a = c.ranges.a in
    let b = c.ranges.b in
    let quotient : FitsSigned w64 c.floored-quotient.result.0 = search rules in
    let divides : IsFloorDivision c.args.a c.args.b c.floored-quotient.result.0 c.floored-quotient.result.1 = simp to_z-of_z at c.floored-quotient.ensures in
    let holds = simp to_z-of_z at c.holds.ensures.1 in
    let no : ¬ Fits c.args.w c.floored-quotient.result.0 = λ f. (let t = holds f in let none : ⊥ = cc in none) in
    (λ _. (c.floored-quotient.result.0, (c.floored-quotient.result.1, divides), no), λ _. refl)
