use Rattle.std.proofs.Common.{◌≡◌, ◌∙◌, ap, sym, rules, w64, FitsSigned}
use Rattle.std.specs.Prelude.{◌+ℤ◌, ◌-ℤ◌, ◌*ℤ◌, ℤ}
use Rattle.std.proofs.lemmas.Int.{to_z-of_z}
use Rattle.cr_value.specs.declared.arithmetic.Width.{Width as TheWidth}
use Rattle.cr_builtins.specs.declared.outcome.Outcome.{Outcome}
use Rattle.cr_builtins.specs.declared.outcome.Outcome.TheVariants.{Gives}
use Rattle.cr_builtins.specs.declared.operation.Reckoning.{Reckoning}
use Rattle.cr_builtins.specs.declared.operation.Reckoning.TheVariants as r
use Rattle.cr_builtins.specs.Numbers.{reckon}
use Rattle.cr_builtins.proofs.Arithmetic.{checked_is, divided_is, left_is, wrapped_is}
use Rattle.cr_builtins.proofs.numbers.reckon.Goals as goal

-- an outcome of the one operation
at : (operation one : Reckoning) (w : TheWidth) (a b : ℤ) (given : Outcome) → operation ≡ one → given ≡ reckon one w a b → given ≡ reckon operation w a b
at operation one w a b given is e = e ∙ ap (λ (o : Reckoning). reckon o w a b) (sym is)

pub returns-in-Add : goal.returns-in-Add
unfolding reckon
returns-in-Add c =
    let a = c.ranges.a in
    let b = c.ranges.b in
    at _ r.Add c.args.w c.args.a c.args.b _ c.in-Add.is
    (c.told.ensures ∙ checked_is c.args.w (c.args.a +ℤ c.args.b) c.add.result (simp to_z-of_z at c.add.ensures))

pub returns-in-Subtract : goal.returns-in-Subtract
unfolding reckon
returns-in-Subtract c =
    let a = c.ranges.a in
    let b = c.ranges.b in
    at _ r.Subtract c.args.w c.args.a c.args.b _ c.in-Subtract.is
    (c.told-in-Subtract.ensures ∙ checked_is c.args.w (c.args.a -ℤ c.args.b) c.sub.result (simp to_z-of_z at c.sub.ensures))

pub returns-in-Multiply : goal.returns-in-Multiply
unfolding reckon
returns-in-Multiply c =
    let a = c.ranges.a in
    let b = c.ranges.b in
    at _ r.Multiply c.args.w c.args.a c.args.b _ c.in-Multiply.is
    (c.told-in-Multiply.ensures ∙ checked_is c.args.w (c.args.a *ℤ c.args.b) c.mul.result (simp to_z-of_z at c.mul.ensures))

pub returns-in-Divide : goal.returns-in-Divide
unfolding reckon
returns-in-Divide c =
    let a = c.ranges.a in
    let b = c.ranges.b in
    at _ r.Divide c.args.w c.args.a c.args.b _ c.in-Divide.is
    (c.divided.ensures
    ∙ divided_is c.args.w c.args.a c.args.b c.floor_div.result
    (simp to_z-of_z at c.floor_div.ensures.ok) (simp to_z-of_z at c.floor_div.ensures.zero_divisor) (simp to_z-of_z at c.floor_div.ensures.overflow))

pub returns-in-Remainder : goal.returns-in-Remainder
unfolding reckon
returns-in-Remainder c =
    let a = c.ranges.a in
    let b = c.ranges.b in
    at _ r.Remainder c.args.w c.args.a c.args.b _ c.in-Remainder.is
    (c.divided-in-Remainder.ensures
    ∙ left_is c.args.w c.args.a c.args.b c.floor_mod.result
    (simp to_z-of_z at c.floor_mod.ensures.ok) (simp to_z-of_z at c.floor_mod.ensures.zero_divisor) c.floor_mod.ensures.never_overflows)

pub returns-in-WrapAdd : goal.returns-in-WrapAdd
unfolding reckon
returns-in-WrapAdd c =
    let a = c.ranges.a in
    let b = c.ranges.b in
    let given : FitsSigned w64 c.wrap_add.result = search rules in
    at _ r.WrapAdd c.args.w c.args.a c.args.b _ c.in-WrapAdd.is
    (ap Gives ((simp to_z-of_z at c.integer.ensures) ∙ wrapped_is c.args.w (c.args.a +ℤ c.args.b) c.wrap_add.result (simp to_z-of_z at c.wrap_add.ensures)))

pub returns-in-WrapSubtract : goal.returns-in-WrapSubtract
unfolding reckon
returns-in-WrapSubtract c =
    let a = c.ranges.a in
    let b = c.ranges.b in
    let given : FitsSigned w64 c.wrap_sub.result = search rules in
    at _ r.WrapSubtract c.args.w c.args.a c.args.b _ c.in-WrapSubtract.is
    (ap Gives ((simp to_z-of_z at c.integer-in-WrapSubtract.ensures) ∙ wrapped_is c.args.w (c.args.a -ℤ c.args.b) c.wrap_sub.result (simp to_z-of_z at c.wrap_sub.ensures)))

pub returns-in-WrapMultiply : goal.returns-in-WrapMultiply
unfolding reckon
returns-in-WrapMultiply c =
    let a = c.ranges.a in
    let b = c.ranges.b in
    let given : FitsSigned w64 c.wrap_mul.result = search rules in
    at _ r.WrapMultiply c.args.w c.args.a c.args.b _ c.in-WrapMultiply.is
    (ap Gives ((simp to_z-of_z at c.integer-in-WrapMultiply.ensures) ∙ wrapped_is c.args.w (c.args.a *ℤ c.args.b) c.wrap_mul.result (simp to_z-of_z at c.wrap_mul.ensures)))
