use Rattle.std.proofs.Common.{◌≡◌, ◌+◌, ◌/◌, length, ◌∙◌, append_assoc, arith, length-append}
use Rattle.std.specs.Fmt.{decimal}
use Rattle.std.proofs.lemmas.Fmt.{decimal_nonempty, decimal_digit, decimal_step}
use Rattle.cr_schedule.proofs.Pages.{length-decimal_step}
use Rattle.cr_schedule.proofs.page.Page.+push_digits.Goals as goal

pub push-requires : goal.push-requires
push-requires t c = omega (arith, decimal_nonempty c.args.number (omega arith))

pub returns-then-number-lt10 : goal.returns-then-number-lt10
returns-then-number-lt10 t c = rw (decimal_digit c.args.number c.if-number-lt10.true) c.push.ensures

pub push_digits-requires : goal.push_digits-requires
push_digits-requires t c =
    let one : length (decimal c.args.number) ≡ length (decimal (c.args.number / 10)) + 1 = length-decimal_step c.args.number c.if-number-lt10.false (omega arith) in
    (omega arith, omega arith)

pub push-requires-2 : goal.push-requires-2
push-requires-2 t c =
    let one : length (decimal c.args.number) ≡ length (decimal (c.args.number / 10)) + 1 = length-decimal_step c.args.number c.if-number-lt10.false (omega arith) in
    rw c.push_digits.ensures (omega (arith, length-append c.args.self.now (decimal (c.args.number / 10))))

pub returns : goal.returns
returns t c =
    let step = decimal_step c.args.number c.if-number-lt10.false (omega arith) in
    rw step (c.push-2.ensures ∙ rw c.push_digits.ensures (append_assoc c.args.self.now (decimal (c.args.number / 10)) _))
