use Rattle.std.proofs.Common.{◌+◌, ◌-◌, ◌*◌, drop, get_or, sym, arith}
use Rattle.cr_schedule.proofs.Digits.{digit-least, value_after-least, value_of-past, value_after-drop}
use Rattle.cr_schedule.proofs.trace_line.value_of.Goals as goal

pub overflow_sub-digit : goal.overflow_sub-digit
overflow_sub-digit c = digit-least c.args.digits.now c.loop-digit.digit-index c.requires.digits c.loop-digit-test.true

pub returns-then-value-most : goal.returns-then-value-most
returns-then-value-most c =
    let more = value_after-drop c.loop-digit.value c.args.digits.now c.loop-digit.digit-index c.loop-digit-test.true in
    let least = value_after-least (c.loop-digit.value * 10 + (get_or c.args.digits.now c.loop-digit.digit-index 0 - 48)) (drop (c.loop-digit.digit-index + 1) c.args.digits.now) in
    sym (value_of-past c.args.most c.args.digits.now (omega (arith, more, least, c.loop-digit.invariant.1)))
