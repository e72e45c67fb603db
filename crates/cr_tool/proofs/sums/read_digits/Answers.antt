use Rattle.std.proofs.Common.{◌≤◌, get_or, take, length, arith, length-take}
use Rattle.std.proofs.lemmas.Str.Parse.{digit_at, digits_value_short}
use Rattle.std.proofs.lemmas.Int.Digits.{digits_more, digits_value_more}
use Rattle.cr_tool.proofs.Literals.{digit_value-ascii, own}
use Rattle.cr_tool.proofs.sums.read_digits.Goals as goal

pub returns-in_default : goal.returns-in_default
returns-in_default c = λ digits. omega (arith, (digit_at c.args.text.now c.loop-byte.byte-index digits (omega arith)).0, (digit_at c.args.text.now c.loop-byte.byte-index digits (omega arith)).1)

pub returns-in_default-2 : goal.returns-in_default-2
returns-in_default-2 c = λ digits. omega (arith, (digit_at c.args.text.now c.loop-byte.byte-index digits (omega arith)).0, (digit_at c.args.text.now c.loop-byte.byte-index digits (omega arith)).1)

pub overflow_mul-value : goal.overflow_mul-value
overflow_mul-value c =
    let short : length (take c.loop-byte.byte-index c.args.text.now) ≤ 8 = omega (arith, length-take c.loop-byte.byte-index c.args.text.now) in
    omega (arith, digits_value_short own (take c.loop-byte.byte-index c.args.text.now) 8 c.loop-byte.invariant.digits short)

pub overflow_add-value : goal.overflow_add-value
overflow_add-value c =
    let short : length (take c.loop-byte.byte-index c.args.text.now) ≤ 8 = omega (arith, length-take c.loop-byte.byte-index c.args.text.now) in
    omega (arith, digits_value_short own (take c.loop-byte.byte-index c.args.text.now) 8 c.loop-byte.invariant.digits short)

pub loop-byte-preserved : goal.loop-byte-preserved
loop-byte-preserved c =
    let i = c.loop-byte.byte-index in
    let is = digit_value-ascii (get_or c.args.text.now i 0) (omega arith) (omega arith) in
    record {
      digits = digits_more 10 c.args.text.now i (omega arith) c.loop-byte.invariant.digits (omega (arith, is));
      sum = omega (arith, digits_value_more 10 c.args.text.now i (omega arith), is);
    }
