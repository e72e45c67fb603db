use Rattle.std.proofs.Common.{ap, ◌∙◌}
use Rattle.std.specs.Str.{all_ascii_digits}
use Rattle.cr_schedule.proofs.Digits.{take-digits, drop-digits, all_digits-take_while}
use Rattle.cr_schedule.proofs.trace_line.split_digits.Goals as goal

pub returns-clause-digits : goal.returns-clause-digits
returns-clause-digits c = rw (c.split_at.ensures.front, c.count_digits.ensures) (take-digits c.args.bytes.now)

pub returns-clause-rest : goal.returns-clause-rest
returns-clause-rest c = rw (c.split_at.ensures.back, c.count_digits.ensures) (drop-digits c.args.bytes.now)

pub returns-clause-all : goal.returns-clause-all
returns-clause-all c = rw (c.split_at.ensures.front, c.count_digits.ensures) (ap all_ascii_digits (take-digits c.args.bytes.now) ∙ all_digits-take_while c.args.bytes.now)
