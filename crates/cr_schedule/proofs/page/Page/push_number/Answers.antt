use Rattle.std.proofs.Common.{◌≤◌, length, arith, length-append}
use Rattle.std.specs.Fmt.{decimal}
use Rattle.std.proofs.lemmas.Fmt.{length-decimal-le}
use Rattle.cr_schedule.proofs.page.Page.push_number.Goals as goal

pub push_digits-requires : goal.push_digits-requires
push_digits-requires c =
    let short : length (decimal c.args.number) ≤ 8 = length-decimal-le 8 c.args.number (omega arith) (omega arith) (omega arith) in
    omega arith

pub push-requires : goal.push-requires
push-requires c =
    let short : length (decimal c.args.number) ≤ 8 = length-decimal-le 8 c.args.number (omega arith) (omega arith) (omega arith) in
    rw c.push_digits.ensures (omega (arith, length-append c.args.self.now (decimal c.args.number)))

pub returns-clause-short : goal.returns-clause-short
returns-clause-short c =
    let short : length (decimal c.args.number) ≤ 8 = length-decimal-le 8 c.args.number (omega arith) (omega arith) (omega arith) in
    rw (c.push.ensures, c.push_digits.ensures) (simp length-append (omega arith))
