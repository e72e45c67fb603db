use Rattle.std.proofs.Common.{◌<◌, length, arith, rules}
use Rattle.std.proofs.lemmas.Bool.Decides.{nat_tests}
use Rattle.cr_tool.proofs.Literals.{literal_not_empty, literal_not_long, literal_no_zero, literal_cases}
use Rattle.cr_tool.proofs.sums.read_literal.Goals as goal
use Rattle.cr_tool.proofs.sums.read_literal.Goals.{then-is_empty-via-then-is_empty, then-is_empty-via-else-is_empty+then-text-gt9}

pub returns-then-is_empty : goal.returns-then-is_empty
returns-then-is_empty c = elim c.then-is_empty.branch [
  | then-is_empty-via-then-is_empty w ↦ literal_not_empty c.args.text.now (search rules)
  | then-is_empty-via-else-is_empty+then-text-gt9 w ↦ literal_not_long c.args.text.now w.if-text-gt9.true
]

pub returns-then-text-gt1 : goal.returns-then-text-gt1
returns-then-text-gt1 c = literal_no_zero c.args.text.now c.if-text-gt1.true c.if-text-eq48.true

pub returns : goal.returns
returns c =
    let some : 0 < length c.args.text.now = grind (arith, nat_tests) in
    literal_cases c.read_digits.result c.args.text.now some (omega arith) (λ zero. omega arith) c.read_digits.ensures
