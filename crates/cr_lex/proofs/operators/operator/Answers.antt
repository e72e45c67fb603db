use Rattle.std.proofs.Common.{sym}
use Rattle.cr_lex.proofs.LongestOperator.{longest_three, longest_two, longest_one, no_three}
use Rattle.cr_lex.proofs.operators.operator.Goals as goal

pub returns-in-Some-three : goal.returns-in-Some-three
returns-in-Some-three c = longest_three c.args.a c.args.more.now c.in-Some-three.longer c.in-Some-three.ensures

pub returns-in-None : goal.returns-in-None
returns-in-None c = longest_two c.args.a c.args.more.now c.in-Some.look (sym c.in-None.ensures) c.in-Some.ensures

pub returns-in-Some-one : goal.returns-in-Some-one
returns-in-Some-one c = longest_one c.args.a c.args.more.now c.in-Some-one.look (no_three c.args.a c.args.more.now (sym c.in_default.ensures)) (sym c.in_default.ensures) c.in-Some-one.ensures
