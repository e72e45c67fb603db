use Rattle.std.proofs.Common.{ℕ, take, subst, ◌∙◌, inr}
use Rattle.cr_syntax.specs.Faults.{FrontFails}
use Rattle.cr_lex.proofs.source.read.Goals as goal

pub returns-in-Err-clause-err : goal.returns-in-Err-clause-err
returns-in-Err-clause-err c = λ apart. inr (
  c.in-Err.ensures.cases.0,
  subst (λ (n : ℕ). FrontFails (take n c.args.bytes.now) c.front_fault.result) (c.valid_up_to.ensures ∙ c.in-Err.ensures.valid_len) (c.front_fault.ensures apart),
)
