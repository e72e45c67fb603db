use Rattle.std.proofs.Common.{sym, ◌∙◌}
use Rattle.cr_rewrite.proofs.Whole.{prelude_one, prelude_none}
use Rattle.cr_rewrite.proofs.program.prelude_statement.Goals as goal

pub returns-clause-made : goal.returns-clause-made
returns-clause-made c = prelude_one c.args.tree.now (sym c.said.ensures ∙ c.if-not-said.false) c.in_ok-open.ensures c.turn.ensures c.in_ok-rewrite.ensures c.turn-2.ensures

pub returns-then-not-said-clause-made : goal.returns-then-not-said-clause-made
returns-then-not-said-clause-made c = prelude_none c.args.tree.now _ (sym c.said.ensures ∙ c.if-not-said.true)
