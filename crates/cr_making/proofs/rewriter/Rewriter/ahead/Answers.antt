use Rattle.std.proofs.Common.{sym, ◌∙◌}
use Rattle.cr_making.proofs.Loops.{one_ahead, none_ahead}
use Rattle.cr_making.proofs.rewriter.Rewriter.ahead.Goals as goal

pub returns-clause-made : goal.returns-clause-made
returns-clause-made g c = one_ahead c.args.view c.args.at c.args.tree.now (sym c.said.ensures ∙ c.if-not-said.false) c.in_ok-open.ensures c.in_ok-one.ensures

pub returns-then-not-said-clause-made : goal.returns-then-not-said-clause-made
returns-then-not-said-clause-made g c = none_ahead c.args.view c.args.at c.args.tree.now _ (sym c.said.ensures ∙ c.if-not-said.true)
