use Rattle.std.proofs.Common.{sym, subst}
use Rattle.cr_core.specs.Tree.{Contents, IsCore}
use Rattle.cr_lowering.specs.Lowering.{IsLowering}
use Rattle.cr_lowering.proofs.Lowered.{opened_once, lowering_is, core_is}
use Rattle.cr_lowering.proofs.lower.core_of.Goals as goal

pub scopes_of-requires-clause-once : goal.scopes_of-requires-clause-once
scopes_of-requires-clause-once c = opened_once c.args.prelude.now c.args.tree.now c.in_ok-rewritten.rewritten c.in_ok-rewritten.ensures

pub whole-requires : goal.whole-requires
whole-requires c = core_is c.args.prelude.now c.args.tree.now c.in_ok-rewritten.rewritten c.in_ok-scopes.scopes.items c.in_ok-rewritten.ensures c.in_ok-scopes.ensures c.in_ok-limit.ensures.rows c.in_ok-limit.ensures.scopes

pub returns-clause-form : goal.returns-clause-form
returns-clause-form c = subst (λ (t : Contents). IsLowering c.args.prelude.now c.args.tree.now t) (sym c.whole.ensures) (lowering_is c.args.prelude.now c.args.tree.now c.in_ok-rewritten.rewritten c.in_ok-scopes.scopes.items c.in_ok-rewritten.ensures c.in_ok-scopes.ensures)

pub returns-clause-core : goal.returns-clause-core
returns-clause-core c = subst (λ (t : Contents). IsCore t) (sym c.whole.ensures) (core_is c.args.prelude.now c.args.tree.now c.in_ok-rewritten.rewritten c.in_ok-scopes.scopes.items c.in_ok-rewritten.ensures c.in_ok-scopes.ensures c.in_ok-limit.ensures.rows c.in_ok-limit.ensures.scopes)
