use Rattle.cr_declarations.proofs.Marked.{says}
use Rattle.cr_declarations.proofs.blocks.scopes_with_yield.Goals as goal

pub returns : goal.returns
returns c =
    says c.args.core.now c.in_ok-outermost.outermost.items c.loop-row.flags.items c.in_ok-flags.flags.items c.rows-rows.result.now c.loop-row.row-index c.scope_count.result
    c.rows-rows.ensures.core c.rows-rows.ensures.rows c.in_ok-outermost.ensures.many c.in_ok-outermost.ensures.each c.scope_count.ensures
    (c.in_ok-flags.ensures.items_if_clones_equal (λ y e. e)) c.loop-row-test.false c.loop-row.invariant
