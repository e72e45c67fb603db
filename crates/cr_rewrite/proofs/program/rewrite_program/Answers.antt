use Rattle.cr_rewrite.proofs.Whole.{rewriting_is}
use Rattle.cr_rewrite.proofs.program.rewrite_program.Goals as goal

pub returns : goal.returns
returns c = rewriting_is c.args.prelude.now c.args.tree.now c.in_ok-maker.maker c.whole.new.maker c.in_ok-rows.rows c.settle.new.scopes c.as_slice.result.now
    c.in_ok-maker.ensures.events c.in_ok-maker.ensures.state c.in_ok-whole.ensures c.as_slice.ensures.value c.in_ok-rows.ensures.rows c.settle.ensures
