use Rattle.std.proofs.Common.{◌+◌, ap, length, refl, arith}
use Rattle.cr_stack.proofs.Resuming.{resume_step, resume_end}
use Rattle.cr_stack.proofs.going.resume.Goals as goal

pub returns-then-place-last_reduced : goal.returns-then-place-last_reduced
returns-then-place-last_reduced c =
    let s = c.skipped.ensures in
    let l = ap length c.as_slice.ensures in
    resume_step c.args.tree.now c.requires.core c.args.around.now.items c.push_within.new.items.items c.args.node c.row-row.result.now c.row-row.ensures
    c.args.values c.as_slice-parts.result.now (c.skipped.result + length c.as_slice.result.now) c.last_reduced.result c.requires.underway c.as_slice-parts.ensures (omega (arith, s, l)) c.last_reduced.ensures
    _ c.if-place-last_reduced.true c.push_within.ensures

pub returns : goal.returns
returns c =
    let s = c.skipped.ensures in
    let l = ap length c.as_slice.ensures in
    resume_end c.args.tree.now c.requires.core c.args.around.now.items c.args.around.now.items c.args.node c.row-row.result.now c.row-row.ensures
    c.args.values c.as_slice-parts.result.now (c.skipped.result + length c.as_slice.result.now) c.last_reduced.result c.requires.underway c.as_slice-parts.ensures (omega (arith, s, l)) c.last_reduced.ensures
    c.if-place-last_reduced.false refl
