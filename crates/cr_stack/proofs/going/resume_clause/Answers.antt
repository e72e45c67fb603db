use Rattle.std.proofs.Common.{◌∙◌, ◌+◌, ap, length, arith}
use Rattle.cr_stack.proofs.Choosing.{next_clause, clause_step, clause_end, clause_all, chooses_more}
use Rattle.cr_stack.proofs.going.resume_clause.Goals as goal

pub returns-then-reached-last_reduced : goal.returns-then-reached-last_reduced
returns-then-reached-last_reduced c =
    let t = c.args.tree.now in
    let ks = c.args.around.now.items in
    let s = c.skipped.ensures in
    let l = ap length c.as_slice-2.ensures in
    let next = next_clause t c.requires.core ks ks c.args.node c.row.result.now c.row.ensures c.args.done.items c.as_slice.result.now c.len.result (record { 0 = 0 }) c.as_slice.ensures (c.len.ensures ∙ c.args.done.ok.0) c.args.values c.requires.underway in
    clause_step t c.requires.core ks c.push_within.new.items.items c.args.node c.row.result.now c.row.ensures _ c.row-row.result.now c.row-row.ensures
    c.args.done.items c.args.values c.as_slice-parts.result.now (c.skipped.result + length c.as_slice-2.result.now) c.last_reduced.result c.requires.underway next c.as_slice-parts.ensures (omega (arith, s, l)) c.last_reduced.ensures
    _ c.of.result c.of.ensures c.if-reached-last_reduced.true c.push_within.ensures

pub resume_choice-requires-clause-chooses : goal.resume_choice-requires-clause-chooses
resume_choice-requires-clause-chooses c =
    let t = c.args.tree.now in
    let ks = c.args.around.now.items in
    let s = c.skipped.ensures in
    let l = ap length c.as_slice-2.ensures in
    let next = next_clause t c.requires.core ks ks c.args.node c.row.result.now c.row.ensures c.args.done.items c.as_slice.result.now c.len.result (record { 0 = 0 }) c.as_slice.ensures (c.len.ensures ∙ c.args.done.ok.0) c.args.values c.requires.underway in
    let ends =
    clause_end t c.requires.core ks ks c.args.node c.row.result.now c.row.ensures _ c.row-row.result.now c.row-row.ensures
    c.args.done.items c.args.values c.as_slice-parts.result.now (c.skipped.result + length c.as_slice-2.result.now) c.last_reduced.result c.requires.underway next c.as_slice-parts.ensures (omega (arith, s, l)) c.last_reduced.ensures
    c.if-reached-last_reduced.false in
    chooses_more t c.requires.core ks ks c.args.node c.row.result.now c.row.ensures _ c.row-row.result.now c.row-row.ensures
    c.args.done.items c.args.values c.of-2.result (c.of-2.ensures ∙ c.push_within-2.ensures) c.requires.underway next ends

pub returns : goal.returns
returns c =
    let t = c.args.tree.now in
    let ks = c.args.around.now.items in
    let next = next_clause t c.requires.core ks ks c.args.node c.row.result.now c.row.ensures c.args.done.items c.as_slice.result.now c.len.result (record { 0 = 0 }) c.as_slice.ensures (c.len.ensures ∙ c.args.done.ok.0) c.args.values c.requires.underway in
    clause_all t c.requires.core ks c.resume_choice.new.around.items c.args.node c.row.result.now c.row.ensures _ c.row-row.result.now c.row-row.ensures
    c.args.done.items c.args.values c.of-2.result c.resume_choice.result (c.of-2.ensures ∙ c.push_within-2.ensures) next c.resume_choice.ensures
