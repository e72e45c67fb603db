use Rattle.std.proofs.Common.{arith, ◌∙◌}
use Rattle.std.proofs.lemmas.Option.{slice_get_read}
use Rattle.cr_steps.proofs.Controlled.{nothing_there, nothing_left, opened_same}
use Rattle.cr_steps.proofs.Held.{set_neat}
use Rattle.cr_steps.proofs.Whole.{on_error, went_on, kept, can_is, barred, barred_left, left, done, done_same, WentOn}
use Rattle.cr_steps.proofs.control.step_control.Goals as goal

pub returns-then-at-len-clause-step : goal.returns-then-at-len-clause-step
returns-then-at-len-clause-step c =
    λ clear P s choice of fibers chooses. nothing_there P s c.args.fibers.now.items c.args.at choice fibers (omega (arith, c.len.ensures, c.if-at-len.true, c.args.fibers.now.ok.0))

pub returns-then-at-len-clause-other : goal.returns-then-at-len-clause-other
returns-then-at-len-clause-other c =
    λ P of. nothing_left P c.args.fibers.now.items c.args.at (omega (arith, c.len.ensures, c.if-at-len.true, c.args.fibers.now.ok.0))

pub returns-in_err-open-clause-err : goal.returns-in_err-open-clause-err
returns-in_err-open-clause-err c =
    on_error c.from_residual.result (λ P of. opened_same P c.args.fibers.now.items c.args.at c.index_mut.result.now c.open.new.self (slice_get_read c.args.fibers.now.items c.args.fibers.now.len c.args.at c.index_mut.result.now c.args.fibers.now.ok.0 (omega (arith, c.len.ensures, c.if-at-len.false)) c.index_mut.ensures.value) (c.open.ensures.same P of))

pub returns-in_err-step-clause-err : goal.returns-in_err-step-clause-err
returns-in_err-step-clause-err c =
    on_error c.from_residual-in_err-step.result (λ P of. opened_same P c.args.fibers.now.items c.args.at c.index_mut.result.now c.open.new.self (slice_get_read c.args.fibers.now.items c.args.fibers.now.len c.args.at c.index_mut.result.now c.args.fibers.now.ok.0 (omega (arith, c.len.ensures, c.if-at-len.false)) c.index_mut.ensures.value) (c.open.ensures.same P of))

pub returns-then-is_barred-clause-step : goal.returns-then-is_barred-clause-step
returns-then-is_barred-clause-step c =
    let w : WentOn c.args.tree.now c.args.fibers.now.items c.args.at c.index_mut.result.now c.open.new.self c.index.result.now c.in_ok-step.step = went_on c.args.tree.now c.args.fibers.now.items c.args.at c.index_mut.result.now c.open.new.self c.index.result.now c.in_ok-step.step c.args.fibers.now.len c.args.fibers.now.ok.0 (omega (arith, c.len.ensures, c.if-at-len.false)) c.index_mut.ensures.value c.in_ok-open.ensures.same c.index.ensures c.as_slice.result.now c.as_slice.ensures.value c.in_ok-step.ensures.step in
    λ clear. barred c.args.tree.now c.args.fibers.now.items c.args.at c.index_mut.result.now c.open.new.self c.index.result.now c.in_ok-step.step w c.args.chosen c.is_barred.result c.is_barred.ensures c.if-is_barred.true

pub returns-then-is_barred-clause-other : goal.returns-then-is_barred-clause-other
returns-then-is_barred-clause-other c =
    let w : WentOn c.args.tree.now c.args.fibers.now.items c.args.at c.index_mut.result.now c.open.new.self c.index.result.now c.in_ok-step.step = went_on c.args.tree.now c.args.fibers.now.items c.args.at c.index_mut.result.now c.open.new.self c.index.result.now c.in_ok-step.step c.args.fibers.now.len c.args.fibers.now.ok.0 (omega (arith, c.len.ensures, c.if-at-len.false)) c.index_mut.ensures.value c.in_ok-open.ensures.same c.index.ensures c.as_slice.result.now c.as_slice.ensures.value c.in_ok-step.ensures.step in
    barred_left c.args.tree.now c.args.fibers.now.items c.args.at c.index_mut.result.now c.open.new.self c.index.result.now c.in_ok-step.step w c.args.chosen c.is_barred.result c.is_barred.ensures c.if-is_barred.true

pub returns-then-is_barred-clause-same : goal.returns-then-is_barred-clause-same
returns-then-is_barred-clause-same c =
    let w : WentOn c.args.tree.now c.args.fibers.now.items c.args.at c.index_mut.result.now c.open.new.self c.index.result.now c.in_ok-step.step = went_on c.args.tree.now c.args.fibers.now.items c.args.at c.index_mut.result.now c.open.new.self c.index.result.now c.in_ok-step.step c.args.fibers.now.len c.args.fibers.now.ok.0 (omega (arith, c.len.ensures, c.if-at-len.false)) c.index_mut.ensures.value c.in_ok-open.ensures.same c.index.ensures c.as_slice.result.now c.as_slice.ensures.value c.in_ok-step.ensures.step in
    λ clear. kept c.args.tree.now c.args.fibers.now.items c.args.at c.index_mut.result.now c.open.new.self c.index.result.now c.in_ok-step.step w

pub returns-then-is_barred-clause-neat : goal.returns-then-is_barred-clause-neat
returns-then-is_barred-clause-neat c =
    set_neat c.args.tree.now.rows c.args.fibers.now.items c.args.at c.open.new.self c.open.ensures.neat c.requires

pub act-requires-clause-can : goal.act-requires-clause-can
act-requires-clause-can c =
    let w : WentOn c.args.tree.now c.args.fibers.now.items c.args.at c.index_mut.result.now c.open.new.self c.index.result.now c.in_ok-step.step = went_on c.args.tree.now c.args.fibers.now.items c.args.at c.index_mut.result.now c.open.new.self c.index.result.now c.in_ok-step.step c.args.fibers.now.len c.args.fibers.now.ok.0 (omega (arith, c.len.ensures, c.if-at-len.false)) c.index_mut.ensures.value c.in_ok-open.ensures.same c.index.ensures c.as_slice.result.now c.as_slice.ensures.value c.in_ok-step.ensures.step in
    can_is c.args.tree.now c.args.fibers.now.items c.args.at c.index_mut.result.now c.open.new.self c.index.result.now c.in_ok-step.step w c.rows.result.now c.rows.ensures.rows c.in_ok-open.ensures.ok c.in_ok-step.ensures.fits

pub returns-clause-step : goal.returns-clause-step
returns-clause-step c =
    let w : WentOn c.args.tree.now c.args.fibers.now.items c.args.at c.index_mut.result.now c.open.new.self c.index.result.now c.in_ok-step.step = went_on c.args.tree.now c.args.fibers.now.items c.args.at c.index_mut.result.now c.open.new.self c.index.result.now c.in_ok-step.step c.args.fibers.now.len c.args.fibers.now.ok.0 (omega (arith, c.len.ensures, c.if-at-len.false)) c.index_mut.ensures.value c.in_ok-open.ensures.same c.index.ensures c.as_slice.result.now c.as_slice.ensures.value c.in_ok-step.ensures.step in
    done c.args.tree.now c.args.fibers.now.items c.args.at c.index_mut.result.now c.open.new.self c.index.result.now c.in_ok-step.step w c.rows.result.now c.rows.ensures.rows c.act.new.fibers.items c.act.result c.args.chosen c.is_barred.result c.is_barred.ensures c.if-is_barred.false c.act.ensures.other c.act.ensures.step

pub returns-clause-other : goal.returns-clause-other
returns-clause-other c =
    let w : WentOn c.args.tree.now c.args.fibers.now.items c.args.at c.index_mut.result.now c.open.new.self c.index.result.now c.in_ok-step.step = went_on c.args.tree.now c.args.fibers.now.items c.args.at c.index_mut.result.now c.open.new.self c.index.result.now c.in_ok-step.step c.args.fibers.now.len c.args.fibers.now.ok.0 (omega (arith, c.len.ensures, c.if-at-len.false)) c.index_mut.ensures.value c.in_ok-open.ensures.same c.index.ensures c.as_slice.result.now c.as_slice.ensures.value c.in_ok-step.ensures.step in
    λ P of. c.act.ensures.other ∙ left c.args.tree.now c.args.fibers.now.items c.args.at c.index_mut.result.now c.open.new.self c.index.result.now c.in_ok-step.step w P of

pub returns-clause-same : goal.returns-clause-same
returns-clause-same c =
    let w : WentOn c.args.tree.now c.args.fibers.now.items c.args.at c.index_mut.result.now c.open.new.self c.index.result.now c.in_ok-step.step = went_on c.args.tree.now c.args.fibers.now.items c.args.at c.index_mut.result.now c.open.new.self c.index.result.now c.in_ok-step.step c.args.fibers.now.len c.args.fibers.now.ok.0 (omega (arith, c.len.ensures, c.if-at-len.false)) c.index_mut.ensures.value c.in_ok-open.ensures.same c.index.ensures c.as_slice.result.now c.as_slice.ensures.value c.in_ok-step.ensures.step in
    done_same c.args.tree.now c.args.fibers.now.items c.args.at c.index_mut.result.now c.open.new.self c.index.result.now c.in_ok-step.step w c.rows.result.now c.rows.ensures.rows c.act.new.fibers.items c.act.result c.act.ensures.same
