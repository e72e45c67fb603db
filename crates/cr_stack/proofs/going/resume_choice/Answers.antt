use Rattle.std.proofs.Common.{ap, length, refl, arith}
use Rattle.std.proofs.lemmas.Option.{slice_get_within}
use Rattle.cr_stack.proofs.Resuming.{read_there}
use Rattle.cr_stack.proofs.Choosing.{clause_at, clause_there, is_more, is_end, first_within, choice_part, choice_all}
use Rattle.cr_stack.proofs.going.resume_choice.Goals as goal

pub row-clause-requires : goal.row-clause-requires
row-clause-requires c =
    let t = c.args.tree.now in
    let ks = c.args.around.now.items in
    let more = is_more t c.requires.core ks ks c.args.node c.row-row.result.now c.row-row.ensures c.args.clauses c.as_slice-parts.result.now (length c.as_slice-place.result.now) (record { 0 = 0 }) c.as_slice-parts.ensures (ap length c.as_slice-place.ensures) c.last_reduced.result c.last_reduced.ensures c.if-place-last_reduced.true in
    let next = clause_there t c.requires.core ks ks c.args.node c.row-row.result.now c.row-row.ensures c.args.clauses c.as_slice-parts.result.now (length c.as_slice-place.result.now) (record { 0 = 0 }) c.as_slice-parts.ensures (ap length c.as_slice-place.ensures) more in
    let at = clause_at t c.requires.core ks ks c.args.node c.row-row.result.now c.row-row.ensures c.args.clauses _ c.requires.chooses more next in
    slice_get_within t.rows _ at.row at.stands

pub bounds-as_slice-skipped : goal.bounds-as_slice-skipped
bounds-as_slice-skipped c =
    let t = c.args.tree.now in
    let ks = c.args.around.now.items in
    let more = is_more t c.requires.core ks ks c.args.node c.row-row.result.now c.row-row.ensures c.args.clauses c.as_slice-parts.result.now (length c.as_slice-place.result.now) (record { 0 = 0 }) c.as_slice-parts.ensures (ap length c.as_slice-place.ensures) c.last_reduced.result c.last_reduced.ensures c.if-place-last_reduced.true in
    let next = clause_there t c.requires.core ks ks c.args.node c.row-row.result.now c.row-row.ensures c.args.clauses c.as_slice-parts.result.now (length c.as_slice-place.result.now) (record { 0 = 0 }) c.as_slice-parts.ensures (ap length c.as_slice-place.ensures) more in
    let at = clause_at t c.requires.core ks ks c.args.node c.row-row.result.now c.row-row.ensures c.args.clauses _ c.requires.chooses more next in
    let w = first_within t c.requires.core ks ks c.args.node c.row-row.result.now c.row-row.ensures _ c.row-clause.result.now c.row-clause.ensures at in
    let s = c.skipped.ensures in
    let l = ap length c.as_slice.ensures in
    omega (arith, w, s, l)

pub returns-then-place-last_reduced : goal.returns-then-place-last_reduced
returns-then-place-last_reduced c =
    let t = c.args.tree.now in
    let ks = c.args.around.now.items in
    let more = is_more t c.requires.core ks ks c.args.node c.row-row.result.now c.row-row.ensures c.args.clauses c.as_slice-parts.result.now (length c.as_slice-place.result.now) (record { 0 = 0 }) c.as_slice-parts.ensures (ap length c.as_slice-place.ensures) c.last_reduced.result c.last_reduced.ensures c.if-place-last_reduced.true in
    let next = clause_there t c.requires.core ks ks c.args.node c.row-row.result.now c.row-row.ensures c.args.clauses c.as_slice-parts.result.now (length c.as_slice-place.result.now) (record { 0 = 0 }) c.as_slice-parts.ensures (ap length c.as_slice-place.ensures) more in
    let at = clause_at t c.requires.core ks ks c.args.node c.row-row.result.now c.row-row.ensures c.args.clauses _ c.requires.chooses more next in
    let w = first_within t c.requires.core ks ks c.args.node c.row-row.result.now c.row-row.ensures _ c.row-clause.result.now c.row-clause.ensures at in
    choice_part t c.requires.core ks c.push_within.new.items.items c.args.node c.row-row.result.now c.row-row.ensures _ c.row-clause.result.now c.row-clause.ensures _ c.args.clauses c.new.result c.new.ensures c.requires.chooses more next
    (read_there c.row-clause.result.now.parts c.as_slice.result.now _ c.skipped.result (record { 0 = 0 }) c.as_slice.ensures c.skipped.ensures w)
    c.push_within.ensures

pub returns : goal.returns
returns c =
    let t = c.args.tree.now in
    let ks = c.args.around.now.items in
    let ends = is_end t c.requires.core ks ks c.args.node c.row-row.result.now c.row-row.ensures c.args.clauses c.as_slice-parts.result.now (length c.as_slice-place.result.now) (record { 0 = 0 }) c.as_slice-parts.ensures (ap length c.as_slice-place.ensures) c.last_reduced.result c.last_reduced.ensures c.if-place-last_reduced.false in
    choice_all t c.requires.core ks ks c.args.node c.row-row.result.now c.row-row.ensures c.args.clauses c.requires.chooses ends refl
