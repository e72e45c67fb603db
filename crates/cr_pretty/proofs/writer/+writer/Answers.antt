use Rattle.std.proofs.Common.{◌≡◌, ◌<◌, ◌++◌, Bool, map, length, subst, arith}
use Rattle.cr_pieces.specs.Pieces.{text_of}
use Rattle.cr_pieces.specs.Writes.{Writes}
use Rattle.cr_pieces.proofs.Written.{then}
use Rattle.cr_pretty.specs.Layout.{laid, bare, enclosed, operand, items, lines, more_joined, more_parts}
use Rattle.cr_pretty.specs.Parts.{all_pieces, all_steps, between, placed}
use Rattle.cr_pretty.proofs.Written as w
use Rattle.cr_pretty.proofs.writer.+writer.Goals as goal

pub write_enclosed-returns : goal.write_enclosed-returns
write_enclosed-returns t c =
    then c.put_look-2.result c.put_look-2.ensures (λ v. w.enclosed_written c.args.enclosed (bare c.args.level (laid c.args.tree.now))
    c.args.out.now.items c.put_look.new.out.items c.write-2.new.out.items c.put_look-2.new.out.items c.if-not-enclosed.false c.in_ok-put_look.ensures c.in_ok-write.ensures v)

pub write_list-returns : goal.write_list-returns
write_list-returns t c =
    then c.write_more.result c.write_more.ensures (λ v. w.list_written c.args.list.now c.args.manner c.args.level c.first-item.result
    c.args.out.now.items c.write_placed.new.out.items c.write_more.new.out.items c.in-len1-up.len_at_least c.first-item.is c.in_ok-write_placed.ensures v)

pub write_lines-loop-tree-preserved : goal.write_lines-loop-tree-preserved
write_lines-loop-tree-preserved t c =
    w.lines_turn c.args.list.now c.args.level c.loop-tree.tree-index c.tree-item.result c.loop-tree.out.items c.put_line.new.out.items c.write.new.out.items
    (c.args.out.now.items ++ text_of (lines c.args.level (map laid c.args.list.now)))
    c.loop-tree-test.true c.tree-item.is c.in_ok-put_line.ensures c.in_ok-write.ensures c.loop-tree.invariant

pub write_program-loop-tree-preserved : goal.write_program-loop-tree-preserved
write_program-loop-tree-preserved t c =
    w.items_turn c.args.list.now c.loop-tree.tree-index c.tree-item.result c.loop-tree.out.items c.write.new.out.items c.put_look.new.out.items
    (c.args.out.now.items ++ text_of (items (map laid c.args.list.now)))
    c.loop-tree-test.true c.tree-item.is c.in_ok-write.ensures c.in_ok-put_look.ensures c.loop-tree.invariant

pub write_more-loop-tree-preserved : goal.write_more-loop-tree-preserved
write_more-loop-tree-preserved t c =
    w.more_turn c.args.list.now c.args.manner c.args.level c.loop-tree.tree-index c.tree-item.result c.loop-tree.out.items c.put_between.new.out.items c.write_placed.new.out.items
    (c.args.out.now.items ++ text_of (more_joined (between c.args.manner) (map (placed c.args.manner c.args.level) (map laid c.args.list.now))))
    c.loop-tree-test.true c.tree-item.is c.in_ok-put_between.ensures c.in_ok-write_placed.ensures c.loop-tree.invariant

pub write_negated-enclose_digit-requires : goal.write_negated-enclose_digit-requires
write_negated-enclose_digit-requires t c =
    w.room_written (enclosed c.is_enclosed_operand.result (bare c.args.level (laid c.args.tree.now))) c.len-first.result c.args.out.now.items c.write_enclosed.new.out.items (let e : c.len-first.result ≡ length c.args.out.now.items = omega (arith, c.args.out.now.ok) in e) c.in_ok-write_enclosed.ensures

pub write_negated-returns : goal.write_negated-returns
write_negated-returns t c =
    then c.enclose_digit.result c.enclose_digit.ensures (λ e. w.negated_written (operand c.args.level (laid c.args.tree.now)) c.len-first.result
    c.args.out.now.items c.write_enclosed.new.out.items c.enclose_digit.new.out.items (let e : c.len-first.result ≡ length c.args.out.now.items = omega (arith, c.args.out.now.ok) in e)
    (subst (λ (t : Bool). Writes (enclosed t (bare c.args.level (laid c.args.tree.now))) c.args.out.now.items c.write_enclosed.new.out.items) c.is_enclosed_operand.ensures c.in_ok-write_enclosed.ensures) e)

pub write_insertions-returns-then-is_empty : goal.write_insertions-returns-then-is_empty
write_insertions-returns-then-is_empty t c =
    then c.put_text_last.result c.put_text_last.ensures (λ v. w.part_last c.loop-tree.parts.now c.args.inserted.now c.args.level c.loop-tree.tree-index c.tree-item.result c.part-item.result c.is_enclosed_argument.result
    c.loop-tree.out.items c.write_enclosed.new.out.items c.put_text_last.new.out.items c.args.out.now.items (more_parts c.args.level c.args.parts.now (map laid c.args.inserted.now))
    c.in-len1-up.len_at_least c.part-item.is c.loop-tree-test.true c.tree-item.is c.is_enclosed_argument.ensures c.in_ok-write_enclosed.ensures c.if-is_empty.ensures v c.loop-tree.invariant)

pub write_insertions-loop-tree-preserved : goal.write_insertions-loop-tree-preserved
write_insertions-loop-tree-preserved t c =
    w.part_turn c.loop-tree.parts.now c.args.inserted.now c.args.level c.loop-tree.tree-index c.tree-item.result c.part-item.result c.is_enclosed_argument.result
    c.loop-tree.out.items c.write_enclosed.new.out.items c.put_text_middle.new.out.items (c.args.out.now.items ++ text_of (more_parts c.args.level c.args.parts.now (map laid c.args.inserted.now)))
    c.in-len1-up.len_at_least c.part-item.is c.loop-tree-test.true c.tree-item.is c.is_enclosed_argument.ensures c.in_ok-write_enclosed.ensures c.if-is_empty.ensures c.in_ok-put_text_middle.ensures c.loop-tree.invariant

pub write-loop-part-preserved : goal.write-loop-part-preserved
write-loop-part-preserved t c =
    w.parts_turn c.parts_of-parts.result c.args.level c.loop-part.part-index c.part-item.result c.loop-part.out.items c.write_part.new.out.items
    (c.args.out.now.items ++ text_of (all_pieces c.args.level c.parts_of-parts.result))
    (let e : c.loop-part.part-index < length c.parts_of-parts.result = omega (arith, c.loop-part-test.true) in e) c.in_ok-write_part.ensures c.loop-part.invariant

pub write_part-loop-step-preserved : goal.write_part-loop-step-preserved
write_part-loop-step-preserved t c =
    w.steps_turn c.steps_of-steps.result c.args.level c.loop-step.step-index c.step-item.result c.loop-step.out.items c.write_step.new.out.items
    (c.args.out.now.items ++ text_of (all_steps c.args.level c.steps_of-steps.result))
    (let e : c.loop-step.step-index < length c.steps_of-steps.result = omega (arith, c.loop-step-test.true) in e) c.in_ok-write_step.ensures c.loop-step.invariant
