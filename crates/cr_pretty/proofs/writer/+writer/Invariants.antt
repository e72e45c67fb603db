use Rattle.std.proofs.Common.{◌≡◌, ◌+◌, ◌*◌, ◌++◌, drop, map}
use Rattle.cr_pieces.specs.Pieces.{text_of}
use Rattle.cr_pretty.specs.Layout.{laid, items, lines, more_joined, more_parts}
use Rattle.cr_pretty.specs.Parts.{all_pieces, all_steps, between, placed}
use Rattle.cr_pretty.proofs.writer.+writer.Given as goal

-- what is left to put makes the whole

abbrev pub invariant-write-loop-part : goal.invariant-write-loop-part
invariant-write-loop-part l = l.out.items ++ text_of (all_pieces l.level (drop l.part-index l.part-items)) ≡ l.initial.out.items ++ text_of (all_pieces l.level l.part-items)

abbrev pub invariant-write_part-loop-step : goal.invariant-write_part-loop-step
invariant-write_part-loop-step l = l.out.items ++ text_of (all_steps l.level (drop l.step-index l.step-items)) ≡ l.initial.out.items ++ text_of (all_steps l.level l.step-items)

abbrev pub invariant-write_more-loop-tree : goal.invariant-write_more-loop-tree
invariant-write_more-loop-tree l = l.out.items ++ text_of (more_joined (between l.manner) (map (placed l.manner l.level) (map laid (drop l.tree-index l.list))))
    ≡ l.initial.out.items ++ text_of (more_joined (between l.manner) (map (placed l.manner l.level) (map laid l.list)))

abbrev pub invariant-write_lines-loop-tree : goal.invariant-write_lines-loop-tree
invariant-write_lines-loop-tree l = l.out.items ++ text_of (lines l.level (map laid (drop l.tree-index l.list))) ≡ l.initial.out.items ++ text_of (lines l.level (map laid l.list))

abbrev pub invariant-write_program-loop-tree : goal.invariant-write_program-loop-tree
invariant-write_program-loop-tree l = l.out.items ++ text_of (items (map laid (drop l.tree-index l.list))) ≡ l.initial.out.items ++ text_of (items (map laid l.list))

abbrev pub invariant-write_insertions-loop-tree : goal.invariant-write_insertions-loop-tree
invariant-write_insertions-loop-tree l = l.out.items ++ text_of (more_parts l.level l.parts (map laid (drop l.tree-index l.inserted))) ≡ l.initial.out.items ++ text_of (more_parts l.level l.initial.parts (map laid l.inserted))

-- each call inside a call goes down in depth, or in this order

abbrev pub decreases-write : goal.decreases-write
decreases-write l = 8 * l.depth

abbrev pub decreases-write_enclosed : goal.decreases-write_enclosed
decreases-write_enclosed l = 8 * l.depth + 1

abbrev pub decreases-write_lines : goal.decreases-write_lines
decreases-write_lines l = 8 * l.depth + 1

abbrev pub decreases-write_program : goal.decreases-write_program
decreases-write_program l = 8 * l.depth + 1

abbrev pub decreases-write_negated : goal.decreases-write_negated
decreases-write_negated l = 8 * l.depth + 2

abbrev pub decreases-write_body : goal.decreases-write_body
decreases-write_body l = 8 * l.depth + 2

abbrev pub decreases-write_placed : goal.decreases-write_placed
decreases-write_placed l = 8 * l.depth + 2

abbrev pub decreases-write_insertions : goal.decreases-write_insertions
decreases-write_insertions l = 8 * l.depth + 2

abbrev pub decreases-write_more : goal.decreases-write_more
decreases-write_more l = 8 * l.depth + 3

abbrev pub decreases-write_text : goal.decreases-write_text
decreases-write_text l = 8 * l.depth + 3

abbrev pub decreases-write_list : goal.decreases-write_list
decreases-write_list l = 8 * l.depth + 4

abbrev pub decreases-write_step : goal.decreases-write_step
decreases-write_step l = 8 * l.depth + 5

abbrev pub decreases-write_part : goal.decreases-write_part
decreases-write_part l = 8 * l.depth + 6
