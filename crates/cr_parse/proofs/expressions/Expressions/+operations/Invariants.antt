-- Each function calls those that stand below it, at its own level or at the next tighter one.
use Rattle.std.proofs.Common.{◌≡◌, ◌+◌, ◌*◌, ◌-◌}
use Rattle.cr_readers.specs.Cursor.{state_of}
use Rattle.cr_readers.specs.Descent.{read}
use Rattle.cr_readers.specs.Goes.{is_operator}
use Rattle.cr_readers.specs.Reader.{repeated}
use Rattle.cr_words.specs.Tables.{table}
use Rattle.cr_parse.specs.Levels as levels
use Rattle.cr_parse.specs.Levels.{rank}
use Rattle.cr_parse.proofs.expressions.Expressions.+operations.Given as goal

abbrev pub decreases-behind_tighter : goal.decreases-behind_tighter
decreases-behind_tighter g l = 6 * rank l.level

abbrev pub decreases-operand : goal.decreases-operand
decreases-operand g l = 6 * rank l.level + 1

abbrev pub decreases-operation : goal.decreases-operation
decreases-operation g l = 6 * rank l.level + 2

abbrev pub decreases-operations : goal.decreases-operations
decreases-operations g l = 6 * rank l.level + 3

abbrev pub decreases-at_level : goal.decreases-at_level
decreases-at_level g l = 6 * rank l.level + 4

abbrev pub decreases-behind : goal.decreases-behind
decreases-behind g l = 6 * rank l.level + 5

abbrev pub invariant-operations-loop-turn : goal.invariant-operations-loop-turn
invariant-operations-loop-turn g l =
    let turns = l.self.parser.turns in
    let rec = read turns l.self.parser.deep in
    levels.operations turns rec l.self.within l.free l.level l.fn.left (state_of l.fn.cursor)
    ≡ repeated (is_operator (table l.level)) (levels.operation turns rec l.self.within l.free l.level) (l._turn-end - l._turn) l.left (state_of l.cursor)
