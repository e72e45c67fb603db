use Rattle.std.proofs.Common.{◌≡◌, ◌-◌}
use Rattle.cr_readers.specs.Cursor.{state_of}
use Rattle.cr_readers.specs.Lists.{separators}
use Rattle.cr_words.specs.Lists.{skip}
use Rattle.cr_words.proofs.between.separators.Given as goal

abbrev pub invariant-loop-turn : goal.invariant-loop-turn
invariant-loop-turn l = separators l.turns (state_of l.fn.cursor) ≡ skip (l.turns - l._turn) (state_of l.cursor)
