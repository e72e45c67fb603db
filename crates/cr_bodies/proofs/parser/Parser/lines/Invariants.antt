use Rattle.std.proofs.Common.{◌≡◌, ◌-◌}
use Rattle.cr_readers.specs.Cursor.{state_of}
use Rattle.cr_readers.specs.Lists as lists
use Rattle.cr_readers.specs.Descent.{read}
use Rattle.cr_words.specs.Lists.{gather}
use Rattle.cr_bodies.specs.Items as items
use Rattle.cr_bodies.proofs.parser.Parser.lines.Given as goal

abbrev pub invariant-loop-turn : goal.invariant-loop-turn
invariant-loop-turn g l = gather l.fn.found (lists.lines l.self.turns (items.begins l.lines) (items.statement (read l.self.turns l.self.deep) l.lines) l.self.turns (state_of l.fn.cursor))
    ≡ gather l.found (lists.lines l.self.turns (items.begins l.lines) (items.statement (read l.self.turns l.self.deep) l.lines) (l._turn-end - l._turn) (state_of l.cursor))
