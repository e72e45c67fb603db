use Rattle.std.proofs.Common.{◌≡◌, ◌-◌}
use Rattle.cr_readers.specs.Cursor.{state_of}
use Rattle.cr_readers.specs.Declarations as declarations
use Rattle.cr_readers.specs.Lists as lists
use Rattle.cr_readers.specs.Reader.{beside}
use Rattle.cr_readers.specs.Descent.{read}
use Rattle.cr_words.specs.Lists.{gather}
use Rattle.cr_decl.proofs.declarations.Declarations.more_items.Given as goal

abbrev pub invariant-loop-turn : goal.invariant-loop-turn
invariant-loop-turn g v = gather v.fn.found (lists.lines v.self.parser.turns declarations.begins_item (beside (declarations.item v.self.parser.turns (read v.self.parser.turns v.self.parser.deep))) v.self.parser.turns (state_of v.fn.cursor))
    ≡ gather v.found (lists.lines v.self.parser.turns declarations.begins_item (beside (declarations.item v.self.parser.turns (read v.self.parser.turns v.self.parser.deep))) (v._turn-end - v._turn) (state_of v.cursor))
