use Rattle.std.proofs.Common.{◌≡◌, ◌-◌}
use Rattle.cr_readers.specs.Cursor.{state_of}
use Rattle.cr_readers.specs.Lists as lists
use Rattle.cr_readers.specs.Reader.{part}
use Rattle.cr_readers.specs.Descent.{read}
use Rattle.cr_words.specs.Lists.{gather}
use Rattle.cr_decl.specs.Lists as items
use Rattle.cr_decl.proofs.declarations.Declarations.more_members.Given as goal

abbrev pub invariant-loop-turn : goal.invariant-loop-turn
invariant-loop-turn g v = gather v.fn.found (lists.lines v.self.parser.turns (items.begins v.of) (part (items.member v.self.parser.turns (read v.self.parser.turns v.self.parser.deep) v.of)) v.self.parser.turns (state_of v.fn.cursor))
    ≡ gather v.found (lists.lines v.self.parser.turns (items.begins v.of) (part (items.member v.self.parser.turns (read v.self.parser.turns v.self.parser.deep) v.of)) (v._turn-end - v._turn) (state_of v.cursor))
