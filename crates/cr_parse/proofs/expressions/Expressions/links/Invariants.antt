use Rattle.std.proofs.Common.{◌≡◌, ◌-◌}
use Rattle.cr_readers.specs.Cursor.{state_of}
use Rattle.cr_readers.specs.Descent.{read}
use Rattle.cr_readers.specs.Goes.{is_link}
use Rattle.cr_readers.specs.Links.{link}
use Rattle.cr_readers.specs.Reader.{repeated}
use Rattle.cr_parse.proofs.expressions.Expressions.links.Given as goal

abbrev pub invariant-loop-turn : goal.invariant-loop-turn
invariant-loop-turn g v =
    repeated is_link (link v.self.parser.turns (read v.self.parser.turns v.self.parser.deep) v.self.within v.free) v.self.parser.turns v.fn.operand (state_of v.fn.cursor)
    ≡ repeated is_link (link v.self.parser.turns (read v.self.parser.turns v.self.parser.deep) v.self.within v.free) (v._turn-end - v._turn) v.operand (state_of v.cursor)
