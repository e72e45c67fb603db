use Rattle.std.proofs.Common.{◌≡◌, ◌-◌}
use Rattle.cr_syntax.specs.declared.look.TokenLook.TheVariants as l
use Rattle.cr_readers.specs.Cursor.{state_of}
use Rattle.cr_readers.specs.Reader.{repeated, seen}
use Rattle.cr_readers.specs.Descent.{read}
use Rattle.cr_parse.specs.Parts.{another}
use Rattle.cr_parse.proofs.expressions.Expressions.parts.Given as goal

abbrev pub invariant-loop-turn : goal.invariant-loop-turn
invariant-loop-turn g v =
    repeated (seen l.TextMiddle) (another v.self.parser.turns (read v.self.parser.turns v.self.parser.deep) v.self.within v.free) v.self.parser.turns v.fn.found (state_of v.fn.cursor)
    ≡ repeated (seen l.TextMiddle) (another v.self.parser.turns (read v.self.parser.turns v.self.parser.deep) v.self.within v.free) (v._turn-end - v._turn) v.found (state_of v.cursor)
