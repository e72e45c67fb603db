use Rattle.std.proofs.Common.{◌≡◌, ◌-◌}
use Rattle.cr_syntax.specs.declared.look.TokenLook.TheVariants as l
use Rattle.cr_readers.specs.Cursor.{state_of}
use Rattle.cr_readers.specs.Reader.{many, seen}
use Rattle.cr_readers.specs.Descent.{read}
use Rattle.cr_words.specs.Lists.{gather}
use Rattle.cr_decl.specs.Lists as items
use Rattle.cr_decl.proofs.declarations.Declarations.more_declared.Given as goal

abbrev pub invariant-loop-turn : goal.invariant-loop-turn
invariant-loop-turn g v = gather v.fn.found (many (seen l.Comma) (items.behind_comma v.self.parser.turns (read v.self.parser.turns v.self.parser.deep) v.declared) v.self.parser.turns (state_of v.fn.cursor))
    ≡ gather v.found (many (seen l.Comma) (items.behind_comma v.self.parser.turns (read v.self.parser.turns v.self.parser.deep) v.declared) (v._turn-end - v._turn) (state_of v.cursor))
