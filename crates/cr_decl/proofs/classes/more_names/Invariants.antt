use Rattle.std.proofs.Common.{◌≡◌, ◌-◌}
use Rattle.cr_syntax.specs.declared.look.TokenLook.TheVariants as l
use Rattle.cr_readers.specs.Cursor.{state_of}
use Rattle.cr_readers.specs.Reader.{many, seen}
use Rattle.cr_words.specs.Lists.{gather}
use Rattle.cr_decl.specs.Names as names
use Rattle.cr_decl.proofs.classes.more_names.Given as goal

abbrev pub invariant-loop-turn : goal.invariant-loop-turn
invariant-loop-turn v = gather v.fn.found (many (seen l.Comma) (names.name_behind v.turns) v.turns (state_of v.fn.cursor))
    ≡ gather v.found (many (seen l.Comma) (names.name_behind v.turns) (v.turns - v._turn) (state_of v.cursor))
