use Rattle.std.proofs.Common.{◌≡◌, ◌-◌}
use Rattle.cr_syntax.specs.declared.look.TokenLook.TheVariants as l
use Rattle.cr_readers.specs.Cursor.{state_of}
use Rattle.cr_readers.specs.Reader.{many, seen}
use Rattle.cr_words.specs.Lists.{gather_each}
use Rattle.cr_bodies.specs.Atoms.{name_of, behind_colons}
use Rattle.cr_bodies.proofs.types.names.Given as goal

abbrev pub invariant-loop-turn : goal.invariant-loop-turn
invariant-loop-turn v = gather_each name_of v.fn.found (many (seen l.ColonColon) behind_colons v.turns (state_of v.fn.cursor))
    ≡ gather_each name_of v.found (many (seen l.ColonColon) behind_colons (v.turns - v._turn) (state_of v.cursor))
