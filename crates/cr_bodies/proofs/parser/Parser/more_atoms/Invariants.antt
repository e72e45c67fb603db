use Rattle.std.proofs.Common.{◌≡◌, ◌-◌}
use Rattle.cr_syntax.specs.declared.look.TokenLook.TheVariants as l
use Rattle.cr_readers.specs.Cursor.{state_of}
use Rattle.cr_readers.specs.Reader.{many, seen}
use Rattle.cr_readers.specs.Descent.{read}
use Rattle.cr_words.specs.Lists.{gather_each}
use Rattle.cr_bodies.specs.Atoms.{atom_trees, behind_pipe}
use Rattle.cr_bodies.proofs.parser.Parser.more_atoms.Given as goal

abbrev pub invariant-loop-turn : goal.invariant-loop-turn
invariant-loop-turn g v = gather_each atom_trees v.fn.found (many (seen l.Pipe) (behind_pipe v.self.turns (read v.self.turns v.self.deep) v.with_arguments) v.self.turns (state_of v.fn.cursor))
    ≡ gather_each atom_trees v.found (many (seen l.Pipe) (behind_pipe v.self.turns (read v.self.turns v.self.deep) v.with_arguments) (v._turn-end - v._turn) (state_of v.cursor))
