use Rattle.std.proofs.Common.{◌≡◌, ◌-◌}
use Rattle.cr_readers.specs.Cursor.{state_of}
use Rattle.cr_readers.specs.Reader.{many, seen}
use Rattle.cr_readers.specs.Descent.{read}
use Rattle.cr_words.specs.Lists.{gather}
use Rattle.cr_bodies.specs.Clauses.{clause, first_word}
use Rattle.cr_bodies.proofs.parser.Parser.more_clauses.Given as goal

abbrev pub invariant-loop-turn : goal.invariant-loop-turn
invariant-loop-turn g v = gather v.fn.found (many (seen (first_word v.clause)) (clause v.self.turns (read v.self.turns v.self.deep) v.clause) v.self.turns (state_of v.fn.cursor))
    ≡ gather v.found (many (seen (first_word v.clause)) (clause v.self.turns (read v.self.turns v.self.deep) v.clause) (v._turn-end - v._turn) (state_of v.cursor))
