-- What is claimed: no reader gives up with turns and depth enough, and so each list that ends once has an answer.
use Rattle.std.specs.Prelude.{◌≢◌, ◌<◌, ◌+◌, ℕ, List, length, Result, Err}
use Rattle.cr_syntax.specs.declared.token.Token.{Token}
use Rattle.cr_grammar.specs.declared.tree.Tree.{Tree}
use Rattle.cr_grammar.specs.declared.wanted.Wanted.{Wanted}
use Rattle.cr_readers.specs.declared.fault.ParseFault.{ParseFault}
use Rattle.cr_readers.specs.declared.fault.ParseFault.TheVariants.{NoMemory}
use Rattle.cr_readers.specs.Reader.{State, Failed}
use Rattle.cr_readers.specs.Descent.{read}
use Rattle.cr_descent.specs.Programs.{EndsOnce, AnswersProgram}

-- With more turns than there are tokens left, and two more levels at least, no reader runs out of them.
abbrev pub ReadersDecide : Type 0
ReadersDecide = (turns n : ℕ) (wanted : Wanted) (s s' : State) → length s.rest < turns → length s.rest + 1 < n → read turns n wanted s ≢ Failed NoMemory s'

-- A list that ends once is a program or is refused: some answer is right that is no want of memory.
abbrev pub ProgramIsDecided : Type 0
ProgramIsDecided = (list : List Token) → EndsOnce list → (r : Result Tree ParseFault) × (r ≢ Err NoMemory) × AnswersProgram list r
