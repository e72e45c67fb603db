use Rattle.std.proofs.Common.{ℕ, List, Ok, Result}
use Rattle.cr_syntax.specs.declared.token.Token.{Token}
use Rattle.cr_grammar.specs.declared.tree.Tree.{Tree}
use Rattle.cr_grammar.specs.declared.wanted.Wanted.TheVariants.{Program}
use Rattle.cr_readers.specs.declared.fault.ParseFault.{ParseFault}
use Rattle.cr_readers.specs.Cursor.{start_of, state_of}
use Rattle.cr_readers.specs.Descent.{read}
use Rattle.cr_readers.specs.Reader.{State}
use Rattle.cr_readers.specs.Reads.{Reads}
use Rattle.cr_descent.specs.Programs.{EndsOnce, IsOnly, IsProgram, ProgramIsAccepted, ProgramIsAnswered}
use Rattle.cr_parse.specs.declared.calls.TheConstants.{MAX_TURNS, MAX_DEPTH}
use Rattle.cr_decl.proofs.calls.program.Goals as goal

-- what reads a program of a list refuses no program
accepted_by : ProgramIsAnswered → ProgramIsAccepted → (turns n : ℕ) (list : List Token) (s : State) (r : Result Tree ParseFault) → EndsOnce list → Reads (read turns n Program (start_of list)) r s → (x : Tree) → IsProgram list x → IsOnly x r
accepted_by answered accepted turns n list s r once reads x is = accepted list x r (answered turns n list s r once reads) is

pub returns-clause-accepted : goal.returns-clause-accepted
returns-clause-accepted c = accepted_by c.program_is_answered.ensures c.program_is_accepted.ensures MAX_TURNS MAX_DEPTH c.args.list.now (state_of c.whole.new.cursor) (Ok c.into_inner.result) c.requires.ended (rw (c.into_inner.ensures, ← c.new-cursor.ensures.state) c.in_ok-whole.ensures)

pub returns-clause-reads : goal.returns-clause-reads
returns-clause-reads c = (state_of c.whole.new.cursor, rw (c.into_inner.ensures, ← c.new-cursor.ensures.state) c.in_ok-whole.ensures)
