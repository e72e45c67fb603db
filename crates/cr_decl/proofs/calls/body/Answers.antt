use Rattle.std.proofs.Common.{ℕ, List, Ok, Result}
use Rattle.cr_syntax.specs.declared.token.Token.{Token}
use Rattle.cr_grammar.specs.declared.tree.Tree.{Tree}
use Rattle.cr_grammar.specs.declared.within.Within.{Within}
use Rattle.cr_readers.specs.declared.fault.ParseFault.{ParseFault}
use Rattle.cr_readers.specs.Cursor.{start_of, state_of}
use Rattle.cr_readers.specs.Reader.{State}
use Rattle.cr_readers.specs.Reads.{Reads}
use Rattle.cr_descent.specs.Bodies.{BodyIsAnswered, IsBody, body_of}
use Rattle.cr_descent.specs.Programs.{EndsOnce, IsOnly}
use Rattle.cr_parse.specs.declared.calls.TheConstants.{MAX_TURNS, MAX_DEPTH}
use Rattle.cr_decl.specs.Bodies.{BodyIsAccepted}
use Rattle.cr_decl.proofs.calls.body.Goals as goal

-- what reads a body of a list refuses no body
accepted_by : BodyIsAnswered → BodyIsAccepted → (turns n : ℕ) (within : Within) (list : List Token) (s : State) (r : Result Tree ParseFault) → EndsOnce list
    → Reads (body_of turns n within (start_of list)) r s → (x : Tree) → IsBody within list x → IsOnly x r
accepted_by answered accepted turns n within list s r once reads x is = accepted within list x r (answered turns n within list s r once reads) is

pub returns-in_err-whole_body-clause-enough : goal.returns-in_err-whole_body-clause-enough
returns-in_err-whole_body-clause-enough c = λ x body deep few nested short. c.body_depth_is_enough.ensures _ _ c.args.within c.args.list.now x body deep few nested short

pub returns-clause-accepted : goal.returns-clause-accepted
returns-clause-accepted c = accepted_by c.body_is_answered.ensures c.body_is_accepted.ensures MAX_TURNS MAX_DEPTH c.args.within c.args.list.now (state_of c.whole_body.new.cursor) (Ok c.into_inner.result) c.requires.ended (rw (c.into_inner.ensures, ← c.new-cursor.ensures.state) c.in_ok-whole_body.ensures)

pub returns-clause-reads : goal.returns-clause-reads
returns-clause-reads c = (state_of c.whole_body.new.cursor, rw (c.into_inner.ensures, ← c.new-cursor.ensures.state) c.in_ok-whole_body.ensures)

pub returns-clause-enough : goal.returns-clause-enough
returns-clause-enough c = λ x body deep few nested short. c.body_depth_is_enough.ensures _ _ c.args.within c.args.list.now x body deep few nested short
