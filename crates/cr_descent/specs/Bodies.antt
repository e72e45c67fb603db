-- What the reader of a method's body answers: of statements in given surroundings, and one End behind them.
use Rattle.std.specs.Prelude.{◌≡◌, ◌≤◌, ◌<◌, ℕ, List, [], ◌∷◌, ◌++◌, length, Result, Ok, Err}
use Rattle.cr_syntax.specs.declared.look.TokenLook.TheVariants as l
use Rattle.cr_syntax.specs.declared.token.Token.{Token}
use Rattle.cr_syntax.specs.Look.{look_of}
use Rattle.cr_grammar.specs.Count.{nodes, nesting}
use Rattle.cr_grammar.specs.declared.tree.Tree.{Tree}
use Rattle.cr_grammar.specs.declared.wanted.Wanted.TheVariants.{Stmts}
use Rattle.cr_grammar.specs.declared.within.Within.{Within}
use Rattle.cr_grammar.specs.Grammar.{Spells}
use Rattle.cr_readers.specs.declared.fault.ParseFault.{ParseFault}
use Rattle.cr_readers.specs.declared.fault.ParseFault.TheVariants.{Unexpected, TooDeep, TooManyNodes, NoMemory}
use Rattle.cr_readers.specs.Reader.{State, Found, Reader, ◌>>=◌, ◌>>◌, pure, expect, max_nesting, max_nodes}
use Rattle.cr_readers.specs.Cursor.{start_of}
use Rattle.cr_readers.specs.Reads.{Reads}
use Rattle.cr_readers.specs.Descent.{read}
use Rattle.cr_exact.specs.Exact.{Any}
use Rattle.cr_descent.specs.Laws.{IsUnexpected}
use Rattle.cr_descent.specs.LimitLaws.{HasNoWay}
use Rattle.cr_descent.specs.Programs.{EndsOnce}

-- The list is statements that spell this tree, and End behind them.
pub record SpellsBody (within : Within) (list : List Token) (x : Tree) : Type 0 where
  pub statements : List Token
  pub last : Token
  pub parts : list ≡ statements ++ last ∷ []
  pub is_end : look_of last.kind ≡ l.End
  pub spelled : Spells (Stmts within) statements x

-- The whole list is a body of this tree, within both limits.
pub record IsBody (within : Within) (list : List Token) (x : Tree) : Type 0 where
  pub spelled : SpellsBody within list x
  pub few : nodes x ≤ max_nodes
  pub nested : nesting x ≤ max_nesting

-- It is the first token with which no body begins. What is before it is none, whatever comes.
abbrev pub IsFirstUnexpectedInBody : Within → List Token → ℕ → Type 0
IsFirstUnexpectedInBody within list place = IsUnexpected (SpellsBody within) Any list place

-- stmts End
abbrev pub body_of : ℕ → ℕ → Within → Reader Tree
body_of turns n within = do
  x ← read turns n (Stmts within)
  expect l.End
  pure x

-- Ok with the tree of the whole list; Unexpected at the first token with which no body begins; TooDeep and TooManyNodes where no statements
-- go on within the limit. Of want of memory nothing is said.
abbrev pub AnswersBody : Within → List Token → Result Tree ParseFault → Type 0
AnswersBody within list (Ok x) = IsBody within list x
AnswersBody within list (Err (Unexpected place)) = IsFirstUnexpectedInBody within list place
AnswersBody within list (Err (TooDeep place)) = HasNoWay (Stmts within) max_nesting nesting list place
AnswersBody within list (Err (TooManyNodes place)) = HasNoWay (Stmts within) max_nodes nodes list place
AnswersBody within list (Err NoMemory) = Unit {0}

-- Whatever comes out as the reader of a body does, of a list that ends once, answers so.
abbrev pub BodyIsAnswered : Type 0
BodyIsAnswered = (turns n : ℕ) (within : Within) (list : List Token) (s' : State) (r : Result Tree ParseFault) → EndsOnce list → Reads (body_of turns n within (start_of list)) r s'
    → AnswersBody within list r

-- A body within the limits is found, with at least so many constructs in one another as spell its statements, and more turns than it has
-- tokens.
abbrev pub BodyDepthIsEnough : Type 0
BodyDepthIsEnough = (turns n : ℕ) (within : Within) (list : List Token) (x : Tree) (body : SpellsBody within list x) → body.spelled.0 ≤ n → nodes x ≤ max_nodes → nesting x ≤ max_nesting
    → length list < turns → (s' : State) × (body_of turns n within (start_of list) ≡ Found x s')
