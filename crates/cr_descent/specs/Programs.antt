-- What the reader of whole programs answers.
use Rattle.std.specs.Prelude.{◌≡◌, ◌≢◌, ◌≤◌, ◌<◌, ℕ, List, [], ◌∷◌, ◌++◌, length, All, Result, Ok, Err}
use Rattle.cr_syntax.specs.declared.look.TokenLook.TheVariants as l
use Rattle.cr_syntax.specs.declared.token.Token.{Token}
use Rattle.cr_syntax.specs.Lexes.{Lexes}
use Rattle.cr_syntax.specs.Look.{look_of}
use Rattle.cr_grammar.specs.Count.{nodes, nesting}
use Rattle.cr_grammar.specs.declared.tree.Tree.{Tree}
use Rattle.cr_grammar.specs.declared.wanted.Wanted.{Wanted}
use Rattle.cr_grammar.specs.declared.wanted.Wanted.TheVariants.{Program}
use Rattle.cr_grammar.specs.Grammar.{Spells, Spells_in}
use Rattle.cr_readers.specs.declared.fault.ParseFault.{ParseFault}
use Rattle.cr_readers.specs.declared.fault.ParseFault.TheVariants.{Unexpected, TooDeep, TooManyNodes, NoMemory}
use Rattle.cr_readers.specs.Reader.{State, Found, max_nesting, max_nodes}
use Rattle.cr_readers.specs.Cursor.{start_of}
use Rattle.cr_readers.specs.Reads.{Reads}
use Rattle.cr_readers.specs.Descent.{read}
use Rattle.cr_descent.specs.Laws.{IsFirstUnexpected}
use Rattle.cr_descent.specs.LimitLaws.{HasNoWay}

-- The last of these tokens is End, and no other.
pub record EndsOnce (list : List Token) : Type 0 where
  pub front : List Token
  pub last : Token
  pub parts : list ≡ front ++ last ∷ []
  pub is_end : look_of last.kind ≡ l.End
  pub no_other : All (λ (t : Token). look_of t.kind ≢ l.End) front

-- The tokens of a source end once.
abbrev pub TokensEndOnce : Type 0
TokensEndOnce = (source : List ℕ) (list : List Token) → Lexes source list → EndsOnce list

-- The whole list spells this tree, within both limits.
pub record IsProgram (list : List Token) (x : Tree) : Type 0 where
  pub spelled : Spells Program list x
  pub few : nodes x ≤ max_nodes
  pub nested : nesting x ≤ max_nesting

-- Ok with the tree of the whole list; Unexpected at the first token with which no program begins; TooDeep and TooManyNodes where nothing
-- goes on within the limit. Of want of memory nothing is said.
abbrev pub AnswersProgram : List Token → Result Tree ParseFault → Type 0
AnswersProgram list (Ok x) = IsProgram list x
AnswersProgram list (Err (Unexpected place)) = IsFirstUnexpected Program list place
AnswersProgram list (Err (TooDeep place)) = HasNoWay Program max_nesting nesting list place
AnswersProgram list (Err (TooManyNodes place)) = HasNoWay Program max_nodes nodes list place
AnswersProgram list (Err NoMemory) = Unit {0}

-- Whatever comes out as the reader of a program does, of a list that ends once, answers so.
abbrev pub ProgramIsAnswered : Type 0
ProgramIsAnswered = (turns n : ℕ) (list : List Token) (s' : State) (r : Result Tree ParseFault) → EndsOnce list → Reads (read turns n Program (start_of list)) r s' → AnswersProgram list r

-- A program within the limits is found, with so many constructs in one another as spell it, and more turns than it has tokens.
abbrev pub DepthIsEnough : Type 0
DepthIsEnough = (turns n : ℕ) (list : List Token) (x : Tree) → Spells_in n Program list x → nodes x ≤ max_nodes → nesting x ≤ max_nesting → length list < turns
    → (s' : State) × (read turns n Program (start_of list) ≡ Found x s')

-- the tree x, or want of memory
abbrev pub IsOnly : Tree → Result Tree ParseFault → Type 0
IsOnly x (Ok y) = y ≡ x
IsOnly x (Err e) = e ≡ NoMemory

-- What answers so of a program within the limits is its tree, or want of memory.
abbrev pub ProgramIsAccepted : Type 0
ProgramIsAccepted = (list : List Token) (x : Tree) (r : Result Tree ParseFault) → AnswersProgram list r → IsProgram list x → IsOnly x r

-- There is at most one first unexpected token.
abbrev pub AtMostOneUnexpected : Type 0
AtMostOneUnexpected = (wanted : Wanted) (list : List Token) (p q : ℕ) → IsFirstUnexpected wanted list p → IsFirstUnexpected wanted list q → p ≡ q
