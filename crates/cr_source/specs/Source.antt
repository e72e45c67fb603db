-- What a source is: the program that its tokens spell, or the first of its refusals.
use Rattle.std.specs.Prelude.{◌≡◌, ◌⊎◌, ℕ, List, Result, Ok, Err}
use Rattle.cr_syntax.specs.declared.token.Token.{Token}
use Rattle.cr_syntax.specs.declared.fault.LexFault.{LexFault}
use Rattle.cr_syntax.specs.declared.fault.LexFault.TheVariants as lex
use Rattle.cr_syntax.specs.Faults.{lex_fault}
use Rattle.cr_syntax.specs.Lexes.{Lexes}
use Rattle.cr_grammar.specs.declared.tree.Tree.{Tree}
use Rattle.cr_grammar.specs.declared.wanted.Wanted.TheVariants.{Program}
use Rattle.cr_grammar.specs.Count.{nodes, nesting}
use Rattle.cr_readers.specs.declared.fault.ParseFault.{ParseFault}
use Rattle.cr_readers.specs.declared.fault.ParseFault.TheVariants as parse
use Rattle.cr_readers.specs.Reader.{max_nesting, max_nodes}
use Rattle.cr_descent.specs.Laws.{IsFirstUnexpected}
use Rattle.cr_descent.specs.LimitLaws.{HasNoWay}
use Rattle.cr_descent.specs.Programs.{IsProgram}
use Rattle.cr_source.specs.declared.fault.Code.{Code}
use Rattle.cr_source.specs.declared.fault.Code.TheVariants as code
use Rattle.cr_source.specs.declared.fault.Refusal.{Refusal}
use Rattle.cr_source.specs.declared.fault.SourceFault.{SourceFault}
use Rattle.cr_source.specs.declared.fault.SourceFault.TheVariants.{Refused, NoMemory}

-- The source has tokens, and these spell the tree as a program, within both limits.
pub record IsSource (source : List ℕ) (x : Tree) : Type 0 where
  pub tokens : List Token
  pub lexed : Lexes source tokens
  pub program : IsProgram tokens x

-- The source has tokens, of which this holds.
pub record HasTokens (source : List ℕ) (P : List Token → Type 0) : Type 0 where
  pub tokens : List Token
  pub lexed : Lexes source tokens
  pub holds : P tokens

-- What is refused so: a source without tokens for the fault that is met first in it; else its tokens, at the first with which no program
-- begins, or at one with which a program begins but none within a limit.
abbrev pub IsRefused : List ℕ → Code → ℕ → Type 0
IsRefused source code.NotUtf8 at = lex_fault source (lex.NotUtf8 at)
IsRefused source code.BadByte at = lex_fault source (lex.BadByte at)
IsRefused source code.OpenString at = lex_fault source (lex.OpenString at)
IsRefused source code.BadEscape at = lex_fault source (lex.BadEscape at)
IsRefused source code.BadNumber at = lex_fault source (lex.BadNumber at)
IsRefused source code.Unexpected at = HasTokens source (λ tokens. IsFirstUnexpected Program tokens at)
IsRefused source code.TooDeep at = HasTokens source (λ tokens. HasNoWay Program max_nesting nesting tokens at)
IsRefused source code.TooManyNodes at = HasTokens source (λ tokens. HasNoWay Program max_nodes nodes tokens at)

-- The tree of the source, or its refusal. Of want of memory nothing is said.
abbrev pub Answers : List ℕ → Result Tree SourceFault → Type 0
Answers source (Ok x) = IsSource source x
Answers source (Err (Refused refusal)) = IsRefused source refusal.code refusal.at
Answers source (Err NoMemory) = Unit {0}

-- this tree, or want of memory
abbrev pub IsOnly : Tree → Result Tree SourceFault → Type 0
IsOnly x (Ok y) = y ≡ x
IsOnly x (Err fault) = fault ≡ NoMemory

-- this fault, or want of memory
abbrev pub IsFault : SourceFault → Result Tree SourceFault → Type 0
IsFault fault (Ok x) = ⊥
IsFault fault (Err other) = (other ≡ fault) ⊎ (other ≡ NoMemory)

abbrev pub refused : Code → ℕ → SourceFault
refused code at = Refused (record { code = code; at = at })

-- the refusal for a fault of tokens
abbrev pub lexical : LexFault → SourceFault
lexical (lex.NotUtf8 at) = refused code.NotUtf8 at
lexical (lex.BadByte at) = refused code.BadByte at
lexical (lex.OpenString at) = refused code.OpenString at
lexical (lex.BadEscape at) = refused code.BadEscape at
lexical (lex.BadNumber at) = refused code.BadNumber at
lexical lex.NoMemory = NoMemory

-- the refusal for a fault of grammar or of a limit
abbrev pub syntactic : ParseFault → SourceFault
syntactic (parse.Unexpected at) = refused code.Unexpected at
syntactic (parse.TooDeep at) = refused code.TooDeep at
syntactic (parse.TooManyNodes at) = refused code.TooManyNodes at
syntactic parse.NoMemory = NoMemory
