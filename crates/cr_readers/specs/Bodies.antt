-- Readers of statements in bodies, of blocks and of arguments.
use Rattle.std.specs.Prelude.{ℕ, Bool, true, false, List, [], Option, None}
use Rattle.cr_syntax.specs.declared.look.TokenLook.TheVariants as l
use Rattle.cr_grammar.specs.declared.tree.Tree.{Tree}
use Rattle.cr_grammar.specs.declared.tree.Tree.TheVariants as tree
use Rattle.cr_grammar.specs.declared.within.Within.{Within}
use Rattle.cr_grammar.specs.declared.wanted.Wanted.{Wanted}
use Rattle.cr_grammar.specs.declared.wanted.Wanted.TheVariants.{Or, Stmt}
use Rattle.cr_grammar.specs.Wanted.{in_block}
use Rattle.cr_readers.specs.Reader.{Reader, ◌>>=◌, ◌>>◌, pure, seen, tight_seen, expect, choose, allow, grow, part}
use Rattle.cr_readers.specs.Lists.{optional, unless_closed, separators, listed, parenthesized, stmts}
use Rattle.cr_readers.specs.Goes.{begins_line, begins_block}
use Rattle.cr_readers.specs.Words.{ident}

module _ (turns : ℕ) (rec : Wanted → Reader Tree) where
  -- the statements of a body
  abbrev pub body : Within → Reader (List Tree)
  body within = stmts turns (begins_line within) (part (rec (Stmt within)))

  -- then = sep | "then"
  abbrev pub then : Reader ℕ
  then = choose (seen l.Newline) (expect l.Newline) (expect l.Then)

  -- [ "else" stmts ]
  abbrev pub otherwise : Within → Reader (Option (List Tree))
  otherwise within = optional (seen l.Else) (expect l.Else >> body within)

  abbrev pub block_parameter : Reader Tree
  block_parameter = do
    name ← ident
    grow name.at
    pure (tree.Parameter name.at false name.text None)

  -- [ "|" Ident { "," Ident } "|" ]
  abbrev pub pars : Reader (List Tree)
  pars = choose (seen l.Pipe) (do expect l.Pipe; names ← listed turns (part block_parameter); expect l.Pipe; pure names) (pure [])

  -- doblock = "do" [ pars ] stmts "end"
  abbrev pub doblock : Within → Reader Tree
  doblock within = do
    expect l.Do
    parameters ← pars
    body ← body (in_block within)
    expect l.KeywordEnd
    pure (tree.Block parameters body)

  -- "{" [ pars ] stmts "}"
  abbrev pub braces : Within → Reader Tree
  braces within = do
    expect l.OpenBrace
    separators turns
    parameters ← pars
    body ← body (in_block within)
    expect l.CloseBrace
    pure (tree.Block parameters body)

  -- [ block ]
  abbrev pub maybe_block : Within → Bool → Reader (Option Tree)
  maybe_block within free = optional (begins_block free) (choose (seen l.OpenBrace) (braces within) (doblock within))

  -- plain = "{" stmts "}" | "do" stmts "end"
  abbrev pub plain : Within → Bool → Reader (List Tree)
  plain within free =
      choose (seen l.OpenBrace)
      (do expect l.OpenBrace; body ← body (in_block within); expect l.CloseBrace; pure body)
      (allow free (do expect l.Do; body ← body (in_block within); expect l.KeywordEnd; pure body))

  -- args = or { "," or }, inside parentheses or brackets
  abbrev pub inside : Within → Reader (List Tree)
  inside within = listed turns (part (rec (Or within true)))

  -- "(" [ args ] ")"
  abbrev pub enclosed : Within → Reader (List Tree)
  enclosed within = parenthesized turns (unless_closed l.CloseParenthesis (inside within))

  -- [ tight "(" [ args ] ")" ]
  abbrev pub arguments : Within → Reader (Option (List Tree))
  arguments within = optional (tight_seen l.OpenParenthesis) (enclosed within)
