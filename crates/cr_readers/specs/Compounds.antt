-- Readers of `if`, `while`, `case` and `select`.
use Rattle.std.specs.Prelude.{ℕ, Bool, true, false, List, [], ◌∷◌}
use Rattle.cr_syntax.specs.declared.look.TokenLook.{TokenLook}
use Rattle.cr_syntax.specs.declared.look.TokenLook.TheVariants as l
use Rattle.cr_grammar.specs.declared.tree.Tree.{Tree}
use Rattle.cr_grammar.specs.declared.tree.Tree.TheVariants as tree
use Rattle.cr_grammar.specs.declared.within.Within.{Within}
use Rattle.cr_grammar.specs.declared.wanted.Wanted.{Wanted}
use Rattle.cr_grammar.specs.declared.wanted.Wanted.TheVariants.{Written, When, Simple}
use Rattle.cr_grammar.specs.Wanted.{in_loop}
use Rattle.cr_readers.specs.Reader.{Reader, ◌>>=◌, ◌>>◌, pure, seen, expect, many, grow, part}
use Rattle.cr_readers.specs.Lists.{separators, listed}
use Rattle.cr_readers.specs.Bodies.{body, then, otherwise}

-- R { R }, where the test tells whether one more comes
abbrev pub some_of : {A : Type 0} → ℕ → (look : TokenLook) → Reader A → Reader (List A)
some_of turns look p = do
  x ← p
  xs ← many (seen look) p turns
  pure (x ∷ xs)

module _ (turns : ℕ) (rec : Wanted → Reader Tree) (within : Within) (free : Bool) where
  abbrev pub elsif : Reader Tree
  elsif = do
    at ← expect l.Elsif
    condition ← part (rec (Simple within))
    then turns rec
    body ← body turns rec within
    pure (tree.Branch at condition body)

  -- the branches of `elsif`, which `unless` has not
  abbrev pub branches : Bool → Reader (List Tree)
  branches true = pure []
  branches false = many (seen l.Elsif) elsif turns

  -- if = ( "if" | "unless" ) simple then stmts { "elsif" simple then stmts } [ "else" stmts ] "end"
  abbrev pub conditional : TokenLook → Bool → Reader Tree
  conditional look unless = do
    at ← expect look
    grow at
    condition ← part (rec (Simple within))
    then turns rec
    body ← body turns rec within
    others ← branches unless
    otherwise ← otherwise turns rec within
    expect l.KeywordEnd
    pure (tree.If at unless condition body others otherwise)

  -- while = ( "while" | "until" ) simple sep stmts "end"
  abbrev pub looping : TokenLook → Bool → Reader Tree
  looping look until = do
    at ← expect look
    grow at
    condition ← part (rec (Simple (in_loop within)))
    expect l.Newline
    body ← body turns rec (in_loop within)
    expect l.KeywordEnd
    pure (tree.While at until condition body)

  -- in = "in" type { "," type } then stmts
  abbrev pub in_clause : Reader Tree
  in_clause = do
    at ← expect l.In
    types ← listed turns (part (rec (Written false)))
    then turns rec
    body ← body turns rec within
    pure (tree.In at types body)

  -- case = "case" simple sep { sep } in { in } "end"
  abbrev pub cases : Reader Tree
  cases = do
    at ← expect l.Case
    grow at
    value ← part (rec (Simple within))
    expect l.Newline
    separators turns
    clauses ← some_of turns l.In in_clause
    expect l.KeywordEnd
    pure (tree.Case at value clauses)

  -- select = "select" sep { sep } when { when } [ "else" stmts ] "end"
  abbrev pub select : Reader Tree
  select = do
    at ← expect l.Select
    grow at
    expect l.Newline
    separators turns
    clauses ← some_of turns l.When (rec (When within free))
    otherwise ← otherwise turns rec within
    expect l.KeywordEnd
    pure (tree.Select at clauses otherwise)
