-- The clauses of `if`, `case` and `select`, and what these read behind the first of their parts.
use Rattle.std.specs.Prelude.{ℕ, Bool, true, List}
use Rattle.cr_syntax.specs.declared.look.TokenLook.{TokenLook}
use Rattle.cr_syntax.specs.declared.look.TokenLook.TheVariants as l
use Rattle.cr_grammar.specs.declared.tree.Tree.{Tree}
use Rattle.cr_grammar.specs.declared.tree.Tree.TheVariants as tree
use Rattle.cr_grammar.specs.declared.within.Within.{Within}
use Rattle.cr_grammar.specs.declared.wanted.Wanted.{Wanted}
use Rattle.cr_grammar.specs.declared.wanted.Wanted.TheVariants as w
use Rattle.cr_readers.specs.Reader.{Reader, ◌>>=◌, ◌>>◌, pure, expect}
use Rattle.cr_readers.specs.Lists.{separators}
use Rattle.cr_readers.specs.Bodies.{otherwise}
use Rattle.cr_readers.specs.Compounds.{some_of, elsif, branches, in_clause}
use Rattle.cr_bodies.specs.declared.item.Clause.{Clause}
use Rattle.cr_bodies.specs.declared.item.Clause.TheVariants as c

-- the word that a clause begins with
abbrev pub first_word : Clause → TokenLook
first_word (c.Elsif within) = l.Elsif
first_word (c.In within) = l.In
first_word (c.When within free) = l.When

module _ (turns : ℕ) (rec : Wanted → Reader Tree) where
  unfoldable pub clause : Clause → Reader Tree
  clause (c.Elsif within) = elsif turns rec within true
  clause (c.In within) = in_clause turns rec within true
  clause (c.When within free) = rec (w.When within free)

  -- `if` behind its statements
  unfoldable pub behind_first : Within → Bool → ℕ → Tree → List Tree → Reader Tree
  behind_first within unless at condition body = do
    others ← branches turns rec within true unless
    otherwise ← otherwise turns rec within
    expect l.KeywordEnd
    pure (tree.If at unless condition body others otherwise)

  -- `case` behind its line
  unfoldable pub behind_value : Within → ℕ → Tree → Reader Tree
  behind_value within at value = do
    separators turns
    clauses ← some_of turns l.In (in_clause turns rec within true)
    expect l.KeywordEnd
    pure (tree.Case at value clauses)

  -- the clauses of `select`
  unfoldable pub operations : Within → Bool → ℕ → Reader Tree
  operations within free at = do
    clauses ← some_of turns l.When (rec (w.When within free))
    otherwise ← otherwise turns rec within
    expect l.KeywordEnd
    pure (tree.Select at clauses otherwise)
