-- The descent: for each construct of the grammar its reader, each with the readers of what it holds, so many deep.
use Rattle.std.specs.Prelude.{ℕ, zero, suc}
use Rattle.cr_grammar.specs.declared.tree.Tree.{Tree}
use Rattle.cr_grammar.specs.declared.tree.Tree.TheVariants as tree
use Rattle.cr_grammar.specs.declared.within.Within.{Within}
use Rattle.cr_grammar.specs.declared.wanted.Wanted.{Wanted}
use Rattle.cr_grammar.specs.declared.wanted.Wanted.TheVariants.{Written, When, Unary, Or, Simple, Stmt, Stmts, Program}
use Rattle.cr_readers.specs.Reader.{Reader, ◌>>=◌, pure, give_up, beside}
use Rattle.cr_readers.specs.Lists.{stmts}
use Rattle.cr_readers.specs.Goes.{begins_line}
use Rattle.cr_readers.specs.Types as types
use Rattle.cr_readers.specs.Links as links
use Rattle.cr_readers.specs.Operations as operations
use Rattle.cr_readers.specs.Statements as statements
use Rattle.cr_readers.specs.Declarations as declarations

-- `turns` bounds each loop.
module _ (turns : ℕ) (rec : Wanted → Reader Tree) where
  -- a list of statements by itself
  abbrev pub list_of : Within → Reader Tree
  list_of within = stmts turns (begins_line within) (beside (rec (Stmt within))) >>= λ list. pure (tree.Statements list)

  abbrev pub reader : Wanted → Reader Tree
  reader (Written with_arguments) = types.written turns rec with_arguments
  reader (When within free) = links.when turns rec within free
  reader (Unary within free) = operations.unary turns rec within free
  reader (Or within free) = operations.or turns rec within free
  reader (Simple within) = statements.simple turns rec within
  reader (Stmt within) = statements.stmt turns rec within
  reader (Stmts within) = list_of within
  reader Program = declarations.program turns rec

-- with at most so many constructs in one another
unfoldable pub read : ℕ → ℕ → Wanted → Reader Tree
read turns zero wanted = give_up
read turns (suc n) wanted = reader turns (read turns n) wanted
