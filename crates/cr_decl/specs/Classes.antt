-- Classes in parts.
use Rattle.std.specs.Prelude.{ℕ, List, Option}
use Rattle.cr_syntax.specs.declared.look.TokenLook.TheVariants as l
use Rattle.cr_grammar.specs.declared.tree.Tree.{Tree}
use Rattle.cr_grammar.specs.declared.tree.Tree.TheVariants as tree
use Rattle.cr_grammar.specs.declared.wanted.Wanted.{Wanted}
use Rattle.cr_readers.specs.Reader.{Reader, ◌>>=◌, ◌>>◌, pure, expect, part}
use Rattle.cr_readers.specs.Lists.{stmts}
use Rattle.cr_readers.specs.Declarations.{begins_member, member}
use Rattle.cr_decl.specs.Names.{type_parameters, superclass}

-- a class behind its name
abbrev pub class_behind : (turns : ℕ) (rec : Wanted → Reader Tree) → ℕ → List ℕ → Reader Tree
class_behind turns rec at name = do
  parameters ← type_parameters turns
  superclass ← superclass
  expect l.Newline
  members ← stmts turns begins_member (part (member turns rec))
  expect l.KeywordEnd
  pure (tree.Class at name parameters superclass members)
