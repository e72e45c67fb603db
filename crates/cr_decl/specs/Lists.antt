-- The readers of what stands in lists.
use Rattle.std.specs.Prelude.{ℕ, true, false}
use Rattle.cr_grammar.specs.declared.tree.Tree.{Tree}
use Rattle.cr_grammar.specs.declared.wanted.Wanted.{Wanted}
use Rattle.cr_grammar.specs.declared.wanted.Wanted.TheVariants.{Stmt}
use Rattle.cr_grammar.specs.Wanted.{top}
use Rattle.cr_syntax.specs.declared.look.TokenLook.TheVariants as l
use Rattle.cr_readers.specs.Reader.{Reader, ◌>>=◌, ◌>>◌, Test, seen, choose, part}
use Rattle.cr_readers.specs.Lists.{comma}
use Rattle.cr_readers.specs.Declarations as declarations
use Rattle.cr_decl.specs.declared.lists.Declared.{Declared}
use Rattle.cr_decl.specs.declared.lists.Declared.TheVariants as d
use Rattle.cr_decl.specs.declared.lists.Members.{Members}
use Rattle.cr_decl.specs.declared.lists.Members.TheVariants as m

abbrev pub begins : Members → Test
begins m.Class = declarations.begins_member
begins m.Module = declarations.begins_module_member

module _ (turns : ℕ) (rec : Wanted → Reader Tree) where
  abbrev pub declared : Declared → Reader Tree
  declared (d.Parameter instance) = declarations.param turns rec instance
  declared d.Accessor = declarations.acc turns rec

  -- a comma, and what stands behind it
  unfoldable pub behind_comma : Declared → Reader Tree
  behind_comma x = comma turns >> part (declared x)

  abbrev pub member : Members → Reader Tree
  member m.Class = declarations.member turns rec
  member m.Module = declarations.module_member turns rec

  -- the members of a class that declare fields
  abbrev pub field : Reader Tree
  field = choose (seen l.InstanceVariable) (declarations.declaration turns rec)
      (choose (seen l.Getter) (declarations.accessors turns rec l.Getter false) (declarations.accessors turns rec l.Property true))

  -- an item that is no class and no module
  abbrev pub method_or_statement : Reader Tree
  method_or_statement = choose (seen l.Def) (declarations.def turns rec false) (rec (Stmt top))
