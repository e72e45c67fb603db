-- The readers of what stands in lists.
use Rattle.std.specs.Prelude.{ℕ, Bool}
use Rattle.cr_grammar.specs.declared.tree.Tree.{Tree}
use Rattle.cr_grammar.specs.declared.wanted.Wanted.{Wanted}
use Rattle.cr_grammar.specs.declared.wanted.Wanted.TheVariants.{Or, Stmt}
use Rattle.cr_grammar.specs.declared.within.Within.{Within}
use Rattle.cr_readers.specs.Reader.{Reader, ◌>>=◌, ◌>>◌, pure, Test, part, beside}
use Rattle.cr_readers.specs.Lists.{comma}
use Rattle.cr_readers.specs.Goes.{begins_line}
use Rattle.cr_grammar.specs.declared.word.Word.{Word}
use Rattle.cr_readers.specs.declared.operand.Operand.{Operand}
use Rattle.cr_readers.specs.Operand.{linked}
use Rattle.cr_readers.specs.Bodies.{block_parameter, arguments, maybe_block}
use Rattle.cr_readers.specs.Primaries.{pair}
use Rattle.cr_bodies.specs.Nests.{Nestable}
use Rattle.cr_bodies.specs.declared.item.Item.{Item}
use Rattle.cr_bodies.specs.declared.item.Item.TheVariants as i
use Rattle.cr_bodies.specs.declared.item.Lines.{Lines}
use Rattle.cr_bodies.specs.declared.item.Lines.TheVariants as n

-- what stands between the commas is no program
abbrev pub NestableItem : Item → Type 0
NestableItem (i.Part wanted) = Nestable wanted
NestableItem other = Unit {0}

module _ (turns : ℕ) (rec : Wanted → Reader Tree) where
  abbrev pub item : Item → Reader Tree
  item (i.Part wanted) = part (rec wanted)
  item i.Parameter = part (block_parameter turns rec)
  item (i.Entry within free) = pair turns rec within free (part (rec (Or within free)))

  -- a comma, and what stands behind it
  unfoldable pub behind_comma : Item → Reader Tree
  behind_comma x = comma turns >> item x

abbrev pub begins : Lines → Test
begins (n.Body within) = begins_line within
begins (n.Alone within) = begins_line within

abbrev pub statement : (Wanted → Reader Tree) → Lines → Reader Tree
statement rec (n.Body within) = part (rec (Stmt within))
statement rec (n.Alone within) = beside (rec (Stmt within))
