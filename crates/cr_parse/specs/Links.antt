-- What stands behind a receiver.
use Rattle.std.specs.Prelude.{ℕ, Bool}
use Rattle.cr_grammar.specs.declared.tree.Tree.{Tree}
use Rattle.cr_grammar.specs.declared.within.Within.{Within}
use Rattle.cr_grammar.specs.declared.wanted.Wanted.{Wanted}
use Rattle.cr_syntax.specs.declared.look.TokenLook.TheVariants as l
use Rattle.cr_readers.specs.Reader.{Reader, ◌>>=◌, ◌>>◌, pure, seen, expect, choose, by_look, wrap}
use Rattle.cr_readers.specs.Words.{ident}
use Rattle.cr_readers.specs.Bodies.{arguments, maybe_block}
use Rattle.cr_readers.specs.declared.operand.Operand.{Operand}
use Rattle.cr_readers.specs.Links.{behind_dot, at_index}
use Rattle.cr_parse.specs.declared.links.Calling.{Calling}

module _ (turns : ℕ) (rec : Wanted → Reader Tree) (within : Within) (free : Bool) where
  -- a name with its arguments in parentheses and its block, behind its receiver
  abbrev pub calling : Reader Calling
  calling = do
    name ← ident
    wrap name.at
    arguments ← arguments turns rec within
    block ← maybe_block turns rec within free
    pure (record { name = name; arguments = arguments; block = block })

  -- "." and what stands behind it
  abbrev pub dotted : Tree → Reader Operand
  dotted receiver = expect l.Dot >> by_look (behind_dot turns rec within free receiver)

  -- a link of a receiver
  abbrev pub link_of : Tree → Reader Operand
  link_of receiver = choose (seen l.Dot) (dotted receiver) (at_index turns rec within free receiver)
