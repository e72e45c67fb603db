-- What goes on behind a name.
use Rattle.std.specs.Prelude.{ℕ, Bool}
use Rattle.cr_grammar.specs.declared.tree.Tree.{Tree}
use Rattle.cr_grammar.specs.declared.within.Within.{Within}
use Rattle.cr_grammar.specs.declared.wanted.Wanted.{Wanted}
use Rattle.cr_grammar.specs.declared.word.Word.{Word}
use Rattle.cr_readers.specs.Reader.{Reader, ◌>>=◌, pure}
use Rattle.cr_readers.specs.declared.operand.Operand.{Operand}
use Rattle.cr_readers.specs.Operand.{named}
use Rattle.cr_readers.specs.Bodies.{arguments, maybe_block}

-- a name with the arguments in parentheses and the block that follow it
unfoldable pub behind_name : (turns : ℕ) → (Wanted → Reader Tree) → Within → Bool → Word → Reader Operand
behind_name turns rec within free name = do
  arguments ← arguments turns rec within
  block ← maybe_block turns rec within free
  pure (named name arguments block)
