-- What is known of the reader of the constructs in a construct.
use Rattle.std.specs.Prelude.{◌≤◌, ℕ}
use Rattle.cr_grammar.specs.declared.tree.Tree.{Tree}
use Rattle.cr_grammar.specs.declared.wanted.Wanted.{Wanted}
use Rattle.cr_grammar.specs.declared.wanted.Wanted.TheVariants.{Stmts, Program}
use Rattle.cr_readers.specs.Reader.{Reader}
use Rattle.cr_steady.specs.Steady.{Steady}

-- A construct that stands in others takes a token.
abbrev pub Takes : ℕ → (Wanted → Reader Tree) → Wanted → Type 0
Takes n rec (Stmts within) = Unit {0}
Takes n rec Program = Unit {0}
Takes n rec other = Steady 1 n (rec other)

-- Behind the first token of a construct less than n tokens are left, for which there are turns, and what reads the constructs in it is steady.
pub record Given (turns n : ℕ) (rec : Wanted → Reader Tree) : Type 0 where
  pub most : n ≤ turns
  pub steady : (wanted : Wanted) → Takes n rec wanted
