-- Readers of what literals hold.
use Rattle.std.specs.Prelude.{ℕ, Bool, true, List, Option}
use Rattle.cr_syntax.specs.declared.look.TokenLook.{TokenLook}
use Rattle.cr_syntax.specs.declared.look.TokenLook.TheVariants as l
use Rattle.cr_grammar.specs.declared.tree.Tree.{Tree}
use Rattle.cr_grammar.specs.declared.within.Within.{Within}
use Rattle.cr_grammar.specs.declared.wanted.Wanted.{Wanted}
use Rattle.cr_grammar.specs.declared.wanted.Wanted.TheVariants.{Written, Or}
use Rattle.cr_readers.specs.Reader.{Reader, ◌>>=◌, ◌>>◌, pure, seen, expect, grow, part}
use Rattle.cr_readers.specs.Lists.{optional, unless_closed, listed}
use Rattle.cr_readers.specs.Primaries.{pair}

-- a word that is a node by itself
abbrev pub word_node : TokenLook → Reader ℕ
word_node look = do
  at ← expect look
  grow at
  pure at

module _ (turns : ℕ) (rec : Wanted → Reader Tree) (within : Within) (free : Bool) where
  -- [ "of" type ]
  abbrev pub element : Reader (Option Tree)
  element = optional (seen l.Of) (expect l.Of >> part (rec (Written true)))

  -- [ or "=>" or { "," or "=>" or } ]
  abbrev pub entries : Reader (List Tree)
  entries = unless_closed l.CloseBrace (listed turns (pair turns rec within free (part (rec (Or within free)))))

  -- [ "of" type "=>" type ]
  abbrev pub entry : Reader (Option Tree)
  entry = optional (seen l.Of) (expect l.Of >> pair turns rec within free (part (rec (Written true))))
