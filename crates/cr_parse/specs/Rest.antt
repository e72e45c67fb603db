-- What readers of statements read behind the tree that they have already.
use Rattle.std.specs.Prelude.{ℕ, true, Option}
use Rattle.cr_syntax.specs.declared.look.TokenLook.{TokenLook}
use Rattle.cr_syntax.specs.Look.{look_of}
use Rattle.cr_grammar.specs.declared.operator.Assignment.{Assignment}
use Rattle.cr_grammar.specs.declared.tree.Tree.{Tree}
use Rattle.cr_grammar.specs.declared.within.Within.{Within}
use Rattle.cr_grammar.specs.declared.wanted.Wanted.{Wanted}
use Rattle.cr_grammar.specs.declared.wanted.Wanted.TheVariants.{Simple}
use Rattle.cr_readers.specs.Reader.{Reader, ◌>>=◌, ◌>>◌, pure, take, expect, wrap, part}
use Rattle.cr_readers.specs.Operations.{or}
use Rattle.cr_readers.specs.Statements.{assigning_of, simple}
use Rattle.cr_parse.specs.declared.assignments.Assigned.{Assigned}

abbrev pub assigned_of : ℕ → Assignment → Tree → Assigned
assigned_of place operator value = record { place = place; operator = operator; value = value }

module _ (turns : ℕ) (rec : Wanted → Reader Tree) (within : Within) where
  -- a value in which a `do` is free
  unfoldable pub free_value : Reader Tree
  free_value = or turns rec within true

  -- a value, in a node above its target
  abbrev pub value_at : ℕ → Reader Tree
  value_at place = wrap place >> part (rec (Simple within))

  -- ( "=" | .. ) simple
  abbrev pub assigned : (TokenLook → Option Assignment) → Reader Assigned
  assigned table = do
    found ← take (λ t. assigning_of t (table (look_of t.kind)))
    value ← value_at found.0
    pure (assigned_of found.0 found.1 value)

  -- ( "if" | "unless" ) simple
  abbrev pub condition : TokenLook → Reader Tree
  condition look = expect look >>= λ place. wrap place >> part (simple turns rec within)
