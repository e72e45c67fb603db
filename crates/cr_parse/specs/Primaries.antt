-- The readers of a primary by classes of its first token: each class refuses what none behind it reads.
use Rattle.std.specs.Prelude.{ℕ, Bool, true, false, cond}
use Rattle.cr_syntax.specs.declared.look.TokenLook.{TokenLook}
use Rattle.cr_syntax.specs.declared.look.TokenLook.TheVariants as l
use Rattle.cr_grammar.specs.declared.tree.Tree.{Tree}
use Rattle.cr_grammar.specs.declared.tree.Tree.TheVariants as tree
use Rattle.cr_grammar.specs.declared.within.Within.{Within}
use Rattle.cr_grammar.specs.declared.word.Atom.{Atom}
use Rattle.cr_grammar.specs.Expressions.{atom_tree}
use Rattle.cr_grammar.specs.declared.wanted.Wanted.{Wanted}
use Rattle.cr_grammar.specs.declared.wanted.Wanted.TheVariants.{Stmt}
use Rattle.cr_grammar.specs.Wanted.{in_object}
use Rattle.cr_readers.specs.Reader.{Reader, ◌>>=◌, ◌>>◌, pure, refuse, allow, expect}
use Rattle.cr_readers.specs.Lists.{separators, parenthesized}
use Rattle.cr_readers.specs.declared.operand.Operand.{Operand}
use Rattle.cr_readers.specs.Operand.{yielded, above}
use Rattle.cr_readers.specs.Compounds.{conditional, looping, cases, select}
use Rattle.cr_readers.specs.Primaries as primaries

-- a tree, and what closes parentheses behind it
abbrev pub closing : ℕ → Reader Tree → Reader Tree
closing turns p = do
  tree ← p
  separators turns
  expect l.CloseParenthesis
  pure tree

-- what opens, or makes something
abbrev pub is_opening : TokenLook → Bool
is_opening l.Constant = true
is_opening l.OpenBracket = true
is_opening l.OpenBrace = true
is_opening l.OpenParenthesis = true
is_opening l.Spawn = true
is_opening other = false

-- a literal
abbrev pub is_literal : TokenLook → Bool
is_literal l.Int32 = true
is_literal l.Int64 = true
is_literal l.Text = true
is_literal l.TextFirst = true
is_literal l.Nil = true
is_literal l.True = true
is_literal l.False = true
is_literal l.KeywordSelf = true
is_literal other = false

-- a name, or a word that passes values on
abbrev pub is_name : TokenLook → Bool
is_name l.InstanceVariable = true
is_name l.Ident = true
is_name l.Yield = true
is_name l.Super = true
is_name other = false

module _ (turns : ℕ) (rec : Wanted → Reader Tree) (within : Within) (free : Bool) where
  abbrev pub all_of : Reader Tree → Reader Operand
  all_of = primaries.all_of turns rec within free

  -- a word that begins a compound form
  abbrev pub compound_by : TokenLook → Reader Tree
  compound_by l.If = conditional turns rec within free l.If false
  compound_by l.Unless = conditional turns rec within free l.Unless true
  compound_by l.While = looping turns rec within free l.While false
  compound_by l.Until = looping turns rec within free l.Until true
  compound_by l.Case = cases turns rec within free
  compound_by l.Select = select turns rec within free
  compound_by other = refuse

  -- what opens, or makes something
  abbrev pub opening_of : TokenLook → Reader Tree
  opening_of l.Constant = primaries.of_class turns rec within free
  opening_of l.OpenBracket = primaries.array turns rec within free
  opening_of l.OpenBrace = primaries.hash turns rec within free
  opening_of l.OpenParenthesis = parenthesized turns (rec (Stmt within))
  opening_of l.Spawn = primaries.spawned turns rec within free
  opening_of other = refuse

  -- a literal
  abbrev pub literal_of : TokenLook → Reader Tree
  literal_of l.Int32 = primaries.number_node turns rec within free
  literal_of l.Int64 = primaries.number_node turns rec within free
  literal_of l.Text = primaries.text turns rec within free
  literal_of l.TextFirst = primaries.insertions turns rec within free
  literal_of l.Nil = primaries.leaf turns rec within free l.Nil (λ at. tree.Nil at)
  literal_of l.True = primaries.leaf turns rec within free l.True (λ at. tree.True at)
  literal_of l.False = primaries.leaf turns rec within free l.False (λ at. tree.False at)
  literal_of l.KeywordSelf = allow (in_object within) (primaries.leaf turns rec within free l.KeywordSelf (λ at. tree.KeywordSelf at))
  literal_of other = refuse

  -- a name, or a word that passes values on
  abbrev pub name_of : TokenLook → Reader Operand
  name_of l.InstanceVariable = allow (in_object within) (primaries.variable turns rec within free)
  name_of l.Ident = primaries.name turns rec within free
  name_of l.Yield = allow within.method (primaries.passed_on turns rec within free l.Yield yielded)
  name_of l.Super = allow within.method (primaries.passed_on turns rec within free l.Super above)
  name_of other = refuse

  abbrev pub opening_by : TokenLook → Reader Tree
  opening_by look s = cond (is_opening look) (opening_of look s) (compound_by look s)

  abbrev pub literal_by : TokenLook → Reader Tree
  literal_by look s = cond (is_literal look) (literal_of look s) (opening_by look s)

  abbrev pub name_by : TokenLook → Reader Operand
  name_by look s = cond (is_name look) (name_of look s) (all_of (literal_by look) s)
