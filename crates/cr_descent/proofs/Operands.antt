-- The grammar of a postfix, with what is read kept apart by what it may become.
use Rattle.std.specs.Prelude.{ℕ, Bool, true, false, List, [], Option}
use Rattle.cr_syntax.specs.declared.look.TokenLook.{TokenLook}
use Rattle.cr_syntax.specs.declared.look.TokenLook.TheVariants as l
use Rattle.cr_grammar.specs.declared.tree.Tree.{Tree}
use Rattle.cr_grammar.specs.declared.tree.Tree.TheVariants as tree
use Rattle.cr_grammar.specs.declared.within.Within.{Within}
use Rattle.cr_grammar.specs.Forms.{Form, nothing, ◌>>=◌, ◌<|>◌, where_true, maybe, or_none, many, repeated, word, ident, instance_variable, tight, parenthesized, ◌>>◌}
use Rattle.cr_grammar.specs.declared.wanted.Wanted.{Wanted}
use Rattle.cr_grammar.specs.declared.wanted.Wanted.TheVariants.{Stmt}
use Rattle.cr_grammar.specs.Wanted.{in_object}
use Rattle.cr_grammar.specs.Expressions as ex
use Rattle.cr_readers.specs.declared.operand.Operand.{Operand}
use Rattle.cr_readers.specs.declared.operand.Operand.TheVariants.{Variable, Whole}
use Rattle.cr_readers.specs.Operand.{whole, named, linked, indexed, yielded, above}
use Rattle.cr_exact.proofs.Tokens.{Led}

module _ (S : Wanted → Form Tree) (within : Within) (free : Bool) where
  -- [ tight "(" [ args ] ")" ], and whether it is there
  abbrev pub arguments : Form (Option (List Tree))
  arguments = maybe (tight (parenthesized (or_none (ex.inside S within free))))

  abbrev pub name : Form Operand
  name = do
    name ← ident
    arguments ← arguments
    block ← maybe (ex.block S within free)
    nothing (named name arguments block)

  abbrev pub passed_on : TokenLook → (ℕ → Option (List Tree) → Operand) → Form Operand
  passed_on look make = do
    at ← word look
    arguments ← arguments
    nothing (make at arguments)

  abbrev pub variable : Form Operand
  variable = do
    name ← instance_variable
    nothing (Variable name)

  abbrev pub all_of : Form Tree → Form Operand
  all_of R = do
    x ← R
    nothing (Whole x)

  -- what stands at the head, by its first token
  abbrev pub primary_by : TokenLook → Form Operand
  primary_by l.Int32 = all_of (ex.number S within free)
  primary_by l.Int64 = all_of (ex.number S within free)
  primary_by l.Text = all_of (ex.text S within free)
  primary_by l.TextFirst = all_of (ex.text S within free)
  primary_by l.Nil = all_of (ex.leaf S within free l.Nil (λ at. tree.Nil at))
  primary_by l.True = all_of (ex.leaf S within free l.True (λ at. tree.True at))
  primary_by l.False = all_of (ex.leaf S within free l.False (λ at. tree.False at))
  primary_by l.KeywordSelf = where_true (in_object within) (all_of (ex.leaf S within free l.KeywordSelf (λ at. tree.KeywordSelf at)))
  primary_by l.InstanceVariable = where_true (in_object within) variable
  primary_by l.Ident = name
  primary_by l.Yield = where_true within.method (passed_on l.Yield yielded)
  primary_by l.Super = where_true within.method (passed_on l.Super above)
  primary_by l.Constant = all_of (ex.made S within free <|> ex.pause S within free)
  primary_by l.OpenBracket = all_of (ex.array S within free)
  primary_by l.OpenBrace = all_of (ex.hash S within free)
  primary_by l.OpenParenthesis = all_of (parenthesized (S (Stmt within)))
  primary_by l.Spawn = all_of (ex.spawned S within free)
  primary_by l.If = all_of (ex.conditional_of S within free l.If false (many (ex.elsif S within free)))
  primary_by l.Unless = all_of (ex.conditional_of S within free l.Unless true (nothing []))
  primary_by l.While = all_of (ex.looping_of S within free l.While false)
  primary_by l.Until = all_of (ex.looping_of S within free l.Until true)
  primary_by l.Case = all_of (ex.cases S within free)
  primary_by l.Select = all_of (ex.select S within free)
  primary_by other = λ w x. ⊥

  abbrev pub primary : Form Operand
  primary w x = (look : TokenLook) × Led look w × primary_by look w x

  -- ---- links

  abbrev pub called : Tree → Form Operand
  called x = do
    word l.Dot
    name ← ident
    arguments ← arguments
    block ← maybe (ex.block S within free)
    nothing (linked x name arguments block)

  abbrev pub at_index : Tree → Form Operand
  at_index x = do
    found ← ex.indices S within free
    question ← maybe (tight (word l.Question))
    nothing (indexed found.0 x found.1 question)

  abbrev pub link : Operand → Form Operand
  link x = called (whole x) <|> at_index (whole x) <|> all_of (ex.asked S within free (whole x)) <|> all_of (ex.asked_nil S within free (whole x)) <|> all_of (ex.spawned_in S within free (whole x))

  abbrev pub postfix : Form Operand
  postfix = primary >>= repeated link
