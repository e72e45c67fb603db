-- Readers of operators and their operands.
use Rattle.std.specs.Prelude.{ℕ, Bool, true, false, ◌&&◌, Option, Some, None}
use Rattle.cr_syntax.specs.declared.look.TokenLook.{TokenLook}
use Rattle.cr_syntax.specs.declared.look.TokenLook.TheVariants as l
use Rattle.cr_syntax.specs.declared.token.Token.{Token}
use Rattle.cr_syntax.specs.Look.{look_of}
use Rattle.cr_grammar.specs.declared.operator.Binary.{Binary}
use Rattle.cr_grammar.specs.declared.operator.Unary.TheVariants as prefix
use Rattle.cr_grammar.specs.declared.tree.Tree.{Tree}
use Rattle.cr_grammar.specs.declared.tree.Tree.TheVariants as tree
use Rattle.cr_grammar.specs.declared.within.Within.{Within}
use Rattle.cr_grammar.specs.Operators as o
use Rattle.cr_grammar.specs.declared.wanted.Wanted.{Wanted}
use Rattle.cr_grammar.specs.declared.wanted.Wanted.TheVariants.{Unary}
use Rattle.cr_readers.specs.declared.operand.Operator.{Operator}
use Rattle.cr_readers.specs.Reader.{Reader, Test, ◌>>=◌, ◌>>◌, pure, seen, take, expect, choose, only, with_last, repeated, grow, wrap, part}
use Rattle.cr_readers.specs.Lists.{separators}
use Rattle.cr_readers.specs.Goes.{is_operator}
use Rattle.cr_readers.specs.Operand.{whole}
use Rattle.cr_readers.specs.Links.{postfix}

abbrev pub operator_of : Token → Option Binary → Option Operator
operator_of t None = None
operator_of t (Some operator) = Some (record { at = t.span.first; operator = operator; spaced_minus = o.is_minus (look_of t.kind) && t.spaced })

abbrev pub is_spaced : Test
is_spaced found spaced = spaced

-- where a sign would begin an argument, the next token is spaced
abbrev pub no_sign : Bool → Reader (Unit {0})
no_sign true = only is_spaced (pure tt)
no_sign false = pure tt

module _ (turns : ℕ) (rec : Wanted → Reader Tree) (within : Within) (free : Bool) where
  -- an operator of this table and its operand, behind an operand that ends with a token of this look
  abbrev pub operation : (TokenLook → Option Binary) → Reader (Tree × TokenLook) → Tree × TokenLook → Reader (Tree × TokenLook)
  operation table p x = do
    found ← take (λ t. operator_of t (table (look_of t.kind)))
    wrap found.at
    no_sign (o.is_name x.1 && found.spaced_minus)
    separators turns
    y ← part p
    pure (tree.Binary found.at found.operator x.0 y.0, y.1)

  -- operators of this table and their operands, to the left
  abbrev pub operations : (TokenLook → Option Binary) → Reader (Tree × TokenLook) → Tree × TokenLook → Reader (Tree × TokenLook)
  operations table p = repeated (is_operator table) (operation table p) turns

  abbrev pub unary_of : TokenLook → (ℕ → Tree → Tree) → Reader Tree
  unary_of look make = do
    at ← expect look
    grow at
    x ← part (rec (Unary within free))
    pure (make at x)

  -- unary = ( "!" | "-" ) unary | postfix
  abbrev pub unary : Reader Tree
  unary =
      choose (seen l.Bang) (unary_of l.Bang (λ at x. tree.Unary at prefix.Not x))
      (choose (seen l.Minus) (unary_of l.Minus (λ at x. tree.Unary at prefix.Negate x))
      (postfix turns rec within free >>= λ x. pure (whole x)))

  -- ---- each level, behind its first operand and as a whole

  abbrev pub prod_from : Tree × TokenLook → Reader (Tree × TokenLook)
  prod_from = operations o.prod_operator (with_last unary)

  abbrev pub prod : Reader (Tree × TokenLook)
  prod = with_last unary >>= prod_from

  abbrev pub sum_from : Tree × TokenLook → Reader (Tree × TokenLook)
  sum_from x = prod_from x >>= operations o.sum_operator prod

  abbrev pub sum : Reader (Tree × TokenLook)
  sum = with_last unary >>= sum_from

  abbrev pub shift_from : Tree × TokenLook → Reader (Tree × TokenLook)
  shift_from x = sum_from x >>= operations o.shift_operator sum

  abbrev pub shift : Reader (Tree × TokenLook)
  shift = with_last unary >>= shift_from

  -- one comparison at most
  abbrev pub comparison : Tree × TokenLook → Reader (Tree × TokenLook)
  comparison x = choose (is_operator o.cmp_operator) (operation o.cmp_operator shift x) (pure x)

  abbrev pub cmp_from : Tree × TokenLook → Reader (Tree × TokenLook)
  cmp_from x = shift_from x >>= comparison

  abbrev pub cmp : Reader (Tree × TokenLook)
  cmp = with_last unary >>= cmp_from

  abbrev pub and_from : Tree × TokenLook → Reader (Tree × TokenLook)
  and_from x = cmp_from x >>= operations o.and_operator cmp

  abbrev pub and : Reader (Tree × TokenLook)
  and = with_last unary >>= and_from

  abbrev pub or_from : Tree × TokenLook → Reader (Tree × TokenLook)
  or_from x = and_from x >>= operations o.or_operator and

  abbrev pub or : Reader Tree
  or = with_last unary >>= λ x. or_from x >>= λ y. pure y.0
