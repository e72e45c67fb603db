-- The levels of operators, by number: what goes on behind an operand, and what an operator takes for its operand.
use Rattle.std.specs.Prelude.{ℕ, ◌+◌, ◌≡◌, Bool, true, false, cond, Option, Some, None}
use Rattle.cr_syntax.specs.declared.look.TokenLook.{TokenLook}
use Rattle.cr_grammar.specs.declared.tree.Tree.{Tree}
use Rattle.cr_grammar.specs.declared.within.Within.{Within}
use Rattle.cr_grammar.specs.declared.wanted.Wanted.{Wanted}
use Rattle.cr_readers.specs.Reader.{Reader, ◌>>=◌, pure, with_last}
use Rattle.cr_readers.specs.Operations as o
use Rattle.cr_words.specs.declared.operators.Level.{Level}
use Rattle.cr_words.specs.declared.operators.Level.TheVariants as v
use Rattle.cr_words.specs.Tables.{table}

-- the next tighter level; the operands of the tightest are no operations
abbrev pub tighter : Level → Option Level
tighter v.Or = Some v.And
tighter v.And = Some v.Cmp
tighter v.Cmp = Some v.Shift
tighter v.Shift = Some v.Sum
tighter v.Sum = Some v.Prod
tighter v.Prod = None

-- how many levels are tighter
abbrev pub rank : Level → ℕ
rank v.Or = 5
rank v.And = 4
rank v.Cmp = 3
rank v.Shift = 2
rank v.Sum = 1
rank v.Prod = 0

abbrev pub HasRankBelow : Option Level → ℕ → Type 0
HasRankBelow None rank_above = Unit {0}
HasRankBelow (Some level) rank_above = rank level + 1 ≡ rank_above

abbrev pub is_comparison : Level → Bool
is_comparison v.Cmp = true
is_comparison other = false

module _ (turns : ℕ) (rec : Wanted → Reader Tree) (within : Within) (free : Bool) where
  -- what goes on behind an operand, up to this level
  abbrev pub behind : Level → Tree × TokenLook → Reader (Tree × TokenLook)
  behind v.Or = o.or_from turns rec within free
  behind v.And = o.and_from turns rec within free
  behind v.Cmp = o.cmp_from turns rec within free
  behind v.Shift = o.shift_from turns rec within free
  behind v.Sum = o.sum_from turns rec within free
  behind v.Prod = o.prod_from turns rec within free

  abbrev pub behind_some : Option Level → Tree × TokenLook → Reader (Tree × TokenLook)
  behind_some None = pure
  behind_some (Some level) = behind level

  -- an operand, with the operations up to this level
  abbrev pub operand_of : Option Level → Reader (Tree × TokenLook)
  operand_of None = with_last (o.unary turns rec within free)
  operand_of (Some level) = with_last (o.unary turns rec within free) >>= behind level

  -- an operator of this level and its operand
  abbrev pub operation : Level → Tree × TokenLook → Reader (Tree × TokenLook)
  operation level = o.operation turns rec within free (table level) (operand_of (tighter level))

  abbrev pub operations : Level → Tree × TokenLook → Reader (Tree × TokenLook)
  operations level = o.operations turns rec within free (table level) (operand_of (tighter level))

  -- what goes on at this level alone
  abbrev pub at_level : Level → Tree × TokenLook → Reader (Tree × TokenLook)
  at_level level x = cond (is_comparison level) (o.comparison turns rec within free x) (operations level x)
