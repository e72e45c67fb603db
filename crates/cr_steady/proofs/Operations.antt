-- Readers of operators and their operands are steady.
use Rattle.std.specs.Prelude.{◌&&◌}
use Rattle.std.proofs.Common.{ℕ, suc, Bool, true, false, Option}
use Rattle.cr_syntax.specs.declared.look.TokenLook.{TokenLook}
use Rattle.cr_syntax.specs.declared.look.TokenLook.TheVariants as l
use Rattle.cr_grammar.specs.declared.operator.Binary.{Binary}
use Rattle.cr_grammar.specs.declared.operator.Unary.TheVariants as prefix
use Rattle.cr_grammar.specs.declared.tree.Tree.{Tree}
use Rattle.cr_grammar.specs.declared.tree.Tree.TheVariants as tree
use Rattle.cr_grammar.specs.declared.within.Within.{Within}
use Rattle.cr_grammar.specs.declared.wanted.Wanted.{Wanted}
use Rattle.cr_grammar.specs.declared.wanted.Wanted.TheVariants.{Unary}
use Rattle.cr_grammar.specs.Operators as o
use Rattle.cr_readers.specs.Reader.{Reader, seen, with_last}
use Rattle.cr_readers.specs.Goes.{is_operator}
use Rattle.cr_readers.specs.Operations as operations
use Rattle.cr_steady.specs.Steady.{Steady}
use Rattle.cr_steady.proofs.Steps.{weak, fewer, after, led, first, steady_pure, steady_refuse, steady_take, steady_choose, steady_with_last, steady_grow, steady_wrap, steady_part, repeated_in}
use Rattle.cr_steady.proofs.Lists.{steady_separators}
use Rattle.cr_steady.proofs.Claims.{Given}
use Rattle.cr_steady.proofs.Links.{steady_postfix}

no_sign : {n : ℕ} (spaced : Bool) → Steady 0 n (operations.no_sign spaced)
no_sign true = steady_choose operations.is_spaced steady_pure steady_refuse
no_sign false = steady_pure

module _ {turns n : ℕ} {rec : Wanted → Reader Tree} (given : Given turns n rec) (within : Within) (free : Bool) where
  module _ (table : TokenLook → Option Binary) {p : Reader (Tree × TokenLook)} (sp : Steady 1 n p) where
    operation : (x : Tree × TokenLook) → Steady 1 n (operations.operation turns rec within free table p x)
    operation x =
        led steady_take (λ found. after (steady_wrap found.at) (λ _. after (no_sign (o.is_name x.1 && found.spaced_minus))
        (λ _. after (steady_separators given.most) (λ _. after (steady_part sp) (λ y. steady_pure)))))

    operations_of : (x : Tree × TokenLook) → Steady 0 n (operations.operations turns rec within free table p x)
    operations_of x = repeated_in (is_operator table) turns n x given.most operation

  unary_of : (word : TokenLook) (make : ℕ → Tree → Tree) → Steady 1 (suc n) (operations.unary_of turns rec within free word make)
  unary_of word make = first steady_take (λ at. after (steady_grow at) (λ _. after (steady_part (given.steady (Unary within free))) (λ x. steady_pure)))

  pub steady_unary : Steady 1 (suc n) (operations.unary turns rec within free)
  steady_unary =
      steady_choose (seen l.Bang) (unary_of l.Bang (λ at x. tree.Unary at prefix.Not x))
      (steady_choose (seen l.Minus) (unary_of l.Minus (λ at x. tree.Unary at prefix.Negate x))
      (led (steady_postfix given within free) (λ x. steady_pure)))

  operand : Steady 1 (suc n) (with_last (operations.unary turns rec within free))
  operand = steady_with_last steady_unary

  -- ---- each level, behind its first operand and as a whole

  prod_from : (x : Tree × TokenLook) → Steady 0 n (operations.prod_from turns rec within free x)
  prod_from x = operations_of o.prod_operator (fewer operand) x

  prod : Steady 1 (suc n) (operations.prod turns rec within free)
  prod = first operand prod_from

  sum_from : (x : Tree × TokenLook) → Steady 0 n (operations.sum_from turns rec within free x)
  sum_from x = after (prod_from x) (operations_of o.sum_operator (fewer prod))

  sum : Steady 1 (suc n) (operations.sum turns rec within free)
  sum = first operand sum_from

  shift_from : (x : Tree × TokenLook) → Steady 0 n (operations.shift_from turns rec within free x)
  shift_from x = after (sum_from x) (operations_of o.shift_operator (fewer sum))

  shift : Steady 1 (suc n) (operations.shift turns rec within free)
  shift = first operand shift_from

  comparison : (x : Tree × TokenLook) → Steady 0 n (operations.comparison turns rec within free x)
  comparison x = steady_choose (is_operator o.cmp_operator) (weak (operation o.cmp_operator (fewer shift) x)) steady_pure

  cmp_from : (x : Tree × TokenLook) → Steady 0 n (operations.cmp_from turns rec within free x)
  cmp_from x = after (shift_from x) comparison

  cmp : Steady 1 (suc n) (operations.cmp turns rec within free)
  cmp = first operand cmp_from

  and_from : (x : Tree × TokenLook) → Steady 0 n (operations.and_from turns rec within free x)
  and_from x = after (cmp_from x) (operations_of o.and_operator (fewer cmp))

  and : Steady 1 (suc n) (operations.and turns rec within free)
  and = first operand and_from

  pub steady_or_from : (x : Tree × TokenLook) → Steady 0 n (operations.or_from turns rec within free x)
  steady_or_from x = after (and_from x) (operations_of o.or_operator (fewer and))

  pub steady_or : Steady 1 (suc n) (operations.or turns rec within free)
  steady_or = first operand (λ x. after (steady_or_from x) (λ y. steady_pure))
