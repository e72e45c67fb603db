-- Readers of `if`, `while`, `case` and `select` are steady.
use Rattle.std.proofs.Common.{ℕ, suc, Bool, true, false}
use Rattle.cr_syntax.specs.declared.look.TokenLook.{TokenLook}
use Rattle.cr_syntax.specs.declared.look.TokenLook.TheVariants as l
use Rattle.cr_grammar.specs.declared.tree.Tree.{Tree}
use Rattle.cr_grammar.specs.declared.within.Within.{Within}
use Rattle.cr_grammar.specs.declared.wanted.Wanted.{Wanted}
use Rattle.cr_grammar.specs.declared.wanted.Wanted.TheVariants.{Written, When, Simple}
use Rattle.cr_grammar.specs.Wanted.{in_loop}
use Rattle.cr_readers.specs.Reader.{Reader, seen, part}
use Rattle.cr_readers.specs.Compounds as compounds
use Rattle.cr_steady.specs.Steady.{Steady}
use Rattle.cr_steady.proofs.Steps.{after, led, first, steady_pure, steady_take, steady_grow, steady_part, many_in}
use Rattle.cr_steady.proofs.Lists.{steady_separators, steady_listed}
use Rattle.cr_steady.proofs.Claims.{Given}
use Rattle.cr_steady.proofs.Bodies.{steady_body, steady_then, steady_otherwise}

module _ {turns n : ℕ} {rec : Wanted → Reader Tree} (given : Given turns n rec) where
  some_of : (word : TokenLook) {p : Reader Tree} → Steady 1 n p → Steady 0 n (compounds.some_of turns word p)
  some_of word sp = after sp (λ x. after (many_in (seen word) turns n given.most sp) (λ xs. steady_pure))

  module _ (within : Within) (free : Bool) where
    condition : Steady 1 n (part (rec (Simple within)))
    condition = steady_part (given.steady (Simple within))

    elsif : Steady 1 n (compounds.elsif turns rec within free)
    elsif =
        led steady_take (λ at. after condition (λ condition. after (steady_then given)
        (λ _. after (steady_body given within) (λ body. steady_pure))))

    branches : (unless : Bool) → Steady 0 n (compounds.branches turns rec within free unless)
    branches true = steady_pure
    branches false = many_in (seen l.Elsif) turns n given.most elsif

    pub steady_conditional : (word : TokenLook) (unless : Bool) → Steady 1 (suc n) (compounds.conditional turns rec within free word unless)
    steady_conditional word unless =
        first steady_take (λ at. after (steady_grow at) (λ _. after condition (λ condition. after (steady_then given)
        (λ _. after (steady_body given within) (λ body. after (branches unless) (λ others. after (steady_otherwise given within)
        (λ otherwise. after steady_take (λ _. steady_pure))))))))

    pub steady_looping : (word : TokenLook) (until : Bool) → Steady 1 (suc n) (compounds.looping turns rec within free word until)
    steady_looping word until =
        first steady_take (λ at. after (steady_grow at) (λ _. after (steady_part (given.steady (Simple (in_loop within))))
        (λ condition. after steady_take (λ _. after (steady_body given (in_loop within)) (λ body. after steady_take (λ _. steady_pure))))))

    in_clause : Steady 1 n (compounds.in_clause turns rec within free)
    in_clause =
        led steady_take (λ at. after (steady_listed given.most (steady_part (given.steady (Written false)))) (λ types. after (steady_then given)
        (λ _. after (steady_body given within) (λ body. steady_pure))))

    pub steady_cases : Steady 1 (suc n) (compounds.cases turns rec within free)
    steady_cases =
        first steady_take (λ at. after (steady_grow at) (λ _. after condition (λ value. after steady_take (λ _. after (steady_separators given.most)
        (λ _. after (some_of l.In in_clause) (λ clauses. after steady_take (λ _. steady_pure)))))))

    pub steady_select : Steady 1 (suc n) (compounds.select turns rec within free)
    steady_select =
        first steady_take (λ at. after (steady_grow at) (λ _. after steady_take (λ _. after (steady_separators given.most)
        (λ _. after (some_of l.When (given.steady (When within free))) (λ clauses. after (steady_otherwise given within)
        (λ otherwise. after steady_take (λ _. steady_pure)))))))
