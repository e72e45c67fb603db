-- Readers of separators and of lists are steady.
use Rattle.std.proofs.Common.{◌≤◌, ℕ, zero, suc, List, arith}
use Rattle.cr_syntax.specs.declared.look.TokenLook.{TokenLook}
use Rattle.cr_syntax.specs.declared.look.TokenLook.TheVariants as l
use Rattle.cr_readers.specs.Reader.{Reader, Test, seen}
use Rattle.cr_readers.specs.Lists.{optional, unless_closed, separators, comma, listed, parenthesized, lines, stmts}
use Rattle.cr_steady.specs.Steady.{Steady}
use Rattle.cr_steady.proofs.Steps.{weak, fewer, nowhere, after, first, steady_pure, steady_take, steady_choose, many_in}

pub steady_optional : {A : Type 0} {k n : ℕ} {p : Reader A} (test : Test) → Steady k n p → Steady 0 n (optional test p)
steady_optional test sp = steady_choose test (after sp (λ x. steady_pure)) steady_pure

pub steady_unless_closed : {A : Type 0} {k n : ℕ} {p : Reader (List A)} (close : TokenLook) → Steady k n p → Steady 0 n (unless_closed close p)
steady_unless_closed close sp = steady_choose (seen close) steady_pure (weak sp)

-- with turns for so many tokens
module _ {turns n : ℕ} (most : n ≤ turns) where
  pub steady_separators : Steady 0 n (separators turns)
  steady_separators = after (many_in (seen l.Newline) turns n most steady_take) (λ _. steady_pure)

  steady_comma : Steady 0 n (comma turns)
  steady_comma = after steady_take (λ _. steady_separators)

  pub steady_listed : {A : Type 0} {p : Reader A} → Steady 1 n p → Steady 0 n (listed turns p)
  steady_listed sp = after sp (λ x. after (many_in (seen l.Comma) turns n most (after steady_comma (λ _. sp))) (λ xs. steady_pure))

  pub steady_parenthesized : {A : Type 0} {k : ℕ} {p : Reader A} → Steady k n p → Steady 0 n (parenthesized turns p)
  steady_parenthesized sp =
      after steady_take (λ _. after steady_separators (λ _. after sp (λ x. after steady_separators (λ _. after steady_take (λ _. steady_pure)))))

lines_in : {A : Type 0} {p : Reader A} (begins : Test) (turns left n : ℕ) → n ≤ turns → n ≤ left → Steady 1 n p → Steady 0 n (lines turns begins p left)
lines_in begins turns zero n most enough sp = record { ends = λ s below. absurd (omega (arith, enough, below)) }
lines_in {p = p} begins turns (suc left) zero most enough sp = nowhere 0 (lines turns begins p (suc left))
lines_in begins turns (suc left) (suc n) most enough sp =
    let fits : n ≤ turns = omega (arith, most) in
    let behind = after steady_take (λ _. after (steady_separators fits) (λ _. lines_in begins turns left n fits (omega (arith, enough)) (fewer sp))) in
    steady_choose begins (weak (first sp (λ x. after (steady_choose (seen l.Newline) behind steady_pure) (λ xs. steady_pure)))) steady_pure

pub steady_stmts : {A : Type 0} {p : Reader A} {turns n : ℕ} (begins : Test) → n ≤ turns → Steady 1 n p → Steady 0 n (stmts turns begins p)
steady_stmts {turns = turns} {n = n} begins most sp = after (steady_separators most) (λ _. lines_in begins turns turns n most most sp)
