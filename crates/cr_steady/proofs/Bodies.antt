-- Readers of bodies, of blocks and of arguments are steady.
use Rattle.std.proofs.Common.{ℕ, Bool, true}
use Rattle.cr_syntax.specs.declared.look.TokenLook.TheVariants as l
use Rattle.cr_grammar.specs.declared.tree.Tree.{Tree}
use Rattle.cr_grammar.specs.declared.within.Within.{Within}
use Rattle.cr_grammar.specs.declared.wanted.Wanted.{Wanted}
use Rattle.cr_grammar.specs.declared.wanted.Wanted.TheVariants.{Or, Stmt}
use Rattle.cr_grammar.specs.Wanted.{in_block}
use Rattle.cr_readers.specs.Reader.{Reader, seen, tight_seen}
use Rattle.cr_readers.specs.Goes.{begins_line, begins_block}
use Rattle.cr_readers.specs.Bodies as bodies
use Rattle.cr_steady.specs.Steady.{Steady}
use Rattle.cr_steady.proofs.Steps.{after, led, steady_pure, steady_take, steady_choose, steady_allow, steady_grow, steady_part}
use Rattle.cr_steady.proofs.Lists.{steady_optional, steady_unless_closed, steady_separators, steady_listed, steady_parenthesized, steady_stmts}
use Rattle.cr_steady.proofs.Claims.{Given}

module _ {turns n : ℕ} {rec : Wanted → Reader Tree} (given : Given turns n rec) where
  pub steady_body : (within : Within) → Steady 0 n (bodies.body turns rec within)
  steady_body within = steady_stmts (begins_line within) given.most (steady_part (given.steady (Stmt within)))

  pub steady_then : Steady 1 n (bodies.then turns rec)
  steady_then = steady_choose (seen l.Newline) steady_take steady_take

  pub steady_otherwise : (within : Within) → Steady 0 n (bodies.otherwise turns rec within)
  steady_otherwise within = steady_optional (seen l.Else) (after steady_take (λ _. steady_body within))

  block_parameter : Steady 1 n (bodies.block_parameter turns rec)
  block_parameter = led steady_take (λ name. after (steady_grow name.at) (λ _. steady_pure))

  pars : Steady 0 n (bodies.pars turns rec)
  pars = steady_choose (seen l.Pipe) (after steady_take (λ _. after (steady_listed given.most (steady_part block_parameter)) (λ names. after steady_take (λ _. steady_pure)))) steady_pure

  pub steady_doblock : (within : Within) → Steady 0 n (bodies.doblock turns rec within)
  steady_doblock within = after steady_take (λ _. after pars (λ parameters. after (steady_body (in_block within)) (λ body. after steady_take (λ _. steady_pure))))

  braces : (within : Within) → Steady 0 n (bodies.braces turns rec within)
  braces within =
      after steady_take (λ _. after (steady_separators given.most) (λ _. after pars
      (λ parameters. after (steady_body (in_block within)) (λ body. after steady_take (λ _. steady_pure)))))

  pub steady_maybe_block : (within : Within) (free : Bool) → Steady 0 n (bodies.maybe_block turns rec within free)
  steady_maybe_block within free = steady_optional (begins_block free) (steady_choose (seen l.OpenBrace) (braces within) (steady_doblock within))

  pub steady_plain : (within : Within) (free : Bool) → Steady 0 n (bodies.plain turns rec within free)
  steady_plain within free =
      steady_choose (seen l.OpenBrace)
      (after steady_take (λ _. after (steady_body (in_block within)) (λ body. after steady_take (λ _. steady_pure))))
      (steady_allow free (after steady_take (λ _. after (steady_body (in_block within)) (λ body. after steady_take (λ _. steady_pure)))))

  pub steady_inside : (within : Within) → Steady 0 n (bodies.inside turns rec within)
  steady_inside within = steady_listed given.most (steady_part (given.steady (Or within true)))

  enclosed : (within : Within) → Steady 0 n (bodies.enclosed turns rec within)
  enclosed within = steady_parenthesized given.most (steady_unless_closed l.CloseParenthesis (steady_inside within))

  pub steady_arguments : (within : Within) → Steady 0 n (bodies.arguments turns rec within)
  steady_arguments within = steady_optional (tight_seen l.OpenParenthesis) (enclosed within)
