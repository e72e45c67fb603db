-- Readers of types are steady.
use Rattle.std.proofs.Common.{ℕ, suc, Bool, true, false, Option, Some, None}
use Rattle.cr_syntax.specs.declared.look.TokenLook.TheVariants as l
use Rattle.cr_grammar.specs.declared.tree.Tree.{Tree}
use Rattle.cr_grammar.specs.declared.wanted.Wanted.{Wanted}
use Rattle.cr_grammar.specs.declared.wanted.Wanted.TheVariants.{Written}
use Rattle.cr_readers.specs.Reader.{Reader, seen, tight_seen}
use Rattle.cr_readers.specs.Types as types
use Rattle.cr_steady.specs.Steady.{Steady}
use Rattle.cr_steady.proofs.Steps.{fewer, after, first, steady_pure, steady_take, steady_choose, steady_grow, steady_part, steady_beside, many_in}
use Rattle.cr_steady.proofs.Lists.{steady_optional, steady_listed, steady_parenthesized}
use Rattle.cr_steady.proofs.Claims.{Given}

module _ {turns n : ℕ} {rec : Wanted → Reader Tree} (given : Given turns n rec) where
  steady_path : Steady 1 (suc n) (types.path turns rec)
  steady_path =
      first steady_take (λ name. after (steady_grow name.at)
      (λ _. after (many_in (seen l.ColonColon) turns n given.most (after steady_take (λ _. steady_take))) (λ more. steady_pure)))

  type_arguments : (with_arguments : Bool) → Steady 0 n (types.type_arguments turns rec with_arguments)
  type_arguments true =
      steady_choose (tight_seen l.OpenParenthesis) (steady_parenthesized given.most (steady_listed given.most (steady_part (given.steady (Written true))))) steady_pure
  type_arguments false = steady_pure

  pub steady_atom : (with_arguments : Bool) → Steady 1 (suc n) (types.atom turns rec with_arguments)
  steady_atom with_arguments =
      first steady_path (λ path. after (type_arguments with_arguments)
      (λ arguments. after (steady_optional (tight_seen l.Question) steady_take) (λ question. steady_pure)))

  question_node : (question : Option ℕ) → Steady 0 n (types.question_node turns rec question)
  question_node None = steady_pure
  question_node (Some at) = steady_beside (steady_grow at)

  type_atom : (with_arguments : Bool) → Steady 1 (suc n) (types.type_atom turns rec with_arguments)
  type_atom with_arguments = first (steady_atom with_arguments) (λ atom. after (question_node atom.question) (λ _. steady_pure))

  pub steady_written : (with_arguments : Bool) → Steady 1 (suc n) (types.written turns rec with_arguments)
  steady_written with_arguments =
      first (type_atom with_arguments)
      (λ atom. after (many_in (seen l.Pipe) turns n given.most (after steady_take (λ _. steady_beside (fewer (type_atom with_arguments))))) (λ more. steady_pure))
