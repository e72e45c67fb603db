-- Readers of statements are steady.
use Rattle.std.specs.Prelude.{not, ◌&&◌, ◌||◌}
use Rattle.std.proofs.Common.{ℕ, suc, Bool, true, false, List, Option, Some, None}
use Rattle.cr_syntax.specs.declared.look.TokenLook.{TokenLook}
use Rattle.cr_syntax.specs.declared.look.TokenLook.TheVariants as l
use Rattle.cr_grammar.specs.declared.operator.Assignment.{Assignment}
use Rattle.cr_grammar.specs.declared.tree.Tree.{Tree}
use Rattle.cr_grammar.specs.declared.tree.Tree.TheVariants as tree
use Rattle.cr_grammar.specs.declared.within.Within.{Within}
use Rattle.cr_grammar.specs.declared.wanted.Wanted.{Wanted}
use Rattle.cr_grammar.specs.declared.wanted.Wanted.TheVariants.{Or, Simple}
use Rattle.cr_grammar.specs.Operators as o
use Rattle.cr_readers.specs.declared.operand.Operand.{Operand}
use Rattle.cr_readers.specs.declared.operand.Operand.TheVariants.{Name, Field, Element, Variable, Yielding, Above, Passing, Whole}
use Rattle.cr_readers.specs.Operand.{whole}
use Rattle.cr_readers.specs.Reader.{Reader, seen}
use Rattle.cr_readers.specs.Goes.{begins_left}
use Rattle.cr_readers.specs.Statements as statements
use Rattle.cr_steady.specs.Steady.{Steady}
use Rattle.cr_steady.proofs.Steps.{fewer, after, first, steady_pure, steady_take, steady_cond, steady_choose, steady_allow, steady_by_look, steady_here, steady_with_last, steady_grow, steady_wrap, steady_part}
use Rattle.cr_steady.proofs.Lists.{steady_optional, steady_listed}
use Rattle.cr_steady.proofs.Claims.{Given}
use Rattle.cr_steady.proofs.Bodies.{steady_doblock}
use Rattle.cr_steady.proofs.Links.{steady_postfix}
use Rattle.cr_steady.proofs.Operations.{steady_or_from, steady_or}

module _ {turns n : ℕ} {rec : Wanted → Reader Tree} (given : Given turns n rec) (within : Within) where
  operation_behind : (x : Tree × TokenLook) → Steady 0 n (statements.operation_behind turns rec within x)
  operation_behind x = after (steady_or_from given within true x) (λ y. steady_pure)

  assignment : (at : ℕ) (target : Tree) (table : TokenLook → Option Assignment) → Steady 0 n (statements.assignment turns rec within at target table)
  assignment at target table = after steady_take (λ found. after (steady_wrap found.0) (λ _. after (steady_part (given.steady (Simple within))) (λ value. steady_pure)))

  bare_arguments : Steady 0 n (statements.bare_arguments turns rec within)
  bare_arguments = steady_listed given.most (steady_part (given.steady (Or within false)))

  command : (make : List Tree → Option Tree → Tree) → Steady 0 n (statements.command turns rec within make)
  command make = after bare_arguments (λ arguments. after (steady_optional (seen l.Do) (steady_doblock given within)) (λ block. steady_pure))

  passing_on : (make : List Tree → Tree) → Steady 0 n (statements.passing_on turns rec within make)
  passing_on make = after bare_arguments (λ arguments. steady_pure)

  unless_operation : {p : Reader Tree} → Steady 0 n p → (x : Tree × TokenLook) → Steady 0 n (statements.unless_operation turns rec within p x)
  unless_operation sp x = record { ends = λ s below. (steady_cond (o.begins_argument s.rest) sp (operation_behind x)).ends s below }

  behind : (at : ℕ) (x : Operand × TokenLook) → Steady 0 n (statements.behind turns rec within at x)
  behind at (Name name, seen) =
      steady_choose (statements.is_assigning o.any_assignment) (assignment at (whole (Name name)) o.any_assignment)
      (unless_operation (command (λ arguments block. tree.Call name.at None name.text arguments block)) (whole (Name name), l.Ident))
  behind at (Field receiver name, seen) =
      steady_choose (statements.is_assigning o.field_assignment) (assignment at (whole (Field receiver name)) o.field_assignment)
      (unless_operation (command (λ arguments block. tree.Call name.at (Some receiver) name.text arguments block)) (whole (Field receiver name), l.Ident))
  behind at (Element place receiver arguments, seen) =
      steady_choose (statements.is_assigning o.field_assignment) (assignment at (whole (Element place receiver arguments)) o.field_assignment)
      (operation_behind (whole (Element place receiver arguments), seen))
  behind at (Variable name, seen) =
      steady_choose (statements.is_assigning o.any_assignment) (assignment at (whole (Variable name)) o.any_assignment) (operation_behind (whole (Variable name), seen))
  behind at (Yielding place, seen) = unless_operation (passing_on (λ arguments. tree.Yield place arguments)) (whole (Yielding place), l.Yield)
  behind at (Above place, seen) = unless_operation (passing_on (λ arguments. tree.Super place arguments)) (whole (Above place), l.Super)
  behind at (Passing name receiver value, seen) = operation_behind (whole (Passing name receiver value), seen)
  behind at (Whole x, seen) = operation_behind (x, seen)

  from_postfix : Steady 1 (suc n) (statements.from_postfix turns rec within)
  from_postfix = after steady_here (λ at. first (steady_with_last (steady_postfix given within true)) (λ x. behind at x))

  leaving : (word : TokenLook) (make : ℕ → Option Tree → Tree) → Steady 1 (suc n) (statements.leaving turns rec within word make)
  leaving word make =
      first steady_take (λ at. after (steady_grow at)
      (λ _. after (steady_optional (begins_left within) (steady_part (fewer (steady_or given within true)))) (λ value. steady_pure)))

  breaking : Steady 1 (suc n) (statements.breaking turns rec within)
  breaking = first steady_take (λ at. after (steady_grow at) (λ _. steady_pure))

  simple_by : (word : TokenLook) → Steady 1 (suc n) (statements.simple_by turns rec within word)
  simple_by l.Return = steady_allow (within.method && not within.block) (leaving l.Return (λ at value. tree.Return at value))
  simple_by l.Next = steady_allow (within.in_loop || within.block) (leaving l.Next (λ at value. tree.Next at value))
  simple_by l.Break = steady_allow within.in_loop breaking
  simple_by l.Bang = steady_or given within true
  simple_by l.Minus = steady_or given within true
  simple_by other = from_postfix

  pub steady_simple : Steady 1 (suc n) (statements.simple turns rec within)
  steady_simple = steady_by_look simple_by

  modified : (at : ℕ) (x : Tree) (word : TokenLook) (unless : Bool) → Steady 0 n (statements.modified turns rec within at x word unless)
  modified at x word unless = after steady_take (λ place. after (steady_wrap place) (λ _. after (steady_part (fewer steady_simple)) (λ condition. steady_pure)))

  pub steady_stmt : Steady 1 (suc n) (statements.stmt turns rec within)
  steady_stmt =
      after steady_here (λ at. first steady_simple
      (λ x. steady_choose (seen l.If) (modified at x l.If false) (steady_choose (seen l.Unless) (modified at x l.Unless true) (steady_pure {x = x}))))
