-- Readers of declarations and of whole programs are steady.
use Rattle.std.specs.Str.{bytes_eq}
use Rattle.std.proofs.Common.{ℕ, suc, Bool, true, false, List}
use Rattle.cr_syntax.specs.declared.look.TokenLook.{TokenLook}
use Rattle.cr_syntax.specs.declared.look.TokenLook.TheVariants as l
use Rattle.cr_grammar.specs.declared.tree.Tree.{Tree}
use Rattle.cr_grammar.specs.declared.within.Within.{Within}
use Rattle.cr_grammar.specs.declared.word.Word.{Word}
use Rattle.cr_grammar.specs.declared.wanted.Wanted.{Wanted}
use Rattle.cr_grammar.specs.declared.wanted.Wanted.TheVariants.{Written, Stmt}
use Rattle.cr_grammar.specs.Operators as o
use Rattle.cr_grammar.specs.Wanted.{in_method, top}
use Rattle.cr_readers.specs.Reader.{Reader, seen, tight_seen}
use Rattle.cr_readers.specs.Declarations as declarations
use Rattle.cr_steady.specs.Steady.{Steady}
use Rattle.cr_steady.proofs.Steps.{weak, fewer, after, led, first, steady_pure, steady_refuse, steady_take, steady_choose, steady_grow, steady_part, steady_beside}
use Rattle.cr_steady.proofs.Lists.{steady_optional, steady_unless_closed, steady_listed, steady_parenthesized, steady_stmts}
use Rattle.cr_steady.proofs.Claims.{Given}
use Rattle.cr_steady.proofs.Bodies.{steady_body}

-- ---- the name of a method

name_from : {n : ℕ} (name : Word) (marked : Bool) → Steady 0 n (declarations.name_from name marked)
name_from name true = steady_pure
name_from name false = steady_choose (tight_seen l.Equal) (after steady_take (λ _. steady_pure)) steady_pure

plain_name : {n : ℕ} → Steady 0 n declarations.plain_name
plain_name = after steady_take (λ name. name_from name (o.is_marked name.text))

index_names : {n : ℕ} → Steady 0 n declarations.index_names
index_names =
    after (after steady_take (λ _. steady_choose (tight_seen l.CloseBracket) steady_take steady_refuse))
    (λ _. steady_choose (tight_seen l.Equal) (after steady_take (λ _. steady_pure))
    (steady_choose (tight_seen l.Question) (after steady_take (λ _. steady_pure)) steady_pure))

method_name : {n : ℕ} → Steady 0 n declarations.method_name
method_name = steady_choose (seen l.Ident) plain_name (steady_choose (seen l.OpenBracket) index_names (weak steady_take))

-- ---- a constant, and `include`

constant_name : {n : ℕ} → Steady 1 n declarations.constant_name
constant_name = led steady_take (λ name. steady_pure)

include : {n : ℕ} → Steady 1 n declarations.include
include = led steady_take (λ at. after (steady_grow at) (λ _. after steady_take (λ name. steady_pure)))

module _ {turns n : ℕ} {rec : Wanted → Reader Tree} (given : Given turns n rec) where
  restriction : Steady 1 n (declarations.restriction turns rec)
  restriction = after steady_take (λ _. steady_part (given.steady (Written true)))

  maybe_restriction : Steady 0 n (declarations.maybe_restriction turns rec)
  maybe_restriction = steady_optional (seen l.Colon) restriction

  enclosed : {A : Type 0} {k : ℕ} {p : Reader (List A)} → Steady k n p → Steady 0 n (declarations.enclosed turns rec p)
  enclosed sp = steady_choose (tight_seen l.OpenParenthesis) (steady_parenthesized given.most sp) steady_pure

  -- ---- methods

  parameter : {p : Reader Word} (instance : Bool) → Steady 1 n p → Steady 1 n (declarations.parameter turns rec p instance)
  parameter instance sp = led sp (λ name. after (steady_grow name.at) (λ _. after maybe_restriction (λ of. steady_pure)))

  param : (instances : Bool) → Steady 1 n (declarations.param turns rec instances)
  param true = steady_choose (seen l.InstanceVariable) (parameter true steady_take) (parameter false steady_take)
  param false = parameter false steady_take

  result_type : (initialize : Bool) → Steady 0 n (declarations.result_type turns rec initialize)
  result_type true = steady_pure
  result_type false = maybe_restriction

  parameters : (within : Within) → Steady 0 n (declarations.parameters turns rec within)
  parameters within = enclosed (steady_unless_closed l.CloseParenthesis (steady_listed given.most (steady_part (param within.initialize))))

  def : (class : Bool) → Steady 1 (suc n) (declarations.def turns rec class)
  def class =
      first steady_take (λ at. after (steady_grow at) (λ _. after method_name (λ name. after (parameters (in_method class name))
      (λ parameters. after (result_type (bytes_eq name o.initialize_name)) (λ result. after steady_take
      (λ _. after (steady_body given (in_method class name)) (λ body. after steady_take (λ _. steady_pure))))))))

  -- ---- members

  declaration : Steady 1 n (declarations.declaration turns rec)
  declaration = led steady_take (λ name. after (steady_grow name.at) (λ _. after restriction (λ of. steady_pure)))

  acc : Steady 1 n (declarations.acc turns rec)
  acc = led steady_take (λ name. after (steady_grow name.at) (λ _. after maybe_restriction (λ of. steady_pure)))

  accessors : (word : TokenLook) (property : Bool) → Steady 1 n (declarations.accessors turns rec word property)
  accessors word property = led steady_take (λ at. after (steady_grow at) (λ _. after (steady_listed given.most (steady_part acc)) (λ found. steady_pure)))

  member : Steady 1 n (declarations.member turns rec)
  member =
      steady_choose (seen l.Def) (fewer (def true))
      (steady_choose (seen l.Include) include
      (steady_choose (seen l.InstanceVariable) declaration
      (steady_choose (seen l.Getter) (accessors l.Getter false) (accessors l.Property true))))

  module_member : Steady 1 n (declarations.module_member turns rec)
  module_member = steady_choose (seen l.Def) (fewer (def true)) include

  -- ---- classes and modules

  class : Steady 1 n (declarations.class turns rec)
  class =
      led steady_take (λ at. after (steady_grow at) (λ _. after steady_take (λ name. after (enclosed (steady_listed given.most constant_name))
      (λ parameters. after (steady_optional (seen l.Less) (after steady_take (λ _. constant_name))) (λ superclass. after steady_take
      (λ _. after (steady_stmts declarations.begins_member given.most (steady_part member)) (λ members. after steady_take (λ _. steady_pure))))))))

  module_of : Steady 1 n (declarations.module_of turns rec)
  module_of =
      led steady_take (λ at. after (steady_grow at) (λ _. after steady_take (λ name. after steady_take
      (λ _. after (steady_stmts declarations.begins_module_member given.most (steady_part module_member)) (λ members. after steady_take (λ _. steady_pure))))))

  -- ---- programs

  item : Steady 1 n (declarations.item turns rec)
  item = steady_choose (seen l.Class) class (steady_choose (seen l.Module) module_of (steady_choose (seen l.Def) (fewer (def false)) (given.steady (Stmt top))))

  pub steady_program : Steady 0 n (declarations.program turns rec)
  steady_program = after (steady_stmts declarations.begins_item given.most (steady_beside item)) (λ items. after steady_take (λ _. steady_pure))
