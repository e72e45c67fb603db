-- Readers of a postfix, and of the clauses of `select`, are steady.
use Rattle.std.specs.Str.{bytes_eq}
use Rattle.std.proofs.Common.{ℕ, suc, Bool, false, Option, Some, None}
use Rattle.cr_syntax.specs.declared.look.TokenLook.{TokenLook}
use Rattle.cr_syntax.specs.declared.look.TokenLook.TheVariants as l
use Rattle.cr_grammar.specs.declared.tree.Tree.{Tree}
use Rattle.cr_grammar.specs.declared.within.Within.{Within}
use Rattle.cr_grammar.specs.declared.wanted.Wanted.{Wanted}
use Rattle.cr_grammar.specs.declared.wanted.Wanted.TheVariants.{Written}
use Rattle.cr_grammar.specs.Operators as o
use Rattle.cr_readers.specs.declared.operand.Operand.{Operand}
use Rattle.cr_readers.specs.declared.operand.Operand.TheVariants.{Name, Field, Passing}
use Rattle.cr_readers.specs.Operand.{whole}
use Rattle.cr_readers.specs.Reader.{Reader, seen, tight_seen}
use Rattle.cr_readers.specs.Goes.{is_link}
use Rattle.cr_readers.specs.Links as links
use Rattle.cr_steady.specs.Steady.{Steady}
use Rattle.cr_steady.proofs.Steps.{fewer, after, led, first, steady_pure, steady_refuse, steady_take, steady_choose, steady_allow, steady_by_look, steady_wrap, steady_part, repeated_in}
use Rattle.cr_steady.proofs.Lists.{steady_optional, steady_separators, steady_parenthesized}
use Rattle.cr_steady.proofs.Claims.{Given}
use Rattle.cr_steady.proofs.Bodies.{steady_body, steady_then, steady_plain, steady_inside, steady_arguments, steady_maybe_block}
use Rattle.cr_steady.proofs.Primaries.{steady_primary}

module _ {turns n : ℕ} {rec : Wanted → Reader Tree} (given : Given turns n rec) (within : Within) (free : Bool) where
  called : (x : Tree) → Steady 0 n (links.called turns rec within free x)
  called x =
      after steady_take (λ name. after (steady_wrap name.at) (λ _. after (steady_arguments given within)
      (λ arguments. after (steady_maybe_block given within free) (λ block. steady_pure))))

  asked : (x : Tree) → Steady 0 n (links.asked turns rec within free x)
  asked x =
      after steady_take (λ at. after (steady_wrap at)
      (λ _. after (steady_choose (tight_seen l.OpenParenthesis) (steady_parenthesized given.most (steady_part (given.steady (Written false)))) steady_refuse) (λ of. steady_pure)))

  asked_nil : (x : Tree) → Steady 0 n (links.asked_nil turns rec within free x)
  asked_nil x = after steady_take (λ at. after (steady_wrap at) (λ _. steady_pure))

  spawned_in : (x : Tree) → Steady 0 n (links.spawned_in turns rec within free x)
  spawned_in x = after steady_take (λ at. after (steady_wrap at) (λ _. after (steady_plain given within free) (λ body. steady_pure)))

  behind_dot : (x : Tree) (word : TokenLook) → Steady 0 n (links.behind_dot turns rec within free x word)
  behind_dot x l.Ident = called x
  behind_dot x l.IsA = asked x
  behind_dot x l.IsNil = asked_nil x
  behind_dot x l.Spawn = spawned_in x
  behind_dot x other = steady_refuse

  at_index : (x : Tree) → Steady 1 n (links.at_index turns rec within free x)
  at_index x =
      led steady_take (λ at. after (steady_wrap at) (λ _. after (steady_separators given.most) (λ _. after (steady_inside given within)
      (λ arguments. after (steady_separators given.most) (λ _. after steady_take
      (λ _. after (steady_optional (tight_seen l.Question) steady_take) (λ question. steady_pure)))))))

  link : (x : Operand) → Steady 1 n (links.link turns rec within free x)
  link x = steady_choose (seen l.Dot) (led steady_take (λ _. steady_by_look (behind_dot (whole x)))) (at_index (whole x))

  pub steady_postfix : Steady 1 (suc n) (links.postfix turns rec within free)
  steady_postfix = first (steady_primary given within free) (λ x. repeated_in is_link turns n x given.most link)

  -- ---- the clauses of `select`

  when_body : (at : ℕ) (target : Option Tree) (operation : Tree) → Steady 0 n (links.when_body turns rec within free at target operation)
  when_body at target operation = after (steady_then given) (λ _. after (steady_body given within) (λ body. steady_pure))

  when_received : (at : ℕ) (target : Option Tree) (x : Operand) → Steady 0 n (links.when_received turns rec within free at target x)
  when_received at target (Field channel name) = steady_allow (links.is_receive turns rec within free name.text) (when_body at target (whole (Field channel name)))
  when_received at target other = steady_refuse

  when_by : (at : ℕ) (x : Operand) → Steady 0 n (links.when_by turns rec within free at x)
  when_by at (Name name) =
      after steady_take (λ _. after (steady_part (fewer steady_postfix)) (λ operation. when_received at (Some (whole (Name name))) operation))
  when_by at (Passing name channel value) = steady_allow (bytes_eq name.text o.send_name) (when_body at None (whole (Passing name channel value)))
  when_by at operation = when_received at None operation

  pub steady_when : Steady 1 (suc n) (links.when turns rec within free)
  steady_when = first steady_take (λ at. after (steady_part (fewer steady_postfix)) (λ operation. when_by at operation))
