-- Readers of what stands at the head of a postfix are steady.
use Rattle.std.proofs.Common.{ℕ, suc, Bool, true, false, List, Option}
use Rattle.cr_syntax.specs.declared.look.TokenLook.{TokenLook}
use Rattle.cr_syntax.specs.declared.look.TokenLook.TheVariants as l
use Rattle.cr_grammar.specs.declared.tree.Tree.{Tree}
use Rattle.cr_grammar.specs.declared.tree.Tree.TheVariants as tree
use Rattle.cr_grammar.specs.declared.within.Within.{Within}
use Rattle.cr_grammar.specs.declared.wanted.Wanted.{Wanted}
use Rattle.cr_grammar.specs.declared.wanted.Wanted.TheVariants.{Written, Or, Stmt}
use Rattle.cr_grammar.specs.declared.word.Atom.{Atom}
use Rattle.cr_grammar.specs.Operators as o
use Rattle.cr_grammar.specs.Wanted.{in_object}
use Rattle.cr_readers.specs.declared.operand.Operand.{Operand}
use Rattle.cr_readers.specs.Operand.{yielded, above}
use Rattle.cr_readers.specs.Reader.{Reader, seen}
use Rattle.cr_readers.specs.Lists.{parenthesized}
use Rattle.cr_readers.specs.Primaries as primaries
use Rattle.cr_steady.specs.Steady.{Steady}
use Rattle.cr_steady.proofs.Steps.{after, led, first, steady_pure, steady_refuse, steady_take, steady_allow, steady_by_look, steady_grow, steady_wrap, steady_part, many_in}
use Rattle.cr_steady.proofs.Lists.{steady_optional, steady_unless_closed, steady_separators, steady_listed}
use Rattle.cr_steady.proofs.Claims.{Given}
use Rattle.cr_steady.proofs.Types.{steady_atom}
use Rattle.cr_steady.proofs.Bodies.{steady_plain, steady_inside, steady_arguments, steady_maybe_block}
use Rattle.cr_steady.proofs.Compounds.{steady_conditional, steady_looping, steady_cases, steady_select}

module _ {turns n : ℕ} {rec : Wanted → Reader Tree} (given : Given turns n rec) (within : Within) (free : Bool) where
  leaf : (word : TokenLook) (make : ℕ → Tree) → Steady 1 (suc n) (primaries.leaf turns rec within free word make)
  leaf word make = first steady_take (λ at. after (steady_grow at) (λ _. steady_pure))

  number_node : Steady 1 (suc n) (primaries.number_node turns rec within free)
  number_node = first steady_take (λ found. after (steady_grow found.0) (λ _. steady_pure))

  text : Steady 1 (suc n) (primaries.text turns rec within free)
  text = first steady_take (λ text. after (steady_grow text.at) (λ _. steady_pure))

  inserted : Steady 1 n (primaries.inserted turns rec within free)
  inserted = steady_part (given.steady (Or within free))

  part_behind : Steady 1 n (primaries.part_behind turns rec within free)
  part_behind = led steady_take (λ part. after inserted (λ value. steady_pure))

  insertions : Steady 1 (suc n) (primaries.insertions turns rec within free)
  insertions =
      first steady_take (λ first. after (steady_grow first.at) (λ _. after inserted
      (λ value. after (many_in (seen l.TextMiddle) turns n given.most part_behind) (λ more. after steady_take (λ last. steady_pure)))))

  new_block : (isolated : Bool) → Steady 0 n (primaries.new_block turns rec within free isolated)
  new_block true = after (steady_plain given within free) (λ body. steady_pure)
  new_block false = steady_pure

  made : (class : Atom) → Steady 0 n (primaries.made turns rec within free class)
  made class =
      after steady_take (λ at. after (steady_wrap at) (λ _. after (steady_arguments given within)
      (λ arguments. after (new_block (primaries.is_path class.path.names o.isolated_path)) (λ block. steady_pure))))

  made_by : (class : Atom) (word : TokenLook) → Steady 0 n (primaries.made_by turns rec within free class word)
  made_by class l.Ident = made class
  made_by class l.Yield = steady_allow (primaries.is_fiber turns rec within free class) (after steady_take (λ _. steady_pure))
  made_by class other = steady_refuse

  of_class : Steady 1 (suc n) (primaries.of_class turns rec within free)
  of_class = first (steady_atom given true) (λ class. after steady_take (λ _. steady_by_look (made_by class)))

  array : Steady 1 (suc n) (primaries.array turns rec within free)
  array =
      first steady_take (λ at. after (steady_grow at) (λ _. after (steady_separators given.most)
      (λ _. after (steady_unless_closed l.CloseBracket (steady_inside given within)) (λ elements. after (steady_separators given.most) (λ _. after steady_take
      (λ _. after (steady_optional (seen l.Of) (after steady_take (λ _. steady_part (given.steady (Written true))))) (λ element. steady_pure)))))))

  pair : {p : Reader Tree} → Steady 1 n p → Steady 1 n (primaries.pair turns rec within free p)
  pair sp = led sp (λ key. after steady_take (λ _. after (steady_separators given.most) (λ _. after sp (λ value. steady_pure))))

  hash : Steady 1 (suc n) (primaries.hash turns rec within free)
  hash =
      first steady_take (λ at. after (steady_grow at) (λ _. after (steady_separators given.most)
      (λ _. after (steady_unless_closed l.CloseBrace (steady_listed given.most (pair (steady_part (given.steady (Or within free)))))) (λ entries. after steady_take
      (λ _. after (steady_optional (seen l.Of) (after steady_take (λ _. pair (steady_part (given.steady (Written true)))))) (λ entry. steady_pure))))))

  spawned : Steady 1 (suc n) (primaries.spawned turns rec within free)
  spawned = first steady_take (λ at. after (steady_grow at) (λ _. after (steady_plain given within free) (λ body. steady_pure)))

  name : Steady 1 (suc n) (primaries.name turns rec within free)
  name =
      first steady_take (λ name. after (steady_grow name.at) (λ _. after (steady_arguments given within)
      (λ arguments. after (steady_maybe_block given within free) (λ block. steady_pure))))

  passed_on : (word : TokenLook) (make : ℕ → Option (List Tree) → Operand) → Steady 1 (suc n) (primaries.passed_on turns rec within free word make)
  passed_on word make = first steady_take (λ at. after (steady_grow at) (λ _. after (steady_arguments given within) (λ arguments. steady_pure)))

  variable : Steady 1 (suc n) (primaries.variable turns rec within free)
  variable = first steady_take (λ name. after (steady_grow name.at) (λ _. steady_pure))

  all_of : {p : Reader Tree} → Steady 1 (suc n) p → Steady 1 (suc n) (primaries.all_of turns rec within free p)
  all_of sp = led sp (λ x. steady_pure)

  statement : Steady 1 (suc n) (parenthesized turns (rec (Stmt within)))
  statement =
      first steady_take (λ _. after (steady_separators given.most) (λ _. after (given.steady (Stmt within))
      (λ x. after (steady_separators given.most) (λ _. after steady_take (λ _. steady_pure)))))

  primary_by : (word : TokenLook) → Steady 1 (suc n) (primaries.primary_by turns rec within free word)
  primary_by l.Int32 = all_of number_node
  primary_by l.Int64 = all_of number_node
  primary_by l.Text = all_of text
  primary_by l.TextFirst = all_of insertions
  primary_by l.Nil = all_of (leaf l.Nil (λ at. tree.Nil at))
  primary_by l.True = all_of (leaf l.True (λ at. tree.True at))
  primary_by l.False = all_of (leaf l.False (λ at. tree.False at))
  primary_by l.KeywordSelf = steady_allow (in_object within) (all_of (leaf l.KeywordSelf (λ at. tree.KeywordSelf at)))
  primary_by l.InstanceVariable = steady_allow (in_object within) variable
  primary_by l.Ident = name
  primary_by l.Yield = steady_allow within.method (passed_on l.Yield yielded)
  primary_by l.Super = steady_allow within.method (passed_on l.Super above)
  primary_by l.Constant = all_of of_class
  primary_by l.OpenBracket = all_of array
  primary_by l.OpenBrace = all_of hash
  primary_by l.OpenParenthesis = all_of statement
  primary_by l.Spawn = all_of spawned
  primary_by l.If = all_of (steady_conditional given within free l.If false)
  primary_by l.Unless = all_of (steady_conditional given within free l.Unless true)
  primary_by l.While = all_of (steady_looping given within free l.While false)
  primary_by l.Until = all_of (steady_looping given within free l.Until true)
  primary_by l.Case = all_of (steady_cases given within free)
  primary_by l.Select = all_of (steady_select given within free)
  primary_by other = steady_refuse

  pub steady_primary : Steady 1 (suc n) (primaries.primary turns rec within free)
  steady_primary = steady_by_look primary_by
