-- What is counted at the head of a postfix.
use Rattle.std.proofs.Common.{◌≡◌, ℕ, ◌+◌, max, Bool, List, [], map, Option, Some, None, inl, inr, refl, sym, ap, ◌∙◌, arith, false}
use Rattle.std.proofs.lemmas.List.Sums.{sum_by-append}
use Rattle.std.specs.Prelude.{sum}
use Rattle.cr_syntax.specs.declared.look.TokenLook.{TokenLook}
use Rattle.cr_syntax.specs.declared.look.TokenLook.TheVariants as l
use Rattle.cr_syntax.specs.declared.token.Token.{Token}
use Rattle.cr_syntax.specs.declared.token.TokenKind.{TokenKind}
use Rattle.cr_syntax.specs.declared.token.TokenKind.TheVariants as k
use Rattle.cr_syntax.specs.Look.{look_of}
use Rattle.cr_grammar.specs.declared.tree.Tree.{Tree, the_lemmas}
use Rattle.cr_grammar.specs.declared.tree.Tree.TheVariants as tree
use Rattle.cr_grammar.specs.declared.within.Within.{Within}
use Rattle.cr_grammar.specs.Count.{nodes, nesting}
use Rattle.cr_grammar.specs.declared.word.Word.{Word}
use Rattle.cr_grammar.specs.Forms.{Form, nothing}
use Rattle.cr_grammar.specs.Forms as f
use Rattle.cr_grammar.specs.declared.wanted.Wanted.{Wanted}
use Rattle.cr_grammar.specs.declared.wanted.Wanted.TheVariants.{Stmt}
use Rattle.cr_grammar.specs.Wanted.{in_object}
use Rattle.cr_grammar.specs.Laws.{begins_stmt}
use Rattle.cr_grammar.specs.Expressions as ex
use Rattle.cr_readers.specs.Goes as goes_tests
use Rattle.cr_readers.specs.Reader.{Reader, Test, seen, tight_seen, never, allow, pure}
use Rattle.cr_readers.specs.Lists.{parenthesized}
use Rattle.cr_exact.specs.Exact.{Effort}
use Rattle.cr_exact.specs.Limits.{Tally, known, unknown, tall, size_of_all, top_of_all, if_some}
use Rattle.cr_readers.specs.Goes.{goes_primary, goes_stmt}
use Rattle.cr_readers.specs.declared.operand.Operand.{Operand}
use Rattle.cr_readers.specs.declared.operand.Operand.TheVariants.{Variable, Whole}
use Rattle.cr_readers.specs.Operand.{whole, named, yielded, above}
use Rattle.cr_readers.specs.Primaries as primaries
use Rattle.cr_exact.proofs.TokenTests.{look_apart, less_never, Less}
use Rattle.cr_exact.proofs.Tokens.{Looks, Led, exact_word}
use Rattle.cr_exact.proofs.Heads.{first_tested}
use Rattle.cr_exact.proofs.Follows.{follows_bind, follows_never, follows_maybe, follows_ahead, follows_nothing}
use Rattle.cr_exact.proofs.Limits.{counts_bind, counts_bind_quiet, counts_pure, counts_weaken, counts_map, still_pure}
use Rattle.cr_exact.proofs.LimitSteps.{counts_grown}
use Rattle.cr_exact.proofs.LimitChoices.{Way, counts_by, looks_same, way_where}
use Rattle.cr_exact.proofs.LimitParts.{known_is, tall_append}
use Rattle.cr_exact.proofs.LimitLists.{counts_parenthesized, counts_one}
use Rattle.cr_descent.proofs.Words.{exact_ident, exact_instance_variable}
use Rattle.cr_descent.proofs.Operands as operands
use Rattle.cr_descent.proofs.Claims as claims
use Rattle.cr_descent.proofs.Bodies.{exact_arguments, parenthesis_less, block_less, no_parenthesis}
use Rattle.cr_descent.proofs.Primaries as heads
use Rattle.cr_descent.proofs.LimitClaims as limits
use Rattle.cr_descent.proofs.LimitTable as table
use Rattle.cr_descent.proofs.LimitTable.{part_height}
use Rattle.cr_descent.proofs.LimitBodies.{counts_plain, counts_arguments, counts_maybe_block}
use Rattle.cr_descent.proofs.LimitCompounds.{counts_conditional, counts_looping, counts_cases, counts_select}
use Rattle.cr_descent.proofs.LimitLiterals.{counts_number, counts_text, counts_insertions, counts_array, counts_hash}
use Rattle.cr_descent.proofs.LimitClasses.{listed_are, listed_nest}
use Rattle.cr_descent.proofs.LimitClasses as classes
use Rattle.cr_descent.proofs.LimitNodes.{node_told, node_with_told, held, held_sum, held_tall, call_nodes, call_nesting}

-- ---- the nodes of a name, and of what is passed on

call_are : (at : ℕ) (text : List ℕ) (arguments : List Tree) (block : Option Tree) → nodes (tree.Call at None text arguments block) ≡ 1 + sum (map nodes arguments) + if_some nodes block
call_are at text arguments block =
    let a = call_nodes at None text arguments block in
    let c = sum_by-append (λ n. n) (map nodes arguments) (held nodes block) in
    let d = held_sum block in
    omega (arith, a, c, d)

call_nests : (at : ℕ) (text : List ℕ) (arguments : List Tree) (block : Option Tree) → nesting (tree.Call at None text arguments block) ≡ 1 + max (tall (map nesting arguments)) (if_some nesting block)
call_nests at text arguments block =
    let a = call_nesting at None text arguments block in
    let c = tall_append (map nesting arguments) (held nesting block) in
    let d = held_tall block in
    omega (arith, a, c, d)

named_is : (name : Word) (found : Option (List Tree)) (block : Option Tree) → whole (named name found block) ≡ tree.Call name.at None name.text (primaries.listed_of found) block
named_is name None None = refl
named_is name None (Some x) = refl
named_is name (Some arguments) block = refl

abbrev told : ℕ → Operand → Tally
told n x = known (n + nodes (whole x)) (nesting (whole x))

-- what is counted of a node with the arguments that were found
abbrev with_arguments : ℕ → Option (List Tree) → Tally
with_arguments n found = known (n + 1 + if_some (size_of_all nodes) found) (max 1 (if_some (top_of_all part_height) found))

named_told : (n : ℕ) (name : Word) (found : Option (List Tree)) (block : Option Tree)
    → told n (named name found block)
    ≡ known (n + 1 + if_some (size_of_all nodes) found + if_some nodes block) (max (max 1 (if_some (top_of_all part_height) found)) (if_some part_height block))
named_told n name found block =
    let a = classes.listed_are found in
    let c = classes.listed_nest found in
    let call = tree.Call name.at None name.text (primaries.listed_of found) block in
    ap (λ (x : Tree). known (n + nodes x) (nesting x)) (named_is name found block)
    ∙ node_with_told n call (primaries.listed_of found) block (call_are name.at name.text (primaries.listed_of found) block) (call_nests name.at name.text (primaries.listed_of found) block)
    ∙ known_is _ _ _ _ (omega (arith, a)) (omega (arith, c))

-- a node without arguments
alone_told : (n : ℕ) (x : Tree) → nodes x ≡ 1 → nesting x ≡ 1 → known (n + nodes x) (nesting x) ≡ with_arguments n None
alone_told n x one flat = known_is _ _ _ _ (omega (arith, one)) (omega (arith, flat))

yielded_told : (n at : ℕ) (found : Option (List Tree)) → told n (yielded at found) ≡ with_arguments n found
yielded_told n at None = alone_told n (tree.Yield at []) (search the_lemmas) (search the_lemmas)
yielded_told n at (Some arguments) = node_told n (tree.Yield at arguments) arguments (search the_lemmas) (search the_lemmas)

above_told : (n at : ℕ) (found : Option (List Tree)) → told n (above at found) ≡ with_arguments n found
above_told n at None = alone_told n (tree.BareSuper at) (search the_lemmas) (search the_lemmas)
above_told n at (Some arguments) = node_told n (tree.Super at arguments) arguments (search the_lemmas) (search the_lemmas)

module _ {effort : Effort} {rec : Wanted → Reader Tree} {S T : Wanted → Form Tree} (given : claims.Given effort rec S T) (counts : limits.GivenCounts rec T) (within : Within) (free : Bool) where
  abbrev turns : ℕ
  turns = effort.turns

  abbrev goes : Test
  goes = goes_primary free

  abbrev all_of : Form Tree → Form Operand
  all_of C = operands.all_of T within free C

  -- ---- a whole tree

  counts_all : (C : Form Tree) (g : Test) (p : Reader Tree) → Less g goes → limits.Trees C g p → table.Operands (all_of C) goes (primaries.all_of turns rec within free p)
  counts_all C g p less cp n =
      counts_bind_quiet (λ x. nothing (Whole x)) goes (λ x. pure (Whole x)) (told n) (cp n)
      (λ x. counts_pure (Whole x) goes _ (told n) refl) (λ x. (still_pure (Whole x)).lets) (λ x. follows_nothing g goes (Whole x) less)

  counts_leaf : (kind : TokenKind) (make : ℕ → Tree) → ((at : ℕ) → nodes (make at) ≡ 1) → ((at : ℕ) → nesting (make at) ≡ 1)
      → limits.Trees (ex.leaf T within free (look_of kind) make) never (primaries.leaf turns rec within free (look_of kind) make)
  counts_leaf kind make ones flat = counts_one (λ at. at) make never nodes nesting (λ t x e. sym e.1) (exact_word effort kind never) ones flat

  abbrev spawned_behind : ℕ → Form Tree
  spawned_behind at = f.◌>>=◌ (ex.plain T within free) (λ body. nothing (tree.Spawn at None body))

  counts_spawned : limits.Trees (ex.spawned T within free) never (primaries.spawned turns rec within free)
  counts_spawned n =
      let to : Tree → Tally = λ x. known (n + nodes x) (nesting x) in
      counts_grown spawned_behind never (λ at. at) _ to (λ t x e. sym e.1) (exact_word effort (k.Plain l.Spawn) never) (λ at. follows_never (spawned_behind at) never) n
      (λ at. counts_bind_quiet (λ body. nothing (tree.Spawn at None body)) never (λ body. pure (tree.Spawn at None body)) to (counts_plain given counts within free (n + 1) 1)
      (λ body. counts_pure (tree.Spawn at None body) never _ to (node_told n (tree.Spawn at None body) body (search the_lemmas) (search the_lemmas)))
      (λ body. (still_pure (tree.Spawn at None body)).lets)
      (λ body. follows_never (nothing (tree.Spawn at None body)) never))

  counts_statement : limits.Trees (f.parenthesized (T (Stmt within))) never (parenthesized turns (rec (Stmt within)))
  counts_statement n =
      counts_parenthesized effort (S (Stmt within)) (T (Stmt within)) goes_stmt (rec (Stmt within)) (given.exact (Stmt within))
      (first_tested false (begins_stmt within) (seen l.Newline) (T (Stmt within)) (look_apart (begins_stmt within) l.Newline refl) (given.stmt_begins within))
      (λ spaced. refl) (λ spaced. refl) (unknown n) (λ x. known (n + nodes x) (nesting x)) (counts.stmt within n)

  -- ---- names, `yield` and `super`, and variables

  abbrev named_behind : Word → Option (List Tree) → Form Operand
  named_behind name arguments = f.◌>>=◌ (f.maybe (ex.block T within free)) (λ block. nothing (named name arguments block))

  abbrev name_behind : Word → Form Operand
  name_behind name = f.◌>>=◌ (operands.arguments T within free) (named_behind name)

  counts_name : table.Operands (operands.name T within free) goes (primaries.name turns rec within free)
  counts_name n =
      counts_grown name_behind goes (λ (name : Word). name.at) _ (told n) (λ t x e. sym e.1) (exact_ident effort never) (λ name. follows_never (name_behind name) goes) n
      (λ name. counts_bind (named_behind name) goes _ (told n) (exact_arguments given within free) (counts_arguments given counts within free (n + 1) 1)
      (λ arguments. counts_bind_quiet (λ block. nothing (named name arguments block)) goes (λ block. pure (named name arguments block)) (told n)
      (counts_maybe_block given counts within free (n + 1 + if_some (size_of_all nodes) arguments) (max 1 (if_some (top_of_all part_height) arguments)))
      (λ block. counts_pure (named name arguments block) goes _ (told n) (named_told n name arguments block))
      (λ block. (still_pure (named name arguments block)).lets)
      (λ block. follows_nothing (goes_tests.begins_block free) goes (named name arguments block) (block_less turns rec free)))
      (λ arguments. follows_bind (tight_seen l.OpenParenthesis) goes (f.maybe (ex.block T within free)) (λ block. nothing (named name arguments block))
      (follows_maybe (tight_seen l.OpenParenthesis) (tight_seen l.OpenParenthesis) (ex.block T within free) (λ look spaced e. e)
      (follows_ahead (tight_seen l.OpenParenthesis) (tight_seen l.OpenParenthesis) (ex.block T within free) (no_parenthesis free _ _)))
      (λ block. follows_nothing (tight_seen l.OpenParenthesis) goes (named name arguments block) (parenthesis_less free))))

  counts_passed_on : (kind : TokenKind) (make : ℕ → Option (List Tree) → Operand) → ((n at : ℕ) (found : Option (List Tree)) → told n (make at found) ≡ with_arguments n found)
      → table.Operands (operands.passed_on T within free (look_of kind) make) goes (primaries.passed_on turns rec within free (look_of kind) make)
  counts_passed_on kind make is n =
      let behind : ℕ → Form Operand = λ at. f.◌>>=◌ (operands.arguments T within free) (λ arguments. nothing (make at arguments)) in
      counts_grown behind goes (λ at. at) _ (told n) (λ t x e. sym e.1) (exact_word effort kind never) (λ at. follows_never (behind at) goes) n
      (λ at. counts_bind_quiet (λ arguments. nothing (make at arguments)) goes (λ arguments. pure (make at arguments)) (told n) (counts_arguments given counts within free (n + 1) 1)
      (λ arguments. counts_pure (make at arguments) goes _ (told n) (is n at arguments))
      (λ arguments. (still_pure (make at arguments)).lets)
      (λ arguments. follows_nothing (tight_seen l.OpenParenthesis) goes (make at arguments) (parenthesis_less free)))

  counts_variable : table.Operands (operands.variable T within free) goes (primaries.variable turns rec within free)
  counts_variable =
      counts_one (λ (name : Word). name.at) Variable goes (λ x. nodes (whole x)) (λ x. nesting (whole x)) (λ t x e. sym e.1) (exact_instance_variable effort never)
      (λ name. search the_lemmas) (λ name. search the_lemmas)

  -- ---- by the first token

  -- A text begins with another token if something is inserted in it.
  abbrev told_by : TokenLook → Form Operand
  told_by l.Text = all_of (heads.whole_text given within free)
  told_by l.TextFirst = all_of (ex.insertions T within free)
  told_by other = operands.primary_by T within free other

  text_back : (look : TokenLook) (w : List Token) (x : Operand) → Led look w → operands.primary_by T within free look w x → told_by look w x
  text_back l.Text w x led c = heads.whole_back given within free w x led c
  text_back l.TextFirst w x led c = heads.first_back given within free w x led c
  text_back other w x led c = c

  module _ (n : ℕ) where
    abbrev Head : TokenLook → Form Operand → Reader Operand → Type 0
    Head look C p = Way look C goes (unknown n) (told n) p

    head : (look : TokenLook) (C : Form Operand) (p : Reader Operand) → table.Operands C goes p → Head look C p
    head look C p cp = inl (counts_weaken (Looks look) (looks_same look) (cp n))

    -- for a whole tree
    tree_head : (look : TokenLook) (C : Form Tree) (g : Test) (p : Reader Tree) → Less g goes → limits.Trees C g p → Head look (all_of C) (primaries.all_of turns rec within free p)
    tree_head look C g p less cp = head look (all_of C) (primaries.all_of turns rec within free p) (counts_all C g p less cp)

    -- where it may stand
    head_where : (look : TokenLook) (flag : Bool) (C : Form Operand) (p : Reader Operand) → table.Operands C goes p → Head look (f.where_true flag C) (allow flag p)
    head_where look flag C p cp = way_where look flag C goes p (unknown n) (told n) (λ is. counts_weaken (Looks look) (looks_same look) (cp n))

    way : (look : TokenLook) → Head look (told_by look) (primaries.primary_by turns rec within free look)
    way l.Int32 = tree_head l.Int32 _ never _ (less_never goes) (counts_number given counts within free)
    way l.Int64 = tree_head l.Int64 _ never _ (less_never goes) (counts_number given counts within free)
    way l.Text = tree_head l.Text _ never _ (less_never goes) (counts_text given counts within free)
    way l.TextFirst = tree_head l.TextFirst _ never _ (less_never goes) (counts_insertions given counts within free)
    way l.Nil = tree_head l.Nil _ never _ (less_never goes) (counts_leaf (k.Plain l.Nil) (λ at. tree.Nil at) (λ at. search the_lemmas) (λ at. search the_lemmas))
    way l.True = tree_head l.True _ never _ (less_never goes) (counts_leaf (k.Plain l.True) (λ at. tree.True at) (λ at. search the_lemmas) (λ at. search the_lemmas))
    way l.False = tree_head l.False _ never _ (less_never goes) (counts_leaf (k.Plain l.False) (λ at. tree.False at) (λ at. search the_lemmas) (λ at. search the_lemmas))
    way l.KeywordSelf =
        head_where l.KeywordSelf (in_object within) _ _
        (counts_all _ never _ (less_never goes) (counts_leaf (k.Plain l.KeywordSelf) (λ at. tree.KeywordSelf at) (λ at. search the_lemmas) (λ at. search the_lemmas)))
    way l.InstanceVariable = head_where l.InstanceVariable (in_object within) _ _ counts_variable
    way l.Ident = head l.Ident _ _ counts_name
    way l.Yield = head_where l.Yield within.method _ _ (counts_passed_on (k.Plain l.Yield) yielded yielded_told)
    way l.Super = head_where l.Super within.method _ _ (counts_passed_on (k.Plain l.Super) above above_told)
    way l.Constant = tree_head l.Constant _ goes _ (λ look spaced e. e) (classes.counts_of_class given counts within free)
    way l.OpenBracket = tree_head l.OpenBracket _ goes _ (λ look spaced e. e) (counts_array given counts within free)
    way l.OpenBrace = tree_head l.OpenBrace _ goes _ (λ look spaced e. e) (counts_hash given counts within free)
    way l.OpenParenthesis = tree_head l.OpenParenthesis _ never _ (less_never goes) counts_statement
    way l.Spawn = tree_head l.Spawn _ never _ (less_never goes) counts_spawned
    way l.If = tree_head l.If _ never _ (less_never goes) (counts_conditional given counts within free).0
    way l.Unless = tree_head l.Unless _ never _ (less_never goes) (counts_conditional given counts within free).1
    way l.While = tree_head l.While _ never _ (less_never goes) (counts_looping given counts within free).0
    way l.Until = tree_head l.Until _ never _ (less_never goes) (counts_looping given counts within free).1
    way l.Case = tree_head l.Case _ never _ (less_never goes) (counts_cases given counts within free)
    way l.Select = tree_head l.Select _ never _ (less_never goes) (counts_select given counts within free)
    way other = inr (refl, λ w x led c. c)

  counts_here : table.Primary effort rec T within free
  counts_here n =
      counts_map (operands.primary T within free) (λ w x c. (c.0, c.1, text_back c.0 w x c.1 c.2))
      (counts_by (primaries.primary_by turns rec within free) told_by goes (way n))

module _ {effort : Effort} {rec : Wanted → Reader Tree} {S T : Wanted → Form Tree} (given : claims.Given effort rec S T) (counts : limits.GivenCounts rec T) where
  pub counts_primary : (within : Within) (free : Bool) → table.Primary effort rec T within free
  counts_primary within free = counts_here given counts within free
