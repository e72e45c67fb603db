-- What stands at the head of a postfix is read exactly.
use Rattle.std.proofs.Common.{◌≡◌, ℕ, Bool, true, List, [], ◌++◌, inl, inr, refl, ap, ◌∙◌}
use Rattle.std.specs.Prelude.{Option, None}
use Rattle.cr_syntax.specs.declared.look.TokenLook.{TokenLook}
use Rattle.cr_syntax.specs.declared.look.TokenLook.TheVariants as l
use Rattle.cr_syntax.specs.declared.token.Token.{Token}
use Rattle.cr_syntax.specs.declared.token.TokenKind.{TokenKind}
use Rattle.cr_syntax.specs.declared.token.TokenKind.TheVariants as k
use Rattle.cr_syntax.specs.Look.{look_of}
use Rattle.cr_grammar.specs.declared.tree.Tree.{Tree}
use Rattle.cr_grammar.specs.declared.tree.Tree.TheVariants as tree
use Rattle.cr_grammar.specs.declared.within.Within.{Within}
use Rattle.cr_grammar.specs.declared.word.Word.{Word}
use Rattle.cr_grammar.specs.Forms.{Form}
use Rattle.cr_grammar.specs.Forms as f
use Rattle.cr_grammar.specs.Operators as o
use Rattle.cr_grammar.specs.declared.wanted.Wanted.{Wanted}
use Rattle.cr_grammar.specs.declared.wanted.Wanted.TheVariants.{Stmt}
use Rattle.cr_grammar.specs.Wanted.{in_object}
use Rattle.cr_grammar.specs.Expressions as ex
use Rattle.cr_readers.specs.Goes as goes_tests
use Rattle.cr_readers.specs.Reader.{Reader, Test, tight_seen, never, grow, allow}
use Rattle.cr_readers.specs.Lists.{parenthesized}
use Rattle.cr_exact.specs.Exact.{Effort, Exact, Any}
use Rattle.cr_readers.specs.Goes.{goes_primary, goes_stmt}
use Rattle.cr_readers.specs.declared.operand.Operand.{Operand}
use Rattle.cr_readers.specs.declared.operand.Operand.TheVariants.{Variable, Whole}
use Rattle.cr_readers.specs.Operand.{named, yielded, above}
use Rattle.cr_readers.specs.Primaries as primaries
use Rattle.cr_exact.proofs.TokenTests.{Less, less_never}
use Rattle.cr_exact.proofs.Sequence.{exact_bind, exact_pure, exact_map, weaken}
use Rattle.cr_exact.proofs.Tokens.{Looks, Led, Branch, exact_word, exact_by, branch_where, exact_looks, led_one}
use Rattle.cr_exact.proofs.Forms.{spelled_word, spelled_maybe, spelled_nothing, Spelled, spelled_bind}
use Rattle.cr_exact.proofs.Heads.{led_real, led, led_bind, LedBy, led_held, led_or}
use Rattle.cr_exact.proofs.Follows.{follows_ahead, follows_bind, follows_maybe, follows_nothing, follows_never}
use Rattle.cr_exact.proofs.Nodes.{exact_silent, silent_grow}
use Rattle.cr_exact.proofs.Lists.{exact_parenthesized}
use Rattle.cr_descent.proofs.Words.{exact_ident, exact_instance_variable}
use Rattle.cr_descent.proofs.Operands as operands
use Rattle.cr_descent.proofs.Claims as claims
use Rattle.cr_descent.proofs.Bodies.{exact_plain, exact_arguments, exact_maybe_block, stmt_fails, no_parenthesis, block_less, parenthesis_less}
use Rattle.cr_descent.proofs.Compounds.{exact_conditional, exact_looping, exact_cases, exact_select}
use Rattle.cr_descent.proofs.Classes.{plain_some, exact_of_class}
use Rattle.cr_descent.proofs.Literals.{exact_number_node, exact_text, exact_insertions, exact_array, exact_hash}

-- ---- the first token

module _ {effort : Effort} {rec : Wanted → Reader Tree} {S T : Wanted → Form Tree} (given : claims.Given effort rec S T) (within : Within) (free : Bool) where
  abbrev turns : ℕ
  turns = effort.turns

  abbrev goes : Test
  goes = goes_primary free

  abbrev all_of : Form Tree → Form Operand
  all_of R = operands.all_of S within free R

  -- ---- a whole tree

  exact_all : (R C : Form Tree) (g : Test) (p : Reader Tree) → Less g goes → Exact effort Any R C g p → Exact effort Any (all_of R) (all_of C) goes (primaries.all_of turns rec within free p)
  exact_all R C g p less ep =
      exact_bind (λ x. f.nothing (Whole x)) (λ x. f.nothing (Whole x)) goes _ ep
      (λ x. exact_pure effort (Whole x) goes) (λ x. spelled_nothing (Whole x)) (λ x. follows_nothing g goes (Whole x) less)

  led_all : (look : TokenLook) (R : Form Tree) → LedBy look R → LedBy look (all_of R)
  led_all look R lead = led_bind look R (λ x. f.nothing (Whole x)) lead

  exact_leaf : (kind : TokenKind) (make : ℕ → Tree)
      → Exact effort Any (ex.leaf S within free (look_of kind) make) (ex.leaf T within free (look_of kind) make) never (primaries.leaf turns rec within free (look_of kind) make)
  exact_leaf kind make =
      exact_bind (λ at. f.nothing (make at)) (λ at. f.nothing (make at)) never _ (exact_word effort kind never)
      (λ at. exact_silent (grow at) (silent_grow at) _ (exact_pure effort (make at) never))
      (λ at. spelled_nothing (make at)) (λ at. follows_never (f.nothing (make at)) never)

  abbrev spawned_behind : (Wanted → Form Tree) → ℕ → Form Tree
  spawned_behind Q at = f.◌>>=◌ (ex.plain Q within free) (λ body. f.nothing (tree.Spawn at None body))

  exact_spawned : Exact effort Any (ex.spawned S within free) (ex.spawned T within free) never (primaries.spawned turns rec within free)
  exact_spawned =
      exact_bind (spawned_behind S) (spawned_behind T) never _ (exact_word effort (k.Plain l.Spawn) never)
      (λ at. exact_silent (grow at) (silent_grow at) _
      (exact_bind (λ body. f.nothing (tree.Spawn at None body)) (λ body. f.nothing (tree.Spawn at None body)) never _ (exact_plain given within free)
      (λ body. exact_pure effort (tree.Spawn at None body) never)
      (λ body. spelled_nothing (tree.Spawn at None body))
      (λ body. follows_never (f.nothing (tree.Spawn at None body)) never)))
      (λ at. spelled_bind (plain_some given within free) (λ body. spelled_nothing (tree.Spawn at None body)))
      (λ at. follows_never (spawned_behind T at) never)

  exact_statement : Exact effort Any (f.parenthesized (S (Stmt within))) (f.parenthesized (T (Stmt within))) never (parenthesized turns (rec (Stmt within)))
  exact_statement =
      let some = given.some (Stmt within) in
      exact_parenthesized effort (S (Stmt within)) (T (Stmt within)) goes_stmt (rec (Stmt within)) (given.exact (Stmt within))
      (stmt_fails given within l.Newline refl)
      some.0 some.1 some.2 (λ spaced. refl) (λ spaced. refl)

  -- ---- names, `yield` and `super`, and variables

  arguments_some : Spelled (operands.arguments S within free)
  arguments_some = spelled_maybe _

  abbrev named_behind : (Wanted → Form Tree) → Word → Option (List Tree) → Form Operand
  named_behind Q name arguments = f.◌>>=◌ (f.maybe (ex.block Q within free)) (λ block. f.nothing (named name arguments block))

  abbrev name_behind : (Wanted → Form Tree) → Word → Form Operand
  name_behind Q name = f.◌>>=◌ (operands.arguments Q within free) (named_behind Q name)

  exact_name : Exact effort Any (operands.name S within free) (operands.name T within free) goes (primaries.name turns rec within free)
  exact_name =
      exact_bind (name_behind S) (name_behind T) goes _ (exact_ident effort never)
      (λ name. exact_silent (grow name.at) (silent_grow name.at) _
      (exact_bind (named_behind S name) (named_behind T name) goes _ (exact_arguments given within free)
      (λ arguments. exact_bind (λ block. f.nothing (named name arguments block)) (λ block. f.nothing (named name arguments block)) goes _
      (exact_maybe_block given within free)
      (λ block. exact_pure effort (named name arguments block) goes)
      (λ block. spelled_nothing (named name arguments block))
      (λ block. follows_nothing (goes_tests.begins_block free) goes (named name arguments block) (block_less turns rec free)))
      (λ arguments. spelled_bind (spelled_maybe _) (λ block. spelled_nothing (named name arguments block)))
      (λ arguments. follows_bind (tight_seen l.OpenParenthesis) goes (f.maybe (ex.block T within free)) (λ block. f.nothing (named name arguments block))
      (follows_maybe (tight_seen l.OpenParenthesis) (tight_seen l.OpenParenthesis) (ex.block T within free) (λ look spaced e. e)
      (follows_ahead (tight_seen l.OpenParenthesis) (tight_seen l.OpenParenthesis) (ex.block T within free) (no_parenthesis free _ _)))
      (λ block. follows_nothing (tight_seen l.OpenParenthesis) goes (named name arguments block) (parenthesis_less free)))))
      (λ name. spelled_bind arguments_some (λ arguments. spelled_bind (spelled_maybe _) (λ block. spelled_nothing (named name arguments block))))
      (λ name. follows_never (name_behind T name) goes)

  exact_passed_on : (kind : TokenKind) (make : ℕ → Option (List Tree) → Operand)
      → Exact effort Any (operands.passed_on S within free (look_of kind) make) (operands.passed_on T within free (look_of kind) make) goes
      (primaries.passed_on turns rec within free (look_of kind) make)
  exact_passed_on kind make =
      let behind : (Wanted → Form Tree) → ℕ → Form Operand = λ Q at. f.◌>>=◌ (operands.arguments Q within free) (λ arguments. f.nothing (make at arguments)) in
      exact_bind (behind S) (behind T) goes _ (exact_word effort kind never)
      (λ at. exact_silent (grow at) (silent_grow at) _
      (exact_bind (λ arguments. f.nothing (make at arguments)) (λ arguments. f.nothing (make at arguments)) goes _ (exact_arguments given within free)
      (λ arguments. exact_pure effort (make at arguments) goes)
      (λ arguments. spelled_nothing (make at arguments))
      (λ arguments. follows_nothing (tight_seen l.OpenParenthesis) goes (make at arguments) (parenthesis_less free))))
      (λ at. spelled_bind arguments_some (λ arguments. spelled_nothing (make at arguments)))
      (λ at. follows_never (behind T at) goes)

  exact_variable : Exact effort Any (operands.variable S within free) (operands.variable T within free) goes (primaries.variable turns rec within free)
  exact_variable =
      exact_bind (λ name. f.nothing (Variable name)) (λ name. f.nothing (Variable name)) goes _ (exact_instance_variable effort never)
      (λ name. exact_silent (grow name.at) (silent_grow name.at) _ (exact_pure effort (Variable name) goes))
      (λ name. spelled_nothing (Variable name)) (λ name. follows_never (f.nothing (Variable name)) goes)

  -- ---- by the first token

  abbrev Head : TokenLook → Reader Operand → Type 0
  Head look p = Branch effort look (operands.primary S within free) (operands.primary_by T within free look) goes p

  -- The reader is exact for what begins so.
  head : (look : TokenLook) (p : Reader Operand) → LedBy look (operands.primary_by S within free look)
      → Exact effort Any (operands.primary_by S within free look) (operands.primary_by T within free look) goes p → Head look p
  head look p lead ep =
      inl (weaken (Looks look) (exact_map (operands.primary S within free) (operands.primary_by T within free look) (λ w x c. (look, lead w x c, c)) (λ w x c. c) ep))

  -- for a whole tree
  whole : (look : TokenLook) (R C : Form Tree) (g : Test) (p : Reader Tree)
      → ((w : List Token) (x : Operand) → all_of R w x → operands.primary_by S within free look w x) → ((w : List Token) (x : Operand) → operands.primary_by T within free look w x → all_of C w x)
      → LedBy look R → Less g goes → Exact effort Any R C g p → Head look (primaries.all_of turns rec within free p)
  whole look R C g p out back lead less ep =
      inl (weaken (Looks look) (exact_map (operands.primary S within free) (operands.primary_by T within free look)
      (λ w x c. (look, led_all look R lead w x c, out w x c)) back (exact_all R C g p less ep)))

  -- where it may stand
  head_where : (look : TokenLook) (flag : Bool) (R C : Form Operand) (p : Reader Operand)
      → (flag ≡ true → (w : List Token) (x : Operand) → R w x → operands.primary_by S within free look w x) → LedBy look R → Exact effort Any R C goes p
      → Branch effort look (operands.primary S within free) (f.where_true flag C) goes (allow flag p)
  head_where look flag R C p out lead ep =
      branch_where look flag (operands.primary S within free) C goes p
      (λ is. weaken (Looks look) (exact_map (operands.primary S within free) C (λ w x c. (look, lead w x c, out is w x c)) (λ w x c. c) ep))

  -- ---- numbers and texts, two tokens each

  number_head : (w : List Token) (x : Operand) → all_of (ex.number S within free) w x → operands.primary S within free w x
  number_head w x (a, rest, y, e, (t, is, inl c), d) = (l.Int32, (t, rest, e ∙ ap (λ (u : List Token). u ++ rest) is, ap look_of c.1), (a, rest, y, e, (t, is, inl c), d))
  number_head w x (a, rest, y, e, (t, is, inr c), d) = (l.Int64, (t, rest, e ∙ ap (λ (u : List Token). u ++ rest) is, ap look_of c.1), (a, rest, y, e, (t, is, inr c), d))

  exact_number : Exact effort Any (operands.primary S within free) (all_of (ex.number T within free)) goes (primaries.all_of turns rec within free (primaries.number_node turns rec within free))
  exact_number =
      exact_map (operands.primary S within free) (all_of (ex.number T within free)) number_head (λ w x c. c)
      (exact_all (ex.number S within free) (ex.number T within free) never _ (less_never goes) (exact_number_node given within free))

  abbrev pub whole_text : Form Tree
  whole_text = f.◌>>=◌ (f.holding (λ text. k.Text text)) (λ text. f.nothing (tree.Text text.at text.text))

  led_whole : LedBy l.Text (all_of whole_text)
  led_whole = led_all l.Text whole_text (led_bind l.Text _ _ (led_held (λ text. k.Text text) l.Text (λ text. refl)))

  insertions_led : (Q : Wanted → Form Tree) → LedBy l.TextFirst (all_of (ex.insertions Q within free))
  insertions_led Q = led_all l.TextFirst (ex.insertions Q within free) (led_bind l.TextFirst _ _ (led_held (λ text. k.TextFirst text) l.TextFirst (λ text. refl)))

  text_real : (w : List Token) (x : Operand) → all_of (ex.text T within free) w x → w ≡ [] → ⊥
  text_real w x (a, rest, y, e, inl c, d) = led_real l.Text w (led_whole w x (a, rest, y, e, c, d))
  text_real w x (a, rest, y, e, inr c, d) = led_real l.TextFirst w (insertions_led T w x (a, rest, y, e, c, d))

  pub whole_back : (w : List Token) (x : Operand) → Led l.Text w → all_of (ex.text T within free) w x → all_of whole_text w x
  whole_back w x led (a, rest, y, e, inl c, d) = (a, rest, y, e, c, d)
  whole_back w x led (a, rest, y, e, inr c, d) = let same = led_one l.Text l.TextFirst w led (insertions_led T w x (a, rest, y, e, c, d)) in absurd cc

  pub first_back : (w : List Token) (x : Operand) → Led l.TextFirst w → all_of (ex.text T within free) w x → all_of (ex.insertions T within free) w x
  first_back w x led (a, rest, y, e, inl c, d) = let same = led_one l.TextFirst l.Text w led (led_whole w x (a, rest, y, e, c, d)) in absurd cc
  first_back w x led (a, rest, y, e, inr c, d) = (a, rest, y, e, c, d)

  text_head : Head l.Text (primaries.all_of turns rec within free (primaries.text turns rec within free))
  text_head =
      inl (exact_looks l.Text (all_of (ex.text T within free)) text_real whole_back
      (exact_map (operands.primary S within free) (all_of whole_text) (λ w x c. (l.Text, led_whole w x c, (c.0, c.1, c.2, c.3, inl c.4, c.5))) (λ w x c. c)
      (exact_all whole_text whole_text never _ (less_never goes) (exact_text given within free))))

  insertions_head : Head l.TextFirst (primaries.all_of turns rec within free (primaries.insertions turns rec within free))
  insertions_head =
      inl (exact_looks l.TextFirst (all_of (ex.text T within free)) text_real first_back
      (exact_map (operands.primary S within free) (all_of (ex.insertions T within free)) (λ w x c. (l.TextFirst, insertions_led S w x c, (c.0, c.1, c.2, c.3, inr c.4, c.5))) (λ w x c. c)
      (exact_all (ex.insertions S within free) (ex.insertions T within free) never _ (less_never goes) (exact_insertions given within free))))

  -- ---- classes

  led_class : LedBy l.Constant (f.◌<|>◌ (ex.made S within free) (ex.pause S within free))
  led_class =
      led_or l.Constant (ex.made S within free) (ex.pause S within free)
      (led_bind l.Constant (ex.atom S true) _ (led_bind l.Constant ex.path _ (led_bind l.Constant f.constant _ (led_held (λ text. k.Constant text) l.Constant (λ text. refl)))))
      (led_bind l.Constant (f.exactly (k.Constant o.fiber_name)) _ (λ w x c. (c.0, [], c.1, ap look_of c.2.0)))

  -- ---- the whole

  leaf_head : (kind : TokenKind) (make : ℕ → Tree) → LedBy (look_of kind) (ex.leaf S within free (look_of kind) make)
  leaf_head kind make = led (look_of kind) (λ at. f.nothing (make at))

  branch : (look : TokenLook) → Head look (primaries.primary_by turns rec within free look)
  branch l.Int32 = inl (weaken (Looks l.Int32) exact_number)
  branch l.Int64 = inl (weaken (Looks l.Int64) exact_number)
  branch l.Text = text_head
  branch l.TextFirst = insertions_head
  branch l.Nil = whole l.Nil _ _ never _ (λ w x c. c) (λ w x c. c) (leaf_head (k.Plain l.Nil) _) (less_never goes) (exact_leaf (k.Plain l.Nil) (λ at. tree.Nil at))
  branch l.True = whole l.True _ _ never _ (λ w x c. c) (λ w x c. c) (leaf_head (k.Plain l.True) _) (less_never goes) (exact_leaf (k.Plain l.True) (λ at. tree.True at))
  branch l.False = whole l.False _ _ never _ (λ w x c. c) (λ w x c. c) (leaf_head (k.Plain l.False) _) (less_never goes) (exact_leaf (k.Plain l.False) (λ at. tree.False at))
  branch l.KeywordSelf =
      head_where l.KeywordSelf (in_object within) (all_of (ex.leaf S within free l.KeywordSelf (λ at. tree.KeywordSelf at))) (all_of (ex.leaf T within free l.KeywordSelf (λ at. tree.KeywordSelf at))) _
      (λ is w x c. (is, c)) (led_all l.KeywordSelf _ (leaf_head (k.Plain l.KeywordSelf) (λ at. tree.KeywordSelf at)))
      (exact_all _ _ never _ (less_never goes) (exact_leaf (k.Plain l.KeywordSelf) (λ at. tree.KeywordSelf at)))
  branch l.InstanceVariable =
      head_where l.InstanceVariable (in_object within) (operands.variable S within free) (operands.variable T within free) _
      (λ is w x c. (is, c)) (led_bind l.InstanceVariable f.instance_variable _ (led_held (λ text. k.InstanceVariable text) l.InstanceVariable (λ text. refl))) exact_variable
  branch l.Ident = head l.Ident _ (led_bind l.Ident f.ident _ (led_held (λ text. k.Ident text) l.Ident (λ text. refl))) exact_name
  branch l.Yield =
      head_where l.Yield within.method (operands.passed_on S within free l.Yield yielded) (operands.passed_on T within free l.Yield yielded) _
      (λ is w x c. (is, c)) (led l.Yield _) (exact_passed_on (k.Plain l.Yield) yielded)
  branch l.Super =
      head_where l.Super within.method (operands.passed_on S within free l.Super above) (operands.passed_on T within free l.Super above) _
      (λ is w x c. (is, c)) (led l.Super _) (exact_passed_on (k.Plain l.Super) above)
  branch l.Constant = whole l.Constant _ _ goes _ (λ w x c. c) (λ w x c. c) led_class (λ look spaced e. e) (exact_of_class given within free)
  branch l.OpenBracket = whole l.OpenBracket _ _ goes _ (λ w x c. c) (λ w x c. c) (led l.OpenBracket _) (λ look spaced e. e) (exact_array given within free)
  branch l.OpenBrace = whole l.OpenBrace _ _ goes _ (λ w x c. c) (λ w x c. c) (led l.OpenBrace _) (λ look spaced e. e) (exact_hash given within free)
  branch l.OpenParenthesis = whole l.OpenParenthesis _ _ never _ (λ w x c. c) (λ w x c. c) (led l.OpenParenthesis _) (less_never goes) exact_statement
  branch l.Spawn = whole l.Spawn _ _ never _ (λ w x c. c) (λ w x c. c) (led l.Spawn _) (less_never goes) exact_spawned
  branch l.If = whole l.If _ _ never _ (λ w x c. c) (λ w x c. c) (led l.If _) (less_never goes) (exact_conditional given within free).0
  branch l.Unless = whole l.Unless _ _ never _ (λ w x c. c) (λ w x c. c) (led l.Unless _) (less_never goes) (exact_conditional given within free).1
  branch l.While = whole l.While _ _ never _ (λ w x c. c) (λ w x c. c) (led l.While _) (less_never goes) (exact_looping given within free).0
  branch l.Until = whole l.Until _ _ never _ (λ w x c. c) (λ w x c. c) (led l.Until _) (less_never goes) (exact_looping given within free).1
  branch l.Case = whole l.Case _ _ never _ (λ w x c. c) (λ w x c. c) (led l.Case _) (less_never goes) (exact_cases given within free)
  branch l.Select = whole l.Select _ _ never _ (λ w x c. c) (λ w x c. c) (led l.Select _) (less_never goes) (exact_select given within free)
  branch other = inr (refl, λ w x led c. c)

  -- `nil` is spelled.
  primary_some : Spelled (operands.primary S within free)
  primary_some =
      let nil = spelled_bind (spelled_bind (spelled_word (k.Plain l.Nil)) (λ at. spelled_nothing (tree.Nil at))) (λ x. spelled_nothing (Whole x)) in
      (nil.0, nil.1, (l.Nil, led_all l.Nil _ (leaf_head (k.Plain l.Nil) (λ at. tree.Nil at)) nil.0 nil.1 nil.2, nil.2))

  exact_here : claims.Primary effort rec S T within free
  exact_here =
      exact_by effort (primaries.primary_by turns rec within free) (operands.primary S within free) (operands.primary_by T within free) goes branch primary_some.0 primary_some.1 primary_some.2

module _ {effort : Effort} {rec : Wanted → Reader Tree} {S T : Wanted → Form Tree} (given : claims.Given effort rec S T) where
  pub exact_primary : (within : Within) (free : Bool) → claims.Primary effort rec S T within free
  exact_primary within free = exact_here given within free
