-- What is counted in bodies, blocks and arguments.
use Rattle.std.proofs.Common.{◌≡◌, ℕ, ◌+◌, ◌<◌, max, Bool, true, false, List, [], ◌++◌, map, None, refl, sym, subst, ◌∙◌, arith}
use Rattle.std.proofs.lemmas.List.Sums.{sum_by-append}
use Rattle.std.specs.Prelude.{sum}
use Rattle.cr_syntax.specs.declared.look.TokenLook.{TokenLook}
use Rattle.cr_syntax.specs.declared.look.TokenLook.TheVariants as l
use Rattle.cr_syntax.specs.declared.token.Token.{Token}
use Rattle.cr_syntax.specs.declared.token.TokenKind.{TokenKind}
use Rattle.cr_syntax.specs.declared.token.TokenKind.TheVariants as k
use Rattle.cr_syntax.specs.Look.{look_of}
use Rattle.cr_grammar.specs.declared.tree.Tree.{Tree, the_lemmas}
use Rattle.cr_grammar.specs.declared.tree.Tree.TheVariants as tree
use Rattle.cr_grammar.specs.declared.within.Within.{Within}
use Rattle.cr_grammar.specs.Count.{nodes, nesting}
use Rattle.cr_grammar.specs.declared.word.Word.{Word}
use Rattle.cr_grammar.specs.Forms.{Form, nothing, maybe, or_none, word, tight}
use Rattle.cr_grammar.specs.Forms as f
use Rattle.cr_grammar.specs.declared.wanted.Wanted.{Wanted}
use Rattle.cr_grammar.specs.declared.wanted.Wanted.TheVariants.{Or, Stmt}
use Rattle.cr_grammar.specs.Wanted.{in_block}
use Rattle.cr_grammar.specs.Expressions as ex
use Rattle.cr_readers.specs.Goes as goes_tests
use Rattle.cr_readers.specs.Reader.{Reader, seen, tight_seen, either, never, expect, pure, part, ◌>>=◌, ◌>>◌}
use Rattle.cr_readers.specs.Lists.{optional, unless_closed, separators}
use Rattle.cr_exact.specs.Exact.{Stops, Effort, Any}
use Rattle.cr_exact.specs.Limits.{Tally, known, Counts, Whole, Rises, tall, size_of_all, top_of_all}
use Rattle.cr_readers.specs.Goes.{begins_line, goes_body, goes_stmt, goes_or}
use Rattle.cr_readers.specs.Bodies as bodies
use Rattle.cr_exact.proofs.TokenTests.{stops_less, never_stops, not_either, seen_apart, not_seen, Not}
use Rattle.cr_exact.proofs.Tokens.{Passing, Failing}
use Rattle.cr_exact.proofs.Forms.{first_only, maybe_first, without_leave}
use Rattle.cr_exact.proofs.Heads.{Heads, first_led, led_heads}
use Rattle.cr_exact.proofs.Nodes.{exact_part}
use Rattle.cr_exact.proofs.Lists.{exact_separators, read_closed, tight_heads, optional_same}
use Rattle.cr_exact.proofs.Limits.{counts_bind, counts_bind_quiet, counts_pure, counts_silent, counts_weaken, counts_map, counts_goes}
use Rattle.cr_exact.proofs.LimitSteps.{counts_grown}
use Rattle.cr_exact.proofs.LimitChoices.{counts_choose, counts_only, passing_same, failing_same}
use Rattle.cr_exact.proofs.LimitParts.{tall_append, known_is, rises_part, rises_pure, rises_optional}
use Rattle.cr_exact.proofs.LimitLists.{still_separators, still_end, counts_end, counts_tight, rises_listed_parts, counts_word, counts_same, rises_stmts, rises_above, rises_or_none}
use Rattle.cr_descent.proofs.Bodies as e
use Rattle.cr_descent.proofs.Claims as claims
use Rattle.cr_descent.proofs.Words.{exact_ident}
use Rattle.cr_descent.proofs.LimitClaims as limits
use Rattle.cr_descent.proofs.LimitTable as table
use Rattle.cr_descent.proofs.LimitTable.{part_height, ManyParts}
use Rattle.cr_descent.proofs.LimitNodes.{parts_high}

-- ---- nodes

parameter_is : (at : ℕ) (name : List ℕ) → (nodes (tree.Parameter at false name None) ≡ 1) × (nesting (tree.Parameter at false name None) ≡ 1)
parameter_is at name = (grind (arith, the_lemmas), grind (arith, the_lemmas))

block_is : (parameters body : List Tree) → nodes (tree.Block parameters body) ≡ sum (map nodes parameters ++ map nodes body)
block_is parameters body = grind (arith, the_lemmas)

block_nests : (parameters body : List Tree) → nesting (tree.Block parameters body) ≡ tall (map nesting parameters ++ map nesting body)
block_nests parameters body = grind (arith, the_lemmas)

-- What is counted of parameters and of statements is counted of their block.
pub block_told : (n height : ℕ) (parameters body : List Tree) → 0 < height
    → known (n + nodes (tree.Block parameters body)) (max height (part_height (tree.Block parameters body)))
    ≡ known (n + size_of_all nodes parameters + size_of_all nodes body) (max (max height (top_of_all part_height parameters)) (top_of_all part_height body))
block_told n height parameters body some =
    let a = block_is parameters body in
    let c = sum_by-append (λ n. n) (map nodes parameters) (map nodes body) in
    let d = block_nests parameters body in
    let i = tall_append (map nesting parameters) (map nesting body) in
    let j = parts_high height parameters some in
    let m = parts_high height body some in
    known_is _ _ _ _ (omega (arith, a, c)) (omega (arith, d, i, j, m))

module _ {effort : Effort} {rec : Wanted → Reader Tree} {S T : Wanted → Form Tree} (given : claims.Given effort rec S T) (counts : limits.GivenCounts rec T) where
  pub counts_body : table.Body effort rec T
  counts_body within =
      rises_stmts effort (S (Stmt within)) (T (Stmt within)) (begins_line within) goes_stmt (part (rec (Stmt within))) (exact_part (rec (Stmt within)) (given.exact (Stmt within)))
      (e.stmt_heads given within) (λ spaced. refl) (λ spaced. refl) goes_body (e.body_ends within)
      nodes part_height (rises_part nodes nesting (counts.stmt within))

  pub counts_otherwise : table.Otherwise effort rec T
  counts_otherwise within =
      rises_optional (f.◌>>◌ (word l.Else) (ex.body T within)) goes_body (expect l.Else >> bodies.body effort.turns rec within) (seen l.Else) (size_of_all nodes) (top_of_all part_height)
      (led_heads l.Else (λ _. ex.body T within))
      (λ n height. counts_weaken (Passing (seen l.Else)) (passing_same (seen l.Else))
      (counts_word effort (k.Plain l.Else) (λ _. ex.body T within) goes_body (λ _. bodies.body effort.turns rec within) (λ _. counts_body within n height)))

  -- ---- parameters of blocks

  counts_parameter : Whole nodes nesting Any (ex.block_parameter T) never (bodies.block_parameter effort.turns rec)
  counts_parameter n =
      counts_grown (λ name. nothing (tree.Parameter name.at false name.text None)) never (λ (name : Word). name.at) (λ name. pure (tree.Parameter name.at false name.text None))
      (λ x. known (n + nodes x) (nesting x)) (λ t x c. sym c.1) (exact_ident effort never) (λ name b y rest d stop. never_stops (b ++ rest)) n
      (λ name. counts_pure (tree.Parameter name.at false name.text None) never (known (n + 1) 1) (λ x. known (n + nodes x) (nesting x))
      (let a = parameter_is name.at name.text in known_is _ _ _ _ (omega (arith, a.0)) (omega (arith, a.1))))

  rises_names : ManyParts (e.names_of given T) never (e.read_names given)
  rises_names n height =
      counts_bind_quiet (λ names. f.◌>>=◌ (word l.Pipe) (λ _. nothing names)) never (λ names. expect l.Pipe >> pure names) (λ xs. known (n + size_of_all nodes xs) (max height (top_of_all part_height xs)))
      (rises_listed_parts effort (ex.block_parameter S) (ex.block_parameter T) never (part (bodies.block_parameter effort.turns rec)) (e.exact_parameter given)
      (e.parameter_lineless given) (e.a_name given) (e.a_parameter given) (e.some_parameter given)
      (seen_apart l.Comma never (λ spaced. refl)) nodes part_height (rises_part nodes nesting counts_parameter) n height)
      (λ names. counts_end l.Pipe names never (known (n + size_of_all nodes names) (max height (top_of_all part_height names))) (λ xs. known (n + size_of_all nodes xs) (max height (top_of_all part_height xs))) refl)
      (λ names. (still_end l.Pipe names).lets)
      (λ names b y rest d stop. first_led false l.Pipe (either (seen l.Comma) never) (λ _. nothing names)
      (not_either l.Pipe (seen l.Comma) never (not_seen l.Pipe l.Comma (λ e. cc)) (λ spaced. refl)) b y rest d)

  rises_pars : ManyParts (or_none (ex.pars T)) (seen l.Pipe) (bodies.pars effort.turns rec)
  rises_pars n height =
      counts_choose (seen l.Pipe) (ex.pars T) (nothing []) (seen l.Pipe) (expect l.Pipe >> e.read_names given) (pure [])
      (counts_weaken (Passing (seen l.Pipe)) (passing_same (seen l.Pipe))
      (counts_goes (seen l.Pipe) (λ rest stop. never_stops rest)
      (counts_word effort (k.Plain l.Pipe) (λ _. e.names_of given T) never (λ _. e.read_names given) (λ _. rises_names n height))))
      (counts_weaken (Failing (seen l.Pipe)) (failing_same (seen l.Pipe)) (rises_pure (size_of_all nodes) (top_of_all part_height) (seen l.Pipe) [] refl refl n height))
      (led_heads l.Pipe (λ _. e.names_of given T))
      (λ w x rest d stop. subst (λ (v : List Token). Stops (seen l.Pipe) (v ++ rest)) (sym d.0) stop)

  -- ---- blocks

  -- the statements of a body and the word that closes it
  counts_ended : {X : Type 0} (within : Within) (close : TokenLook) (make : List Tree → X) → Not close goes_body → (n height : ℕ) (to : X → Tally)
      → ((xs : List Tree) → to (make xs) ≡ known (n + size_of_all nodes xs) (max height (top_of_all part_height xs)))
      → Counts Any (e.ended given T within close make) never (known n height) to (e.read_ended given within close make)
  counts_ended within close make lets n height to told =
      counts_bind_quiet (λ body. f.◌>>=◌ (word close) (λ _. nothing (make body))) never (λ body. expect close >> pure (make body)) to (counts_body within n height)
      (λ body. counts_end close (make body) never (known (n + size_of_all nodes body) (max height (top_of_all part_height body))) to (told body))
      (λ body. (still_end close (make body)).lets)
      (λ body b y rest d stop. first_led false close goes_body (λ _. nothing (make body)) lets b y rest d)

  counts_held : (within : Within) (kind : TokenKind) → Not (look_of kind) goes_body → (look_of kind ≡ l.Pipe → ⊥)
      → Rises nodes part_height Any (e.held given T within (look_of kind)) never (e.read_held given within (look_of kind))
  counts_held within kind lets other =
      rises_above nodes part_height (λ n height some.
      counts_bind (λ parameters. e.ended given T (in_block within) (look_of kind) (λ body. tree.Block parameters body)) never
      (λ parameters. e.read_ended given (in_block within) (look_of kind) (λ body. tree.Block parameters body)) (λ x. known (n + nodes x) (max height (part_height x)))
      (e.exact_pars given) (rises_pars n height)
      (λ parameters. counts_ended (in_block within) (look_of kind) (λ body. tree.Block parameters body) lets (n + size_of_all nodes parameters) (max height (top_of_all part_height parameters))
      (λ x. known (n + nodes x) (max height (part_height x)))
      (λ body. block_told n height parameters body some))
      (λ parameters b y rest d stop. e.ended_fails given (in_block within) (look_of kind) l.Pipe (λ body. tree.Block parameters body) refl (λ e. cc) other b y rest d))

  pub counts_doblock : table.DoBlock effort rec T
  counts_doblock within n height =
      counts_word effort (k.Plain l.Do) (λ _. e.held given T within l.KeywordEnd) never (λ _. e.read_held given within l.KeywordEnd) (λ _. counts_held within (k.Plain l.KeywordEnd) (λ spaced. refl) (λ e. cc) n height)

  rises_braces : (within : Within) → limits.Parts (ex.braces T within) never (bodies.braces effort.turns rec within)
  rises_braces within n height =
      counts_map (ex.braces T within) (λ w x c. (c.0, c.1, c.2, c.3, c.4, e.all_seps given within c.1 x c.5))
      (counts_word effort (k.Plain l.OpenBrace) (λ _. f.◌>>=◌ f.seps (λ _. e.bare given within)) never (λ _. separators effort.turns >> e.read_held given within l.CloseBrace) (λ _. counts_bind (λ _. e.bare given within) never (λ _. e.read_held given within l.CloseBrace) (λ x. known (n + nodes x) (max height (part_height x)))
      (exact_separators effort) (counts_silent f.seps (seen l.Newline) (known n height) (still_separators effort.turns))
      (λ _. counts_map (e.bare given within) (λ w x c. c.0) (counts_held within (k.Plain l.CloseBrace) (λ spaced. refl) (λ e. cc) n height))
      (λ u b y rest d stop. d.1 rest)))

  rises_any_block : (within : Within) → limits.Parts (ex.block T within true) never (e.any_block given within)
  rises_any_block within n height =
      counts_map (ex.block T within true) (without_leave (ex.braces T within) (ex.doblock T within))
      (counts_choose (seen l.OpenBrace) (ex.braces T within) (ex.doblock T within) never (bodies.braces effort.turns rec within) (bodies.doblock effort.turns rec within)
      (counts_weaken (Passing (seen l.OpenBrace)) (passing_same (seen l.OpenBrace)) (rises_braces within n height))
      (counts_weaken (Failing (seen l.OpenBrace)) (failing_same (seen l.OpenBrace)) (counts_doblock within n height))
      (led_heads l.OpenBrace (λ _. f.◌>>=◌ f.seps (λ _. e.held given T within l.CloseBrace)))
      (λ w x rest d stop. first_led false l.Do (seen l.OpenBrace) (λ _. e.held given T within l.KeywordEnd) (not_seen l.Do l.OpenBrace (λ e. cc)) w x rest d))

  pub counts_maybe_block : table.MaybeBlock effort rec T
  counts_maybe_block within true n height =
      counts_goes (e.brace_or_do given) (stops_less (either (e.brace_or_do given) never) (e.brace_or_do given) (λ found spaced c. rw c refl))
      (rises_optional (ex.block T within true) never (e.any_block given within) (e.brace_or_do given) nodes part_height (e.block_heads given within)
      (λ m high. counts_weaken (Passing (e.brace_or_do given)) (passing_same (e.brace_or_do given)) (rises_any_block within m high)) n height)
  counts_maybe_block within false n height =
      counts_map (maybe (ex.block T within false)) (maybe_first (ex.braces T within) (ex.doblock T within))
      (counts_goes (goes_tests.begins_block false)
      (stops_less (either (seen l.OpenBrace) never) (goes_tests.begins_block false) (λ found spaced c. rw (sym (e.only_brace effort.turns rec found spaced) ∙ c) refl))
      (counts_same (optional (seen l.OpenBrace) (bodies.braces effort.turns rec within)) (bodies.maybe_block effort.turns rec within false)
      (optional_same (goes_tests.begins_block false) (seen l.OpenBrace) (e.only_brace effort.turns rec)
      (bodies.braces effort.turns rec within) (bodies.doblock effort.turns rec within))
      (rises_optional (ex.braces T within) never (bodies.braces effort.turns rec within) (seen l.OpenBrace) nodes part_height
      (led_heads l.OpenBrace (λ _. f.◌>>=◌ f.seps (λ _. e.held given T within l.CloseBrace)))
      (λ m high. counts_weaken (Passing (seen l.OpenBrace)) (passing_same (seen l.OpenBrace)) (rises_braces within m high)) n height)))

  -- ---- plain blocks

  rises_plain_of : (within : Within) (opens ends : TokenKind) → Not (look_of ends) goes_body
      → ManyParts (e.plain_of given T within (look_of opens) (look_of ends)) never (e.read_plain given within (look_of opens) (look_of ends))
  rises_plain_of within opens ends lets n height =
      counts_word effort opens (λ _. e.ended given T (in_block within) (look_of ends) (λ body. body)) never (λ _. e.read_ended given (in_block within) (look_of ends) (λ body. body)) (λ _. counts_ended (in_block within) (look_of ends) (λ body. body) lets n height (λ xs. known (n + size_of_all nodes xs) (max height (top_of_all part_height xs))) (λ xs. refl))

  rises_brace : (within : Within) (n height : ℕ)
      → Counts (Passing (seen l.OpenBrace)) (e.plain_of given T within l.OpenBrace l.CloseBrace) never (known n height)
      (λ xs. known (n + size_of_all nodes xs) (max height (top_of_all part_height xs))) (e.read_plain given within l.OpenBrace l.CloseBrace)
  rises_brace within n height = counts_weaken (Passing (seen l.OpenBrace)) (passing_same (seen l.OpenBrace)) (rises_plain_of within (k.Plain l.OpenBrace) (k.Plain l.CloseBrace) (λ spaced. refl) n height)

  pub counts_plain : table.Plain effort rec T
  counts_plain within true n height =
      counts_map (ex.plain T within true) (without_leave (e.plain_of given T within l.OpenBrace l.CloseBrace) (e.plain_of given T within l.Do l.KeywordEnd))
      (counts_choose (seen l.OpenBrace) (e.plain_of given T within l.OpenBrace l.CloseBrace) (e.plain_of given T within l.Do l.KeywordEnd) never
      (e.read_plain given within l.OpenBrace l.CloseBrace) (e.read_plain given within l.Do l.KeywordEnd)
      (rises_brace within n height)
      (counts_weaken (Failing (seen l.OpenBrace)) (failing_same (seen l.OpenBrace)) (rises_plain_of within (k.Plain l.Do) (k.Plain l.KeywordEnd) (λ spaced. refl) n height))
      (e.brace_heads given within)
      (λ w x rest d stop. first_led false l.Do (seen l.OpenBrace) (λ _. e.ended given T (in_block within) l.KeywordEnd (λ body. body)) (not_seen l.Do l.OpenBrace (λ e. cc)) w x rest d))
  counts_plain within false n height =
      counts_map (ex.plain T within false) (first_only (e.plain_of given T within l.OpenBrace l.CloseBrace) (e.plain_of given T within l.Do l.KeywordEnd))
      (counts_only (seen l.OpenBrace) (e.read_plain given within l.OpenBrace l.CloseBrace) (rises_brace within n height))

  -- ---- arguments

  pub counts_inside : table.Inside effort rec T
  counts_inside within free =
      let some = given.some (Or within true) in
      rises_listed_parts effort (S (Or within true)) (T (Or within true)) (goes_or true) (part (rec (Or within true))) (exact_part (rec (Or within true)) (given.exact (Or within true)))
      (e.or_fails given within true l.Newline refl) some.0 some.1 some.2 (seen_apart l.Comma (goes_or true) (λ spaced. refl))
      nodes part_height (rises_part nodes nesting (counts.or within true))

  rises_enclosed : (within : Within) (free : Bool) → ManyParts (f.parenthesized (or_none (ex.inside T within free))) never (bodies.enclosed effort.turns rec within)
  rises_enclosed within free n height =
      counts_word effort (k.Plain l.OpenParenthesis) (λ _. e.arguments_of given T within free) never
      (λ _. separators effort.turns >> (unless_closed l.CloseParenthesis (bodies.inside effort.turns rec within) >>= λ xs. read_closed effort.turns l.CloseParenthesis xs))
      (λ _. rises_or_none effort (ex.inside S within free) (ex.inside T within free) (either (seen l.Comma) (goes_or true)) (bodies.inside effort.turns rec within) (e.exact_inside given within free)
      (e.inside_fails given within free l.Newline refl)
      (not_either l.Newline (seen l.Comma) (goes_or true) (not_seen l.Newline l.Comma (λ e. cc)) (λ spaced. refl))
      l.CloseParenthesis
      (not_either l.CloseParenthesis (seen l.Comma) (goes_or true) (not_seen l.CloseParenthesis l.Comma (λ e. cc)) (λ spaced. refl))
      (λ e. cc) (e.inside_fails given within free l.CloseParenthesis refl)
      (size_of_all nodes) (top_of_all part_height) refl refl (counts_inside within free) n height)

  pub counts_arguments : table.Arguments effort rec T
  counts_arguments within free n height =
      let sure : Heads (seen l.OpenParenthesis) (f.parenthesized (or_none (ex.inside T within free))) = led_heads l.OpenParenthesis (λ _. e.arguments_of given T within free) in
      counts_goes (tight_seen l.OpenParenthesis) (stops_less (either (tight_seen l.OpenParenthesis) never) (tight_seen l.OpenParenthesis) (λ found spaced c. rw c refl))
      (rises_optional (tight (f.parenthesized (or_none (ex.inside T within free)))) never (bodies.enclosed effort.turns rec within) (tight_seen l.OpenParenthesis) (size_of_all nodes) (top_of_all part_height)
      (tight_heads l.OpenParenthesis (f.parenthesized (or_none (ex.inside T within free))) sure)
      (λ m high. counts_tight l.OpenParenthesis (rises_enclosed within free m high)) n height)
