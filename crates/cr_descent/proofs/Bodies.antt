-- Bodies, blocks and arguments are read exactly.
use Rattle.std.proofs.Common.{◌≡◌, ℕ, Bool, true, false, not, List, [], ◌∷◌, ◌++◌, inl, inr, refl, sym, ap, subst, ◌∙◌, append_assoc}
use Rattle.std.proofs.lemmas.Bool.{both_ways, not-false}
use Rattle.std.specs.Prelude.{None}
use Rattle.cr_syntax.specs.declared.look.TokenLook.{TokenLook}
use Rattle.cr_syntax.specs.declared.look.TokenLook.TheVariants as l
use Rattle.cr_syntax.specs.declared.token.Token.{Token}
use Rattle.cr_syntax.specs.declared.token.TokenKind.{TokenKind}
use Rattle.cr_syntax.specs.declared.token.TokenKind.TheVariants as k
use Rattle.cr_syntax.specs.Look.{look_of}
use Rattle.cr_grammar.specs.declared.tree.Tree.{Tree}
use Rattle.cr_grammar.specs.declared.tree.Tree.TheVariants as tree
use Rattle.cr_grammar.specs.declared.within.Within.{Within}
use Rattle.cr_grammar.specs.Forms.{Form, nothing, ◌<|>◌, where_true, maybe, or_none, word, tight}
use Rattle.cr_grammar.specs.Forms as f
use Rattle.cr_grammar.specs.declared.wanted.Wanted.{Wanted}
use Rattle.cr_grammar.specs.declared.wanted.Wanted.TheVariants.{Or, Stmt}
use Rattle.cr_grammar.specs.Wanted.{in_block}
use Rattle.cr_grammar.specs.Laws.{begins_or, begins_stmt}
use Rattle.cr_grammar.specs.Expressions as ex
use Rattle.cr_readers.specs.Goes as goes_tests
use Rattle.cr_readers.specs.Reader.{Reader, Test, passes, seen, tight_seen, either, never, expect, choose, pure, grow, part, ◌>>=◌, ◌>>◌, same_look}
use Rattle.cr_readers.specs.Lists.{optional, unless_closed, separators, listed, stmts}
use Rattle.cr_exact.specs.Exact.{Stops, Effort, Exact, Any}
use Rattle.cr_readers.specs.Goes.{begins_line, closes, ends_stmt, goes_body, goes_stmt, goes_or, goes_primary}
use Rattle.cr_readers.specs.Bodies as bodies
use Rattle.cr_exact.proofs.TokenTests.{look_is_same, Not, never_stops, not_either, not_seen, other_look, seen_apart, look_apart, not_tight_seen, Less, less_tight_seen}
use Rattle.cr_exact.proofs.Sequence.{exact_bind, exact_pure, exact_map, exact_goes, weaken}
use Rattle.cr_exact.proofs.Tokens.{a_token, exact_word, exact_choose, exact_only}
use Rattle.cr_exact.proofs.Forms.{a_word, no_seps, seps_append, spelled_stmts, allowed, without_leave, first_only, maybe_first, first_maybe}
use Rattle.cr_exact.proofs.Heads.{Fails, NoLine, led_heads, word_passes, Heads, first_bind, first_holding, first_led, first_word, first_tested}
use Rattle.cr_exact.proofs.Nodes.{exact_silent, silent_grow, exact_part}
use Rattle.cr_exact.proofs.Lists.{closed, exact_end, exact_listed, exact_optional, exact_optional_where, exact_separators, exact_tight, read_closed, some_closed, tight_heads, optional_same}
use Rattle.cr_exact.proofs.Closed.{exact_or_none, exact_same}
use Rattle.cr_exact.proofs.Moves.{Moves, moves_bind, moves_word, moves_part, moves_tight, moves_choose, advances_bind, advances_choose, advances_pure}
use Rattle.cr_exact.proofs.Sequence.{never_back}
use Rattle.cr_exact.proofs.Forms.{one_real}
use Rattle.cr_exact.proofs.Heads.{led_at, led_real}
use Rattle.cr_exact.proofs.Lists.{exact_closed}
use Rattle.cr_exact.proofs.Lines.{exact_stmts, lines_stop, stmts_back, stmts_out, stmts_stop}
use Rattle.cr_descent.proofs.Claims as claims
use Rattle.cr_descent.proofs.Words.{exact_ident}

-- ---- tables

-- What ends a body is no separator, begins no statement, and ends a statement.
closing : (within : Within) (found : TokenLook) → closes found ≡ true → (begins_stmt within found ≡ false) × (ends_stmt found ≡ true)
closing within l.KeywordEnd e = (refl, refl)
closing within l.CloseBrace e = (refl, refl)
closing within l.Else e = (refl, refl)
closing within l.Elsif e = (refl, refl)
closing within l.In e = (refl, refl)
closing within l.When e = (refl, refl)
closing within l.End e = (refl, refl)
closing within other e = absurd cc

pub body_ends : (within : Within) (found : TokenLook) (spaced : Bool) → goes_body found spaced ≡ false
    → (seen l.Newline found spaced ≡ false) × (begins_line within found spaced ≡ false) × (goes_stmt found spaced ≡ false)
body_ends within found spaced e =
    let is = not-false (closes found) e in
    let both = closing within found is in
    (other_look found l.Newline (λ same. both_ways _ refl (subst (λ v. closes v ≡ true) same is)), both.0, ap not both.1)

-- ---- where only one way is open

-- without a free `do`, a block begins with a brace
pub only_brace : (turns : ℕ) (rec : Wanted → Reader Tree) (found : TokenLook) (spaced : Bool) → goes_tests.begins_block false found spaced ≡ seen l.OpenBrace found spaced
only_brace turns rec l.OpenBrace spaced = sym (look_is_same l.OpenBrace l.OpenBrace refl)
only_brace turns rec l.Do spaced = sym (other_look l.Do l.OpenBrace (λ e. cc))
only_brace turns rec other spaced = sym (other_look other l.OpenBrace (λ e. cc))

-- A block begins with no parenthesis.
pub no_parenthesis : {X : Type 0} (free : Bool) (K L : ℕ → Form X) → Fails (tight_seen l.OpenParenthesis) (f.◌>>=◌ (word l.OpenBrace) K <|> where_true free (f.◌>>=◌ (word l.Do) L))
unfolding same_look
no_parenthesis free K L w x rest (inl c) = first_led false l.OpenBrace (tight_seen l.OpenParenthesis) K (not_tight_seen l.OpenBrace l.OpenParenthesis refl) w x rest c
no_parenthesis free K L w x rest (inr c) = first_led false l.Do (tight_seen l.OpenParenthesis) L (not_tight_seen l.Do l.OpenParenthesis refl) w x rest c.1

-- What ends a primary opens no arguments.
pub parenthesis_less : (free : Bool) → Less (tight_seen l.OpenParenthesis) (goes_primary free)
parenthesis_less free = less_tight_seen l.OpenParenthesis (goes_primary free) refl

-- What ends a primary begins no block.
pub block_less : (turns : ℕ) (rec : Wanted → Reader Tree) (free : Bool) → Less (goes_tests.begins_block free) (goes_primary free)
block_less turns rec free l.OpenBrace spaced e = e
block_less turns rec free l.Do spaced e = e
block_less turns rec free other spaced e = refl

module _ {effort : Effort} {rec : Wanted → Reader Tree} {S T : Wanted → Form Tree} (given : claims.Given effort rec S T) where
  -- ---- statements

  pub stmt_heads : (within : Within) → Heads (begins_line within) (T (Stmt within))
  stmt_heads within = first_tested true (begins_stmt within) (begins_line within) (T (Stmt within)) (λ look spaced is. is) (given.stmt_begins within)

  -- A statement begins with no token of a look with which none begins.
  pub stmt_fails : (within : Within) (look : TokenLook) → begins_stmt within look ≡ false → Fails (seen look) (T (Stmt within))
  stmt_fails within look e = first_tested false (begins_stmt within) (seen look) (T (Stmt within)) (look_apart (begins_stmt within) look e) (given.stmt_begins within)

  -- statements, each of which is read so
  pub exact_statements : (within : Within) (p : Reader Tree) → Exact effort Any (S (Stmt within)) (T (Stmt within)) goes_stmt p
      → Moves (begins_line within) p → Exact effort Any (ex.body S within) (ex.body T within) goes_body (stmts effort.turns (begins_line within) p)
  exact_statements within p ep moves =
      exact_stmts effort (S (Stmt within)) (T (Stmt within)) (begins_line within) goes_stmt p ep
      (stmt_heads within) (λ spaced. refl) (λ spaced. refl) goes_body (body_ends within) moves

  pub exact_body : claims.Body effort rec S T
  exact_body within = exact_statements within (part (rec (Stmt within))) (exact_part (rec (Stmt within)) (given.exact (Stmt within)))
      (moves_part (rec (Stmt within)) (given.stmt_moves within))

  pub exact_then : claims.Then effort rec S T
  exact_then =
      exact_choose effort (seen l.Newline) (word l.Newline) (word l.Newline) (word l.Then) (word l.Then) never (expect l.Newline) (expect l.Then)
      (weaken _ (exact_word effort (k.Plain l.Newline) never)) (weaken _ (exact_word effort (k.Plain l.Then) never))
      (word_passes l.Newline) (λ w at rest d stop. first_word false l.Then (seen l.Newline) (not_seen l.Then l.Newline (λ e. cc)) w at rest d)
      (λ x s d clear is. absurd (one_real [] d.0 d.1 refl))

  pub exact_otherwise : claims.Otherwise effort rec S T
  exact_otherwise within =
      exact_optional effort (f.◌>>◌ (word l.Else) (ex.body S within)) (f.◌>>◌ (word l.Else) (ex.body T within)) goes_body (expect l.Else >> bodies.body effort.turns rec within)
      (exact_bind (λ _. ex.body S within) (λ _. ex.body T within) goes_body (λ _. bodies.body effort.turns rec within)
      (exact_word effort (k.Plain l.Else) never) (λ _. exact_body within) (λ _. spelled_stmts (S (Stmt within))) (λ at b y rest d stop. never_stops (b ++ rest)))
      (seen l.Else) (led_heads l.Else (λ _. ex.body T within)) (moves_bind (moves_word l.Else) (λ _. never_back (exact_body within)))

  -- ---- blocks

  -- the statements of a body and the word that closes it
  abbrev pub ended : {X : Type 0} → (Wanted → Form Tree) → Within → TokenLook → (List Tree → X) → Form X
  ended U within close make = f.◌>>=◌ (ex.body U within) (λ body. f.◌>>=◌ (word close) (λ _. nothing (make body)))

  abbrev pub read_ended : {X : Type 0} → Within → TokenLook → (List Tree → X) → Reader X
  read_ended within close make = bodies.body effort.turns rec within >>= λ body. expect close >> pure (make body)

  some_ended : {X : Type 0} (within : Within) (kind : TokenKind) (make : List Tree → X) → ended S within (look_of kind) make (a_token kind ∷ []) (make [])
  some_ended within kind make = ([], a_token kind ∷ [], [], refl, (spelled_stmts (S (Stmt within))).2, a_word kind (make []))

  exact_ended : {X : Type 0} (within : Within) (kind : TokenKind) (make : List Tree → X) → Not (look_of kind) goes_body
      → Exact effort Any (ended S within (look_of kind) make) (ended T within (look_of kind) make) never (read_ended within (look_of kind) make)
  exact_ended within kind make lets =
      exact_bind (λ body. f.◌>>=◌ (word (look_of kind)) (λ _. nothing (make body))) (λ body. f.◌>>=◌ (word (look_of kind)) (λ _. nothing (make body))) never
      (λ body. expect (look_of kind) >> pure (make body))
      (exact_body within) (λ body. exact_end effort kind (make body)) (λ body. (a_token kind ∷ [], make body, a_word kind (make body)))
      (λ body b y rest d stop. first_led false (look_of kind) goes_body (λ _. nothing (make body)) lets b y rest d)

  -- no body and no word that closes it begins with a token of this look
  pub ended_fails : {X : Type 0} (within : Within) (close look : TokenLook) (make : List Tree → X) → begins_stmt within look ≡ false → (l.Newline ≡ look → ⊥) → (close ≡ look → ⊥)
      → Fails (seen look) (ended T within close make)
  ended_fails within close look make none line other w y rest c =
      ap (λ (t : List Token). passes (seen look) (t ++ rest)) c.3 ∙ ap (passes (seen look)) (append_assoc c.0 c.1 rest)
      ∙ stmts_stop (T (Stmt within)) (seen look) (not_seen l.Newline look line) (stmt_fails within look none) c.0 c.2 (c.1 ++ rest) c.4
      (first_led false close (seen look) (λ _. nothing (make c.2)) (not_seen close look other) c.1 y rest c.5)

  -- ---- parameters of blocks

  pub exact_parameter : Exact effort Any (ex.block_parameter S) (ex.block_parameter T) never (part (bodies.block_parameter effort.turns rec))
  exact_parameter =
      exact_part (bodies.block_parameter effort.turns rec)
      (exact_bind (λ name. nothing (tree.Parameter name.at false name.text None)) (λ name. nothing (tree.Parameter name.at false name.text None)) never
      (λ name. grow name.at >> pure (tree.Parameter name.at false name.text None))
      (exact_ident effort never)
      (λ name. exact_silent (grow name.at) (silent_grow name.at) (pure (tree.Parameter name.at false name.text None)) (exact_pure effort (tree.Parameter name.at false name.text None) never))
      (λ name. ([], tree.Parameter name.at false name.text None, (refl, refl)))
      (λ name b y rest d stop. never_stops (b ++ rest)))

  pub parameter_lineless : NoLine (ex.block_parameter T)
  parameter_lineless =
      first_bind false (seen l.Newline) f.ident (λ name. nothing (tree.Parameter name.at false name.text None))
      (first_holding false (λ text. k.Ident text) (seen l.Newline) (λ text. not_seen l.Ident l.Newline (λ e. cc)))

  abbrev pub a_name : List Token
  a_name = a_token (k.Ident []) ∷ []

  abbrev pub a_parameter : Tree
  a_parameter = tree.Parameter 0 false [] None

  pub some_parameter : ex.block_parameter S a_name a_parameter
  some_parameter = (a_name, [], record { at = 0; text = [] }, refl, (a_token (k.Ident []), refl, (refl, refl)), (refl, refl))

  -- what follows the `|` that opens parameters
  abbrev pub names_of : (Wanted → Form Tree) → Form (List Tree)
  names_of U = f.◌>>=◌ (f.listed (ex.block_parameter U)) (λ names. f.◌>>=◌ (word l.Pipe) (λ _. nothing names))

  abbrev pub read_names : Reader (List Tree)
  read_names = listed effort.turns (part (bodies.block_parameter effort.turns rec)) >>= λ names. expect l.Pipe >> pure names

  exact_names : Exact effort Any (names_of S) (names_of T) never read_names
  exact_names =
      exact_bind (λ names. f.◌>>=◌ (word l.Pipe) (λ _. nothing names)) (λ names. f.◌>>=◌ (word l.Pipe) (λ _. nothing names)) never (λ names. expect l.Pipe >> pure names)
      (exact_listed effort (ex.block_parameter S) (ex.block_parameter T) never (part (bodies.block_parameter effort.turns rec)) exact_parameter
      parameter_lineless a_name a_parameter some_parameter (seen_apart l.Comma never (λ spaced. refl)))
      (λ names. exact_end effort (k.Plain l.Pipe) names)
      (λ names. (a_token (k.Plain l.Pipe) ∷ [], names, a_word (k.Plain l.Pipe) names))
      (λ names b y rest d stop. first_led false l.Pipe (either (seen l.Comma) never) (λ _. nothing names)
      (not_either l.Pipe (seen l.Comma) never (not_seen l.Pipe l.Comma (λ e. cc)) (λ spaced. refl)) b y rest d)

  some_names : names_of S (a_name ++ (a_token (k.Plain l.Pipe) ∷ [])) (a_parameter ∷ [])
  some_names = (a_name, a_token (k.Plain l.Pipe) ∷ [], a_parameter ∷ [], refl, (a_name, [], a_parameter, refl, some_parameter, ([], [], [], refl, refl, (refl, refl))), a_word (k.Plain l.Pipe) (a_parameter ∷ []))

  pub exact_pars : Exact effort Any (or_none (ex.pars S)) (or_none (ex.pars T)) (seen l.Pipe) (bodies.pars effort.turns rec)
  exact_pars =
      exact_choose effort (seen l.Pipe) (ex.pars S) (ex.pars T) (nothing []) (nothing []) (seen l.Pipe) (expect l.Pipe >> read_names) (pure [])
      (weaken _ (exact_bind (λ _. names_of S) (λ _. names_of T) (seen l.Pipe) (λ _. read_names) (exact_word effort (k.Plain l.Pipe) never)
      (λ _. exact_goes (seen l.Pipe) (λ look spaced e. refl) exact_names)
      (λ _. (a_name ++ (a_token (k.Plain l.Pipe) ∷ []), a_parameter ∷ [], some_names)) (λ at b y rest d stop. never_stops (b ++ rest))))
      (weaken _ (exact_pure effort [] (seen l.Pipe)))
      (led_heads l.Pipe (λ _. names_of T))
      (λ w x rest d stop. subst (λ (t : List Token). Stops (seen l.Pipe) (t ++ rest)) (sym d.0) stop)
      (λ x s d clear is. (moves_bind (moves_word l.Pipe) (λ _. never_back exact_names)).beyond s clear is)

  -- ---- blocks

  -- what a block holds, and the word that closes it
  abbrev pub held : (Wanted → Form Tree) → Within → TokenLook → Form Tree
  held U within close = f.◌>>=◌ (or_none (ex.pars U)) (λ parameters. ended U (in_block within) close (λ body. tree.Block parameters body))

  abbrev pub read_held : Within → TokenLook → Reader Tree
  read_held within close = bodies.pars effort.turns rec >>= λ parameters. read_ended (in_block within) close (λ body. tree.Block parameters body)

  some_held : (within : Within) (kind : TokenKind) → held S within (look_of kind) (a_token kind ∷ []) (tree.Block [] [])
  some_held within kind = ([], a_token kind ∷ [], [], refl, inr (refl, refl), some_ended (in_block within) kind (λ body. tree.Block [] body))

  exact_held : (within : Within) (kind : TokenKind) → Not (look_of kind) goes_body → (look_of kind ≡ l.Pipe → ⊥)
      → Exact effort Any (held S within (look_of kind)) (held T within (look_of kind)) never (read_held within (look_of kind))
  exact_held within kind lets other =
      exact_bind (λ parameters. ended S (in_block within) (look_of kind) (λ body. tree.Block parameters body))
      (λ parameters. ended T (in_block within) (look_of kind) (λ body. tree.Block parameters body)) never
      (λ parameters. read_ended (in_block within) (look_of kind) (λ body. tree.Block parameters body))
      exact_pars
      (λ parameters. exact_ended (in_block within) kind (λ body. tree.Block parameters body) lets)
      (λ parameters. (a_token kind ∷ [], tree.Block parameters [], some_ended (in_block within) kind (λ body. tree.Block parameters body)))
      (λ parameters b y rest d stop. ended_fails (in_block within) (look_of kind) l.Pipe (λ body. tree.Block parameters body) refl (λ e. cc) other b y rest d)

  pub exact_doblock : claims.DoBlock effort rec S T
  exact_doblock within =
      exact_bind (λ _. held S within l.KeywordEnd) (λ _. held T within l.KeywordEnd) never (λ _. read_held within l.KeywordEnd)
      (exact_word effort (k.Plain l.Do) never) (λ _. exact_held within (k.Plain l.KeywordEnd) (λ spaced. refl) (λ e. cc))
      (λ _. (a_token (k.Plain l.KeywordEnd) ∷ [], tree.Block [] [], some_held within (k.Plain l.KeywordEnd))) (λ at b y rest d stop. never_stops (b ++ rest))

  -- what a block in braces holds behind all separators that come first
  abbrev pub bare : Within → Form Tree
  bare within w x = held T within l.CloseBrace w x × ((rest : List Token) → Stops (seen l.Newline) (w ++ rest))

  regroup : (a b c d : List Token) → a ++ ((b ++ c) ++ d) ≡ (a ++ b) ++ (c ++ d)
  regroup a b c d = simp append_assoc

  -- Where no parameters come, all separators stand before the body.
  pub all_seps : (within : Within) (w : List Token) (x : Tree) → f.◌>>=◌ f.seps (λ _. held T within l.CloseBrace) w x → f.◌>>=◌ f.seps (λ _. bare within) w x
  all_seps within w x (a, b, u, e, seps, (b0, b1, parameters, split, inl pars, tail)) = (
    a,
    b,
    u,
    e,
    seps,
    (
      (b0, b1, parameters, split, inl pars, tail),
      λ rest.
          first_bind false (seen l.Newline) (ex.pars T) (λ ps. ended T (in_block within) l.CloseBrace (λ body. tree.Block ps body))
          (first_led false l.Pipe (seen l.Newline) (λ _. names_of T) (not_seen l.Pipe l.Newline (λ e. cc))) b x rest (b0, b1, parameters, split, pars, tail),
    ),
  )
  all_seps within w x (a, b, u, e, seps, (b0, b1, parameters, split, inr none, tail)) =
      let d = stmts_back (T (Stmt (in_block within))) tail.0 tail.2 tail.4 in
      let whole : w ≡ (a ++ d.0) ++ (d.1 ++ tail.1) =
      e ∙ ap (λ (t : List Token). a ++ t) (split ∙ ap (λ (t : List Token). t ++ b1) none.0 ∙ tail.3 ∙ ap (λ (t : List Token). t ++ tail.1) d.3)
      ∙ regroup a d.0 d.1 tail.1 in (
        a ++ d.0,
        d.1 ++ tail.1,
        tt,
        whole,
        seps_append a d.0 u d.2 seps d.4,
        (
          (
            [],
            d.1 ++ tail.1,
            parameters,
            refl,
            inr (refl, none.1),
            (d.1, tail.1, tail.2, refl, stmts_out (T (Stmt (in_block within))) d.1 tail.2 ([], d.1, tt, refl, no_seps, d.5), tail.5),
          ),
          λ rest. ap (passes (seen l.Newline)) (append_assoc d.1 tail.1 rest)
              ∙ lines_stop (T (Stmt (in_block within))) (seen l.Newline) (stmt_fails (in_block within) l.Newline refl) d.1 tail.2 (tail.1 ++ rest) d.5
              (first_led false l.CloseBrace (seen l.Newline) (λ _. nothing (tree.Block parameters tail.2)) (not_seen l.CloseBrace l.Newline (λ e. cc)) tail.1 x rest tail.5),
        ),
      )

  exact_braces : (within : Within) → Exact effort Any (ex.braces S within) (ex.braces T within) never (bodies.braces effort.turns rec within)
  exact_braces within =
      exact_map (ex.braces S within) (ex.braces T within) (λ w x c. c) (λ w x c. (c.0, c.1, c.2, c.3, c.4, all_seps within c.1 x c.5))
      (exact_bind (λ _. f.◌>>=◌ f.seps (λ _. held S within l.CloseBrace)) (λ _. f.◌>>=◌ f.seps (λ _. bare within)) never (λ _. separators effort.turns >> read_held within l.CloseBrace)
      (exact_word effort (k.Plain l.OpenBrace) never)
      (λ _. exact_bind (λ _. held S within l.CloseBrace) (λ _. bare within) never (λ _. read_held within l.CloseBrace)
      (exact_separators effort)
      (λ _. exact_map (held S within l.CloseBrace) (bare within) (λ w x c. c) (λ w x c. c.0) (exact_held within (k.Plain l.CloseBrace) (λ spaced. refl) (λ e. cc)))
      (λ _. (a_token (k.Plain l.CloseBrace) ∷ [], tree.Block [] [], some_held within (k.Plain l.CloseBrace)))
      (λ u b y rest d stop. d.1 rest))
      (λ _. (a_token (k.Plain l.CloseBrace) ∷ [], tree.Block [] [], ([], a_token (k.Plain l.CloseBrace) ∷ [], tt, refl, no_seps, some_held within (k.Plain l.CloseBrace))))
      (λ at b y rest d stop. never_stops (b ++ rest)))

  braces_moves : (within : Within) → Moves (seen l.OpenBrace) (bodies.braces effort.turns rec within)
  braces_moves within =
      moves_bind (moves_word l.OpenBrace) (λ _. advances_bind (never_back (exact_separators effort))
      (λ _. never_back (exact_held within (k.Plain l.CloseBrace) (λ spaced. refl) (λ e. cc))))

  pub doblock_moves : (within : Within) → Moves (seen l.Do) (bodies.doblock effort.turns rec within)
  doblock_moves within = moves_bind (moves_word l.Do) (λ _. never_back (exact_held within (k.Plain l.KeywordEnd) (λ spaced. refl) (λ e. cc)))

  brace_else_do : (found : TokenLook) (spaced : Bool) → goes_tests.begins_block true found spaced ≡ true → seen l.OpenBrace found spaced ≡ false → seen l.Do found spaced ≡ true
  unfolding same_look
  brace_else_do l.OpenBrace spaced is other = absurd cc
  brace_else_do l.Do spaced is other = refl
  brace_else_do _ spaced is other = absurd cc

  abbrev pub any_block : Within → Reader Tree
  any_block within = choose (seen l.OpenBrace) (bodies.braces effort.turns rec within) (bodies.doblock effort.turns rec within)

  abbrev pub brace_or_do : Test
  brace_or_do = goes_tests.begins_block true

  exact_any_block : (within : Within) → Exact effort Any (ex.block S within true) (ex.block T within true) never (any_block within)
  exact_any_block within =
      exact_map (ex.block S within true) (ex.block T within true) (allowed (ex.braces S within) (ex.doblock S within)) (without_leave (ex.braces T within) (ex.doblock T within))
      (exact_choose effort (seen l.OpenBrace) (ex.braces S within) (ex.braces T within) (ex.doblock S within) (ex.doblock T within) never
      (bodies.braces effort.turns rec within) (bodies.doblock effort.turns rec within)
      (weaken _ (exact_braces within)) (weaken _ (exact_doblock within))
      (led_heads l.OpenBrace (λ _. f.◌>>=◌ f.seps (λ _. held T within l.CloseBrace)))
      (λ w x rest d stop. first_led false l.Do (seen l.OpenBrace) (λ _. held T within l.KeywordEnd) (not_seen l.Do l.OpenBrace (λ e. cc)) w x rest d)
      (λ x s d clear is. absurd (led_real l.Do [] (led_at l.Do [] d.0 d.1 d.2 d.3 d.4) refl)))

  pub block_heads : (within : Within) → Heads brace_or_do (ex.block T within true)
  block_heads within w x rest (inl c) = first_led true l.OpenBrace brace_or_do (λ _. f.◌>>=◌ f.seps (λ _. held T within l.CloseBrace)) (λ spaced. refl) w x rest c
  block_heads within w x rest (inr c) = first_led true l.Do brace_or_do (λ _. held T within l.KeywordEnd) (λ spaced. refl) w x rest c.1

  pub exact_maybe_block : claims.MaybeBlock effort rec S T
  exact_maybe_block within true =
      exact_goes brace_or_do (λ found spaced e. rw e refl)
      (exact_optional_where effort (ex.block S within true) (ex.block T within true) never (any_block within) brace_or_do
      (weaken _ (exact_any_block within)) (block_heads within)
      (moves_choose (seen l.OpenBrace) (goes_tests.begins_block true) (seen l.Do) brace_else_do (braces_moves within) (doblock_moves within)))
  exact_maybe_block within false =
      exact_map (maybe (ex.block S within false)) (maybe (ex.block T within false))
      (first_maybe (ex.braces S within) (ex.doblock S within)) (maybe_first (ex.braces T within) (ex.doblock T within))
      (exact_goes (goes_tests.begins_block false) (λ found spaced e. rw (sym (only_brace effort.turns rec found spaced) ∙ e) refl)
      (exact_same (optional (seen l.OpenBrace) (bodies.braces effort.turns rec within)) (bodies.maybe_block effort.turns rec within false)
      (optional_same (goes_tests.begins_block false) (seen l.OpenBrace) (only_brace effort.turns rec)
      (bodies.braces effort.turns rec within) (bodies.doblock effort.turns rec within))
      (exact_optional effort (ex.braces S within) (ex.braces T within) never (bodies.braces effort.turns rec within) (exact_braces within)
      (seen l.OpenBrace) (led_heads l.OpenBrace (λ _. f.◌>>=◌ f.seps (λ _. held T within l.CloseBrace))) (braces_moves within))))

  -- ---- plain blocks

  -- statements between an opening and a closing word
  abbrev pub plain_of : (Wanted → Form Tree) → Within → TokenLook → TokenLook → Form (List Tree)
  plain_of U within open_ close = f.◌>>=◌ (word open_) (λ _. ended U (in_block within) close (λ body. body))

  abbrev pub read_plain : Within → TokenLook → TokenLook → Reader (List Tree)
  read_plain within open_ close = expect open_ >> read_ended (in_block within) close (λ body. body)

  exact_plain_of : (within : Within) (opens ends : TokenKind) → Not (look_of ends) goes_body
      → Exact effort Any (plain_of S within (look_of opens) (look_of ends)) (plain_of T within (look_of opens) (look_of ends)) never (read_plain within (look_of opens) (look_of ends))
  exact_plain_of within opens ends lets =
      exact_bind (λ _. ended S (in_block within) (look_of ends) (λ body. body)) (λ _. ended T (in_block within) (look_of ends) (λ body. body)) never
      (λ _. read_ended (in_block within) (look_of ends) (λ body. body))
      (exact_word effort opens never) (λ _. exact_ended (in_block within) ends (λ body. body) lets)
      (λ _. (a_token ends ∷ [], [], some_ended (in_block within) ends (λ body. body))) (λ at b y rest d stop. never_stops (b ++ rest))

  some_plain : (within : Within) → plain_of S within l.OpenBrace l.CloseBrace (a_token (k.Plain l.OpenBrace) ∷ (a_token (k.Plain l.CloseBrace) ∷ [])) []
  some_plain within =
      (a_token (k.Plain l.OpenBrace) ∷ [], a_token (k.Plain l.CloseBrace) ∷ [], 0, refl, (a_token (k.Plain l.OpenBrace), refl, (refl, refl)), some_ended (in_block within) (k.Plain l.CloseBrace) (λ body. body))

  pub brace_heads : (within : Within) → Heads (seen l.OpenBrace) (plain_of T within l.OpenBrace l.CloseBrace)
  brace_heads within = led_heads l.OpenBrace (λ _. ended T (in_block within) l.CloseBrace (λ body. body))

  pub exact_plain : claims.Plain effort rec S T
  exact_plain within true =
      exact_map (ex.plain S within true) (ex.plain T within true)
      (allowed (plain_of S within l.OpenBrace l.CloseBrace) (plain_of S within l.Do l.KeywordEnd))
      (without_leave (plain_of T within l.OpenBrace l.CloseBrace) (plain_of T within l.Do l.KeywordEnd))
      (exact_choose effort (seen l.OpenBrace) (plain_of S within l.OpenBrace l.CloseBrace) (plain_of T within l.OpenBrace l.CloseBrace)
      (plain_of S within l.Do l.KeywordEnd) (plain_of T within l.Do l.KeywordEnd) never
      (read_plain within l.OpenBrace l.CloseBrace) (read_plain within l.Do l.KeywordEnd)
      (weaken _ (exact_plain_of within (k.Plain l.OpenBrace) (k.Plain l.CloseBrace) (λ spaced. refl))) (weaken _ (exact_plain_of within (k.Plain l.Do) (k.Plain l.KeywordEnd) (λ spaced. refl)))
      (brace_heads within)
      (λ w x rest d stop. first_led false l.Do (seen l.OpenBrace) (λ _. ended T (in_block within) l.KeywordEnd (λ body. body)) (not_seen l.Do l.OpenBrace (λ e. cc)) w x rest d)
      (λ x s d clear is. absurd (led_real l.Do [] (led_at l.Do [] d.0 d.1 d.2 d.3 d.4) refl)))
  exact_plain within false =
      exact_map (ex.plain S within false) (ex.plain T within false) (λ w x c. inl c)
      (first_only (plain_of T within l.OpenBrace l.CloseBrace) (plain_of T within l.Do l.KeywordEnd))
      (exact_only (seen l.OpenBrace) (read_plain within l.OpenBrace l.CloseBrace) (weaken _ (exact_plain_of within (k.Plain l.OpenBrace) (k.Plain l.CloseBrace) (λ spaced. refl)))
      (brace_heads within) (a_token (k.Plain l.OpenBrace) ∷ (a_token (k.Plain l.CloseBrace) ∷ [])) [] (some_plain within))

  -- ---- arguments

  abbrev begins_argument : Within → Test
  begins_argument within found spaced = begins_or within found

  -- A value begins with no token of a look with which none begins.
  pub or_fails : (within : Within) (free : Bool) (look : TokenLook) → begins_or within look ≡ false → Fails (seen look) (T (Or within free))
  or_fails within free look e = first_tested false (begins_or within) (seen look) (T (Or within free)) (look_apart (begins_or within) look e) (given.or_begins within free)

  pub exact_inside : claims.Inside effort rec S T
  exact_inside within free =
      let some = given.some (Or within true) in
      exact_listed effort (S (Or within true)) (T (Or within true)) (goes_or true) (part (rec (Or within true)))
      (exact_part (rec (Or within true)) (given.exact (Or within true))) (or_fails within true l.Newline refl) some.0 some.1 some.2
      (seen_apart l.Comma (goes_or true) (λ spaced. refl))

  -- no argument begins with a token of a look with which no value begins
  pub inside_fails : (within : Within) (free : Bool) (look : TokenLook) → begins_or within look ≡ false → Fails (seen look) (ex.inside T within free)
  inside_fails within free look e =
      first_bind false (seen look) (T (Or within true)) (λ x. f.◌>>=◌ (f.many (f.◌>>◌ f.comma (T (Or within true)))) (λ xs. nothing (x ∷ xs))) (or_fails within true look e)

  -- what follows the `(`
  abbrev pub arguments_of : (Wanted → Form Tree) → Within → Bool → Form (List Tree)
  arguments_of U within free = f.◌>>=◌ f.seps (λ _. f.◌>>=◌ (or_none (ex.inside U within free)) (λ xs. closed l.CloseParenthesis xs))

  abbrev read_arguments : Within → Reader (List Tree)
  read_arguments within = separators effort.turns >> (unless_closed l.CloseParenthesis (bodies.inside effort.turns rec within) >>= λ xs. read_closed effort.turns l.CloseParenthesis xs)

  some_arguments : (within : Within) (free : Bool) → arguments_of S within free (a_token (k.Plain l.CloseParenthesis) ∷ []) []
  some_arguments within free =
      ([], a_token (k.Plain l.CloseParenthesis) ∷ [], tt, refl, no_seps, ([], a_token (k.Plain l.CloseParenthesis) ∷ [], [], refl, inr (refl, refl), some_closed (k.Plain l.CloseParenthesis) []))

  exact_enclosed : (within : Within) (free : Bool)
      → Exact effort Any (f.parenthesized (or_none (ex.inside S within free))) (f.parenthesized (or_none (ex.inside T within free))) never (bodies.enclosed effort.turns rec within)
  exact_enclosed within free =
      exact_bind (λ _. arguments_of S within free) (λ _. arguments_of T within free) never (λ _. read_arguments within)
      (exact_word effort (k.Plain l.OpenParenthesis) never)
      (λ _. exact_or_none effort (ex.inside S within free) (ex.inside T within free) (either (seen l.Comma) (goes_or true)) (bodies.inside effort.turns rec within) (exact_inside within free)
      (inside_fails within free l.Newline refl)
      (not_either l.Newline (seen l.Comma) (goes_or true) (not_seen l.Newline l.Comma (λ e. cc)) (λ spaced. refl))
      (k.Plain l.CloseParenthesis)
      (not_either l.CloseParenthesis (seen l.Comma) (goes_or true) (not_seen l.CloseParenthesis l.Comma (λ e. cc)) (λ spaced. refl))
      (λ e. cc) (inside_fails within free l.CloseParenthesis refl))
      (λ _. (a_token (k.Plain l.CloseParenthesis) ∷ [], [], some_arguments within free)) (λ at b y rest d stop. never_stops (b ++ rest))

  some_enclosed : (within : Within) (free : Bool) → f.parenthesized (or_none (ex.inside S within free)) (a_token (k.Plain l.OpenParenthesis) ∷ (a_token (k.Plain l.CloseParenthesis) ∷ [])) []
  some_enclosed within free = (a_token (k.Plain l.OpenParenthesis) ∷ [], a_token (k.Plain l.CloseParenthesis) ∷ [], 0, refl, (a_token (k.Plain l.OpenParenthesis), refl, (refl, refl)), some_arguments within free)

  pub exact_arguments : claims.Arguments effort rec S T
  exact_arguments within free =
      let sure : Heads (seen l.OpenParenthesis) (f.parenthesized (or_none (ex.inside T within free))) = led_heads l.OpenParenthesis (λ _. arguments_of T within free) in
      exact_goes (tight_seen l.OpenParenthesis) (λ found spaced e. rw e refl)
      (exact_optional_where effort (tight (f.parenthesized (or_none (ex.inside S within free)))) (tight (f.parenthesized (or_none (ex.inside T within free)))) never
      (bodies.enclosed effort.turns rec within) (tight_seen l.OpenParenthesis)
      (exact_tight l.OpenParenthesis (led_heads l.OpenParenthesis (λ _. arguments_of S within free))
      (a_token (k.Plain l.OpenParenthesis) ∷ (a_token (k.Plain l.CloseParenthesis) ∷ [])) [] (some_enclosed within free) refl (exact_enclosed within free))
      (tight_heads l.OpenParenthesis (f.parenthesized (or_none (ex.inside T within free))) sure)
      (moves_tight l.OpenParenthesis (moves_bind (moves_word l.OpenParenthesis) (λ _. advances_bind (never_back (exact_separators effort))
      (λ _. advances_bind (advances_choose (seen l.CloseParenthesis) (advances_pure []) (never_back (exact_inside within free)))
      (λ xs. never_back (exact_closed effort (k.Plain l.CloseParenthesis) xs (λ e. cc))))))))
