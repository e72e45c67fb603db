-- `if`, `while`, `case` and `select` are read exactly.
use Rattle.std.proofs.Common.{ℕ, Bool, true, false, List, [], inl, refl}
use Rattle.std.specs.Prelude.{Option, None}
use Rattle.cr_syntax.specs.declared.look.TokenLook.TheVariants as l
use Rattle.cr_syntax.specs.declared.token.TokenKind.{TokenKind}
use Rattle.cr_syntax.specs.declared.token.TokenKind.TheVariants as k
use Rattle.cr_syntax.specs.Look.{look_of}
use Rattle.cr_grammar.specs.declared.tree.Tree.{Tree}
use Rattle.cr_grammar.specs.declared.within.Within.{Within}
use Rattle.cr_grammar.specs.Forms.{Form, nothing, many}
use Rattle.cr_grammar.specs.Forms as f
use Rattle.cr_grammar.specs.Laws.{begins_type}
use Rattle.cr_grammar.specs.declared.wanted.Wanted.{Wanted}
use Rattle.cr_grammar.specs.declared.wanted.Wanted.TheVariants.{Written, When, Simple}
use Rattle.cr_grammar.specs.Wanted.{in_loop}
use Rattle.cr_grammar.specs.Expressions as ex
use Rattle.cr_readers.specs.Reader.{Reader, Test, either, seen, never}
use Rattle.cr_exact.specs.Exact.{Effort}
use Rattle.cr_readers.specs.Goes as g
use Rattle.cr_readers.specs.Bodies as bodies_spec
use Rattle.cr_readers.specs.Compounds as compounds
use Rattle.cr_exact.proofs.TokenTests.{Not, at_seen, look_apart, not_seen, not_either}
use Rattle.cr_exact.proofs.Forms.{spelled_word, spelled_stmts}
use Rattle.cr_exact.proofs.Heads.{tested}
use Rattle.cr_exact.proofs.Steps.{Begins, Starts, starts_word, starts_bind, starts_or, starts_nothing, starts_maybe, starts_many, starts_led, Reads, reads_word, reads_separators, reads_listed, reads_pure, reads_part, reads_grow, reads_bind, reads_sure, reads_map, reads_many, reads_some}
use Rattle.cr_exact.proofs.Steps.{reads_on}
use Rattle.cr_exact.proofs.Moves.{Moves, moves_bind, moves_word, advances_bind, advances_pure}
use Rattle.cr_descent.proofs.Claims as claims
use Rattle.cr_descent.proofs.Bodies as bodies

module _ {effort : Effort} {rec : Wanted → Reader Tree} {S T : Wanted → Form Tree} (given : claims.Given effort rec S T) where
  -- ---- the parts

  pub reads_rec : (v : Wanted) → Reads effort (S v) (T v) (g.goes_of v) (rec v)
  reads_rec v = (given.exact v, given.some v)

  pub reads_body : (within : Within) → Reads effort (ex.body S within) (ex.body T within) g.goes_body (bodies_spec.body effort.turns rec within)
  reads_body within = (bodies.exact_body given within, spelled_stmts _)

  pub reads_then : Reads effort (ex.then S) (ex.then T) never (bodies_spec.then effort.turns rec)
  reads_then = (bodies.exact_then given, (let s = spelled_word (k.Plain l.Newline) in (s.0, s.1, inl s.2)))

  pub reads_otherwise : (within : Within) → Reads effort (ex.otherwise S within) (ex.otherwise T within) (either (seen l.Else) g.goes_body) (bodies_spec.otherwise effort.turns rec within)
  reads_otherwise within = (bodies.exact_otherwise given within, ([], None, refl))

  pub begins_then : Begins g.goes_simple (ex.then T)
  begins_then = starts_or (starts_word l.Newline (λ spaced. refl)) (starts_word l.Then (λ spaced. refl))

  -- what follows the statements of a body, and a list of branches
  pub begins_end : (h : Test) → Not l.KeywordEnd h → {B : Type 0} (D : ℕ → Form B) → Begins h (f.◌>>=◌ (f.word l.KeywordEnd) D)
  begins_end h not D = starts_bind D (starts_word l.KeywordEnd not)

  pub end_else : Not l.KeywordEnd (either (seen l.Else) g.goes_body)
  end_else = not_either _ (seen l.Else) g.goes_body (not_seen l.KeywordEnd l.Else (λ e. cc)) (λ spaced. refl)

  pub end_elsif : Not l.KeywordEnd (either (seen l.Elsif) g.goes_body)
  end_elsif = not_either _ (seen l.Elsif) g.goes_body (not_seen l.KeywordEnd l.Elsif (λ e. cc)) (λ spaced. refl)

  pub else_elsif : Not l.Else (either (seen l.Elsif) g.goes_body)
  else_elsif = not_either _ (seen l.Elsif) g.goes_body (not_seen l.Else l.Elsif (λ e. cc)) (λ spaced. refl)

  pub end_in : Not l.KeywordEnd (either (seen l.In) g.goes_body)
  end_in = not_either _ (seen l.In) g.goes_body (not_seen l.KeywordEnd l.In (λ e. cc)) (λ spaced. refl)

  pub end_when : Not l.KeywordEnd (either (seen l.When) g.goes_body)
  end_when = not_either _ (seen l.When) g.goes_body (not_seen l.KeywordEnd l.When (λ e. cc)) (λ spaced. refl)

  pub else_when : Not l.Else (either (seen l.When) g.goes_body)
  else_when = not_either _ (seen l.When) g.goes_body (not_seen l.Else l.When (λ e. cc)) (λ spaced. refl)

  pub line_type : Not l.Newline (either (seen l.Comma) g.goes_type)
  line_type = not_either _ (seen l.Comma) g.goes_type (not_seen l.Newline l.Comma (λ e. cc)) (λ spaced. refl)

  pub then_type : Not l.Then (either (seen l.Comma) g.goes_type)
  then_type = not_either _ (seen l.Comma) g.goes_type (not_seen l.Then l.Comma (λ e. cc)) (λ spaced. refl)

  module _ (within : Within) (free : Bool) where
    pub looping : (kind : TokenKind) (until : Bool)
        → Reads effort (ex.looping_of S within free (look_of kind) until) (ex.looping_of T within free (look_of kind) until) never (compounds.looping effort.turns rec within free (look_of kind) until)
    looping kind until =
        reads_sure (reads_word effort kind never) (λ at. reads_grow at
        (reads_bind (reads_part (reads_rec (Simple (in_loop within)))) (λ condition.
        reads_sure (reads_word effort (k.Plain l.Newline) never) (λ _.
        reads_bind (reads_body (in_loop within)) (λ body.
        reads_map (λ _. _) (reads_word effort (k.Plain l.KeywordEnd) never))
        (λ body. begins_end g.goes_body (λ spaced. refl) _)))
        (λ condition. starts_bind _ (starts_word l.Newline (λ spaced. refl)))))

    pub elsif : Reads effort (ex.elsif S within free) (ex.elsif T within free) g.goes_body (compounds.elsif effort.turns rec within free)
    elsif =
        reads_sure (reads_word effort (k.Plain l.Elsif) never) (λ _.
        reads_bind (reads_part (reads_rec (Simple within))) (λ condition.
        reads_sure reads_then (λ _.
        reads_map (λ _. _) (reads_body within)))
        (λ condition. starts_bind _ begins_then))

    -- what may follow branches
    pub begins_otherwise : (h : Test) → Not l.Else h → {B : Type 0} (D : Option (List Tree) → Form B)
        → ((x : Option (List Tree)) → Begins h (D x)) → Begins h (f.◌>>=◌ (ex.otherwise T within) D)
    begins_otherwise h not D next = starts_maybe D (starts_bind _ (starts_word l.Else not)) next

    -- `if` and `unless`, with or without branches of `elsif`
    pub conditional : (kind : TokenKind) (unless : Bool) (R C : Form (List Tree))
        → Reads effort R C (either (seen l.Elsif) g.goes_body) (compounds.branches effort.turns rec within free unless)
        → ((D : List Tree → Form Tree) → ((xs : List Tree) → Begins g.goes_body (D xs)) → Begins g.goes_body (f.◌>>=◌ C D))
        → Reads effort (ex.conditional_of S within free (look_of kind) unless R) (ex.conditional_of T within free (look_of kind) unless C) never
        (compounds.conditional effort.turns rec within free (look_of kind) unless)
    conditional kind unless R C others begins_others =
        reads_sure (reads_word effort kind never) (λ at. reads_grow at
        (reads_bind (reads_part (reads_rec (Simple within))) (λ condition.
        reads_sure reads_then (λ _.
        reads_bind (reads_body within) (λ body.
        reads_bind others (λ others.
        reads_bind (reads_otherwise within) (λ otherwise.
        reads_map (λ _. _) (reads_word effort (k.Plain l.KeywordEnd) never))
        (λ otherwise. begins_end (either (seen l.Else) g.goes_body) end_else _))
        (λ others. begins_otherwise (either (seen l.Elsif) g.goes_body) else_elsif _ (λ x. begins_end (either (seen l.Elsif) g.goes_body) end_elsif _)))
        (λ body. begins_others _ (λ others. begins_otherwise g.goes_body (λ spaced. refl) _ (λ x. begins_end g.goes_body (λ spaced. refl) _)))))
        (λ condition. starts_bind _ begins_then)))

    pub types_lineless : Begins (seen l.Newline) (T (Written false))
    types_lineless = record {
      first = λ w x rest c. tested false begins_type (seen l.Newline) (look_apart begins_type l.Newline refl) w rest
          (given.type_begins false w x c);
    }

    pub in_clause : Reads effort (ex.in_clause S within free) (ex.in_clause T within free) g.goes_body (compounds.in_clause effort.turns rec within free)
    in_clause =
        reads_sure (reads_word effort (k.Plain l.In) never) (λ _.
        reads_bind (reads_listed (λ spaced. refl) types_lineless (reads_part (reads_rec (Written false)))) (λ types.
        reads_sure reads_then (λ _.
        reads_map (λ _. _) (reads_body within)))
        (λ types. starts_bind _ (starts_or (starts_word l.Newline line_type) (starts_word l.Then then_type))))

    pub elsif_moves : Moves (seen l.Elsif) (compounds.elsif effort.turns rec within free)
    elsif_moves =
        moves_bind (moves_word l.Elsif) (λ _. advances_bind (reads_on (reads_part (reads_rec (Simple within)))) (λ condition.
        advances_bind (reads_on reads_then) (λ _. advances_bind (reads_on (reads_body within)) (λ body. advances_pure _))))

    pub in_moves : Moves (seen l.In) (compounds.in_clause effort.turns rec within free)
    in_moves =
        moves_bind (moves_word l.In) (λ _. advances_bind (reads_on (reads_listed (λ spaced. refl) types_lineless (reads_part (reads_rec (Written false))))) (λ types.
        advances_bind (reads_on reads_then) (λ _. advances_bind (reads_on (reads_body within)) (λ body. advances_pure _))))

    pub when_heads : Starts true (seen l.When) (T (When within free))
    when_heads = record {
      first = λ w x rest c. tested true (λ a. seen l.When a false) (seen l.When) (λ a spaced is. is) w rest
          (given.when_begins within free w x c);
    }

    pub begins_when : Begins (seen l.Newline) (T (When within free))
    begins_when = starts_led l.When false (seen l.Newline) (not_seen l.When l.Newline (λ e. cc)) when_heads

  pub exact_conditional : (within : Within) (free : Bool) → claims.Conditional effort rec S T within free
  exact_conditional within free = (
    (conditional within free (k.Plain l.If) false (many (ex.elsif S within free)) (many (ex.elsif T within free))
        (reads_many l.Elsif (λ spaced. refl) (starts_bind _ (starts_word l.Elsif (at_seen l.Elsif))) (elsif within free) (elsif_moves within free))
        (λ D next. starts_many D (starts_bind _ (starts_word l.Elsif (λ spaced. refl))) next)).0,
    (conditional within free (k.Plain l.Unless) true (nothing []) (nothing []) (reads_pure effort [] (either (seen l.Elsif) g.goes_body))
        (λ D next. starts_nothing [] D (next []))).0,
  )

  pub exact_looping : (within : Within) (free : Bool) → claims.Looping effort rec S T within free
  exact_looping within free = ((looping within free (k.Plain l.While) false).0, (looping within free (k.Plain l.Until) true).0)

  pub exact_cases : (within : Within) (free : Bool) → claims.Cases effort rec S T within free
  exact_cases within free =
      (reads_sure (reads_word effort (k.Plain l.Case) never) (λ at. reads_grow at
      (reads_bind (reads_part (reads_rec (Simple within))) (λ value.
      reads_sure (reads_word effort (k.Plain l.Newline) never) (λ _.
      reads_bind (reads_separators effort) (λ _.
      reads_bind (reads_some l.In (λ spaced. refl) (starts_bind _ (starts_word l.In (at_seen l.In))) (in_clause within free) (in_moves within free)) (λ clauses.
      reads_map (λ _. _) (reads_word effort (k.Plain l.KeywordEnd) never))
      (λ clauses. begins_end (either (seen l.In) g.goes_body) end_in _))
      (λ _. starts_bind _ (starts_bind _ (starts_bind _ (starts_word l.In (not_seen l.In l.Newline (λ e. cc))))))))
      (λ value. starts_bind _ (starts_word l.Newline (λ spaced. refl)))))).0

  pub exact_select : (within : Within) (free : Bool) → claims.Select effort rec S T within free
  exact_select within free =
      (reads_sure (reads_word effort (k.Plain l.Select) never) (λ at. reads_grow at
      (reads_sure (reads_word effort (k.Plain l.Newline) never) (λ _.
      reads_bind (reads_separators effort) (λ _.
      reads_bind (reads_some l.When (λ spaced. refl) (when_heads within free) (reads_rec (When within free)) (given.when_moves within free)) (λ clauses.
      reads_bind (reads_otherwise within) (λ otherwise.
      reads_map (λ _. _) (reads_word effort (k.Plain l.KeywordEnd) never))
      (λ otherwise. begins_end (either (seen l.Else) g.goes_body) end_else _))
      (λ clauses. begins_otherwise within free (either (seen l.When) g.goes_body) else_when _
      (λ x. begins_end (either (seen l.When) g.goes_body) end_when _)))
      (λ _. starts_bind _ (starts_bind _ (begins_when within free))))))).0
