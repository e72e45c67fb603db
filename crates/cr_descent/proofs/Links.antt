-- A postfix is read exactly.
use Rattle.std.proofs.Common.{◌≡◌, ℕ, Bool, true, false, List, [], ◌∷◌, ◌++◌, ◌⊎◌, inl, inr, refl, sym, ap, subst, ◌∙◌}
use Rattle.std.proofs.lemmas.Bool.{or_parts}
use Rattle.std.specs.Prelude.{Option, Some, None}
use Rattle.std.proofs.lemmas.List.{append-nil}
use Rattle.cr_syntax.specs.declared.look.TokenLook.{TokenLook}
use Rattle.cr_syntax.specs.declared.look.TokenLook.TheVariants as l
use Rattle.cr_syntax.specs.declared.token.Token.{Token}
use Rattle.cr_syntax.specs.declared.token.TokenKind.TheVariants as k
use Rattle.cr_syntax.specs.Look.{look_of}
use Rattle.cr_grammar.specs.declared.tree.Tree.{Tree}
use Rattle.cr_grammar.specs.declared.tree.Tree.TheVariants as tree
use Rattle.cr_grammar.specs.declared.within.Within.{Within}
use Rattle.cr_grammar.specs.declared.word.Word.{Word}
use Rattle.cr_grammar.specs.Forms.{Form, nothing, ◌<|>◌, passing, where_true, maybe, repeated_of, repeated, word, is_tight, tight, seps, parenthesized}
use Rattle.cr_grammar.specs.Forms as f
use Rattle.cr_grammar.specs.Laws.{begins_type}
use Rattle.cr_grammar.specs.declared.wanted.Wanted.{Wanted}
use Rattle.cr_grammar.specs.declared.wanted.Wanted.TheVariants.{Written, Or}
use Rattle.cr_grammar.specs.Expressions as ex
use Rattle.cr_readers.specs.Reader.{Reader, Test, passes, seen, tight_seen, either, never, expect, choose, only, by_look, wrap, part, pure, ◌>>=◌, ◌>>◌}
use Rattle.cr_readers.specs.Reader as reader
use Rattle.cr_readers.specs.Lists.{optional, separators}
use Rattle.cr_readers.specs.Lists as lists
use Rattle.cr_exact.specs.Exact.{Effort, Exact, Any, Stops}
use Rattle.cr_readers.specs.Goes as g
use Rattle.cr_readers.specs.Bodies as bodies
use Rattle.cr_readers.specs.declared.operand.Operand.{Operand}
use Rattle.cr_readers.specs.declared.operand.Operand.TheVariants.{Field, Whole}
use Rattle.cr_readers.specs.Operand.{whole, linked, indexed}
use Rattle.cr_readers.specs.Links as links
use Rattle.cr_exact.proofs.TokenTests.{Apart, Not, never_stops, not_seen, stops_less, Less, less_never, look_apart, less_tight_seen, not_either, less_either}
use Rattle.cr_exact.proofs.Sequence.{exact_bind, exact_pure, exact_map, exact_goes, weaken}
use Rattle.cr_exact.proofs.Tokens.{Passing as Passes, Led, Branch, by_first, a_token, exact_word, exact_choose, exact_by}
use Rattle.cr_exact.proofs.Forms.{made_out, spelled_listed, spelled_parenthesized, spelled_seps, spelled_word, spelled_maybe, spelled_nothing, Spelled, spelled_bind, all_read, made_in, joined, split}
use Rattle.cr_exact.proofs.Heads.{led_real, led_first, led_word, led_at, first_tested, led, led_seen, LedBy, first_bind, repeated_stop, heads_fails, tight_front}
use Rattle.cr_exact.proofs.Follows.{follows_ahead, follows_many, follows_bind, follows_maybe, follows_led, follows_nothing, Follows}
use Rattle.cr_exact.proofs.Loops.{exact_repeated}
use Rattle.cr_exact.proofs.Nodes.{exact_silent, silent_wrap, exact_part}
use Rattle.cr_exact.proofs.Lists.{exact_separators, exact_passing, exact_only_tight, exact_maybe_word}
use Rattle.cr_descent.proofs.Words.{exact_ident}
use Rattle.cr_readers.specs.Reader.{same_look}
use Rattle.cr_exact.proofs.Moves.{Moves, moves_bind, moves_word, moves_choose, advances_bind, advances_next}
use Rattle.cr_exact.proofs.Sequence.{never_back}
use Rattle.cr_descent.proofs.Claims as claims
use Rattle.cr_descent.proofs.Operands as operands
use Rattle.cr_descent.proofs.Bodies.{exact_plain, exact_inside, exact_arguments, exact_maybe_block, or_fails, no_parenthesis, block_less, parenthesis_less}
use Rattle.cr_descent.proofs.Primaries.{exact_primary}
use Rattle.cr_descent.proofs.PostfixForms.{postfix_tree, tree_postfix}
use Rattle.cr_descent.proofs.Classes.{plain_some}

-- ---- each link behind its first token

module _ (Q : Wanted → Form Tree) (within : Within) (free : Bool) (x : Tree) where
  abbrev pub with_block : Word → Option (List Tree) → Form Operand
  with_block name arguments = f.◌>>=◌ (maybe (ex.block Q within free)) (λ block. nothing (linked x name arguments block))

  abbrev pub with_arguments : Word → Form Operand
  with_arguments name = f.◌>>=◌ (operands.arguments Q within free) (with_block name)

  abbrev pub called : Form Operand
  called = f.◌>>=◌ f.ident with_arguments

  abbrev pub asked_of : ℕ → Form Operand
  asked_of at = f.◌>>=◌ (tight (parenthesized (Q (Written false)))) (λ of. nothing (Whole (tree.IsA at x of)))

  abbrev pub asked : Form Operand
  asked = f.◌>>=◌ (word l.IsA) asked_of

  abbrev pub asked_nil : Form Operand
  asked_nil = f.◌>>=◌ (word l.IsNil) (λ at. nothing (Whole (tree.IsNil at x)))

  abbrev pub spawned_of : ℕ → Form Operand
  spawned_of at = f.◌>>=◌ (ex.plain Q within free) (λ body. nothing (Whole (tree.Spawn at (Some x) body)))

  abbrev pub spawned_in : Form Operand
  spawned_in = f.◌>>=◌ (word l.Spawn) spawned_of

  abbrev behind_dot : Form Operand
  behind_dot = called <|> asked <|> asked_nil <|> spawned_in

  abbrev pub behind_by : TokenLook → Form Operand
  behind_by l.Ident = called
  behind_by l.IsA = asked
  behind_by l.IsNil = asked_nil
  behind_by l.Spawn = spawned_in
  behind_by other = λ w o. ⊥

  -- an index, tight or not
  abbrev pub question_of : ℕ → List Tree → Form Operand
  question_of at arguments = f.◌>>=◌ (maybe (tight (word l.Question))) (λ question. nothing (indexed at x arguments question))

  abbrev pub closed : ℕ → List Tree → Form Operand
  closed at arguments = f.◌>>◌ (word l.CloseBracket) (question_of at arguments)

  abbrev pub indices_of : ℕ → Form Operand
  indices_of at = f.◌>>=◌ (ex.inside Q within free) (λ arguments. f.◌>>◌ seps (closed at arguments))

  abbrev pub at_index : Form Operand
  at_index = f.◌>>=◌ (word l.OpenBracket) (λ at. f.◌>>◌ seps (indices_of at))

-- ---- the links by their first tokens are the links

module _ (Q : Wanted → Form Tree) (within : Within) (free : Bool) where
  pub led_index : (x : Tree) → LedBy l.OpenBracket (at_index Q within free x)
  led_index x = led l.OpenBracket (λ at. f.◌>>◌ seps (indices_of Q within free x at))

  led_indices : (v : List Token) (found : ℕ × List Tree) → ex.indices Q within free v found → Led l.OpenBracket v
  led_indices v found (is, c) = led_at l.OpenBracket v c.0 c.1 c.2 c.3 c.4

  dotted_out : (z : Operand) (w : List Token) (o : Operand) → f.◌>>◌ (word l.Dot) (behind_dot Q within free (whole z)) w o → operands.link Q within free z w o
  dotted_out z w o (a, b, at, e, r, inl c) = inl (a, b, at, e, r, c)
  dotted_out z w o (a, b, at, e, r, inr (inl (a', b', at', e', r', (a2, b2, of, e2, m, (none, same))))) =
      inr (inr (inl (w, [], tree.IsA at' (whole z) of, sym (append-nil w), (a, b, at, e, r, (a', b', at', e', r', (a2, b2, of, e2, m, (none, refl)))), (refl, same))))
  dotted_out z w o (a, b, at, e, r, inr (inr (inl (a', b', at', e', r', (none, same))))) =
      inr (inr (inr (inl (w, [], tree.IsNil at' (whole z), sym (append-nil w), (a, b, at, e, r, (a', b', at', e', r', (none, refl))), (refl, same)))))
  dotted_out z w o (a, b, at, e, r, inr (inr (inr (a', b', at', e', r', (a2, b2, body, e2, m, (none, same)))))) =
      inr (inr (inr (inr (w, [], tree.Spawn at' (Some (whole z)) body, sym (append-nil w), (a, b, at, e, r, (a', b', at', e', r', (a2, b2, body, e2, m, (none, refl)))), (refl, same)))))

  index_out : (x : Tree) (w : List Token) (o : Operand) → is_tight w ≡ true → at_index Q within free x w o → operands.at_index Q within free x w o
  index_out x w o is (a, b, at, e, r, (a1, b1, u1, e1, s1, (a2, b2, arguments, e2, i, (a3, b3, u3, e3, s3, (a4, b4, at4, e4, r4, q))))) =
      let v1 = a1 ++ (a2 ++ (a3 ++ a4)) in
      let parts : w ≡ (a ++ v1) ++ b4 = joined w a b v1 b4 e (joined b a1 b1 (a2 ++ (a3 ++ a4)) b4 e1 (joined b1 a2 b2 (a3 ++ a4) b4 e2 (joined b2 a3 b3 a4 b4 e3 e4))) in
      let tight : is_tight (a ++ v1) ≡ true = sym (tight_front l.OpenBracket (a ++ v1) b4 (led_at l.OpenBracket (a ++ v1) a v1 at refl r)) ∙ ap is_tight (sym parts) ∙ is in (
        a ++ v1,
        b4,
        (at, arguments),
        parts,
        (tight, (a, v1, at, refl, r, (a1, a2 ++ (a3 ++ a4), u1, refl, s1, (a2, a3 ++ a4, arguments, refl, i, (a3, a4, u3, refl, s3, (a4, [], at4, sym (append-nil a4), r4, (refl, refl))))))),
        q,
      )

  index_back : (x : Tree) (w : List Token) (o : Operand) → operands.at_index Q within free x w o → (is_tight w ≡ true) × at_index Q within free x w o
  index_back x w o (v, b, found, e, (is, (a, a', at, e0, r, (a1, b1, u1, e1, s1, (a2, b2, arguments, e2, i, (a3, b3, u3, e3, s3, (a4, b4, at4, e4, r4, (none, same))))))), (a5, b5, question, e5, q, (none5, same5))) = (
    ap is_tight e ∙ tight_front l.OpenBracket v b (led_at l.OpenBracket v a a' at e0 r) ∙ is,
    (
      a,
      a' ++ b,
      at,
      e ∙ split v b a a' e0,
      r,
      (
        a1,
        b1 ++ b,
        u1,
        split a' b a1 b1 e1,
        s1,
        (
          a2,
          b2 ++ b,
          arguments,
          split b1 b a2 b2 e2,
          i,
          (
            a3,
            b3 ++ b,
            u3,
            split b2 b a3 b3 e3,
            s3,
            (
              a4,
              b,
              at4,
              ap (λ (t : List Token). t ++ b) (all_read b3 a4 b4 e4 none),
              r4,
              (a5, b5, question, e5, q, (none5, same5 ∙ ap (λ (y : ℕ × List Tree). indexed y.0 x y.1 question) same)),
            ),
          ),
        ),
      ),
    ),
  )

  link_back : (z : Operand) (w : List Token) (o : Operand) → operands.link Q within free z w o
      → (f.◌>>◌ (word l.Dot) (by_first (behind_by Q within free (whole z)))) w o ⊎ ((is_tight w ≡ true) × at_index Q within free (whole z) w o)
  link_back z w o (inl (a, b, at, e, r, c)) = inl (a, b, at, e, r, (l.Ident, (c.4.0, c.1, c.3 ∙ ap (λ (t : List Token). t ++ c.1) c.4.1, ap look_of c.4.2.0), c))
  link_back z w o (inr (inl c)) = inr (index_back (whole z) w o c)
  link_back z w o (inr (inr (inl c))) =
      let (t, (a, b', at, e, r, (a', b2, at', e', r', (a3, b3, of, e3, m, (none, same)))), is) = made_out _ (λ y. Whole y) w o c in
      inl (a, b', at, e, r, (l.IsA, led_at l.IsA b' a' b2 at' e' r', (a', b2, at', e', r', (a3, b3, of, e3, m, (none, is ∙ ap (λ y. Whole y) same)))))
  link_back z w o (inr (inr (inr (inl c)))) =
      let (t, (a, b', at, e, r, (a', b2, at', e', r', (none, same))), is) = made_out _ (λ y. Whole y) w o c in
      inl (a, b', at, e, r, (l.IsNil, led_at l.IsNil b' a' b2 at' e' r', (a', b2, at', e', r', (none, is ∙ ap (λ y. Whole y) same))))
  link_back z w o (inr (inr (inr (inr c)))) =
      let (t, (a, b', at, e, r, (a', b2, at', e', r', (a3, b3, body, e3, m, (none, same)))), is) = made_out _ (λ y. Whole y) w o c in
      inl (a, b', at, e, r, (l.Spawn, led_at l.Spawn b' a' b2 at' e' r', (a', b2, at', e', r', (a3, b3, body, e3, m, (none, is ∙ ap (λ y. Whole y) same)))))

module _ {effort : Effort} {rec : Wanted → Reader Tree} {S T : Wanted → Form Tree} (given : claims.Given effort rec S T) where
  module _ (within : Within) (free : Bool) where
    abbrev turns : ℕ
    turns = effort.turns

    abbrev goes : Test
    goes = g.goes_primary free

    abbrev opens : Test
    opens = tight_seen l.OpenParenthesis

    -- no parenthesis begins a block
    pub block_follows : Follows opens (maybe (ex.block T within free)) opens
    block_follows = follows_maybe opens opens (ex.block T within free) (λ look spaced e. e) (follows_ahead opens opens (ex.block T within free) (no_parenthesis free _ _))

    module _ (x : Tree) where
      exact_with_block : (name : Word) (arguments : Option (List Tree)) → Exact effort Any (with_block S within free x name arguments) (with_block T within free x name arguments) goes
          (bodies.maybe_block turns rec within free >>= λ block. pure (linked x name arguments block))
      exact_with_block name arguments =
          exact_bind (λ block. nothing (linked x name arguments block)) (λ block. nothing (linked x name arguments block)) goes (λ block. pure (linked x name arguments block))
          (exact_maybe_block given within free)
          (λ block. exact_pure effort (linked x name arguments block) goes)
          (λ block. spelled_nothing (linked x name arguments block))
          (λ block. follows_nothing (g.begins_block free) goes (linked x name arguments block) (block_less turns rec free))

      exact_called : Exact effort Any (called S within free x) (called T within free x) goes (links.called turns rec within free x)
      exact_called =
          exact_bind (with_arguments S within free x) (with_arguments T within free x) goes
          (λ name. wrap name.at >> (bodies.arguments turns rec within >>= λ arguments. bodies.maybe_block turns rec within free >>= λ block. pure (linked x name arguments block)))
          (exact_ident effort never)
          (λ name. exact_silent (wrap name.at) (silent_wrap name.at) _
          (exact_bind (with_block S within free x name) (with_block T within free x name) goes
          (λ arguments. bodies.maybe_block turns rec within free >>= λ block. pure (linked x name arguments block))
          (exact_arguments given within free)
          (exact_with_block name)
          (λ arguments. ([], linked x name arguments None, ([], [], None, refl, refl, (refl, refl))))
          (λ arguments. follows_bind opens goes (maybe (ex.block T within free)) (λ block. nothing (linked x name arguments block)) block_follows
          (λ block. follows_nothing opens goes (linked x name arguments block) (parenthesis_less free)))))
          (λ name. ([], Field x name, ([], [], None, refl, refl, ([], [], None, refl, refl, (refl, refl)))))
          (λ name b' y rest d stop. never_stops (b' ++ rest))

      exact_asked : Exact effort Any (asked S within free x) (asked T within free x) goes (links.asked turns rec within free x)
      exact_asked =
          exact_bind (asked_of S within free x) (asked_of T within free x) goes
          (λ at. wrap at >> (only (tight_seen l.OpenParenthesis) (lists.parenthesized turns (part (rec (Written false)))) >>= λ of. pure (Whole (tree.IsA at x of))))
          (exact_word effort (k.Plain l.IsA) never)
          (λ at. exact_silent (wrap at) (silent_wrap at) _
          (exact_bind (λ of. nothing (Whole (tree.IsA at x of))) (λ of. nothing (Whole (tree.IsA at x of))) goes (λ of. pure (Whole (tree.IsA at x of)))
          (exact_only_tight effort (S (Written false)) (T (Written false)) g.goes_type (part (rec (Written false)))
          (exact_part (rec (Written false)) (given.exact (Written false)))
          (first_tested false begins_type (seen l.Newline) (T (Written false)) (look_apart begins_type l.Newline refl) (given.type_begins false))
          some.0 some.1 some.2 (λ spaced. refl) (λ spaced. refl))
          (λ of. exact_pure effort (Whole (tree.IsA at x of)) goes)
          (λ of. spelled_nothing (Whole (tree.IsA at x of)))
          (λ of b' y rest d stop. never_stops (b' ++ rest))))
          (λ at. spelled_bind spelled_type (λ of. spelled_nothing (Whole (tree.IsA at x of))))
          (λ at b' y rest d stop. never_stops (b' ++ rest)) where
            some : Spelled (S (Written false))
            some = given.some (Written false)

            spelled_type : Spelled (tight (parenthesized (S (Written false))))
            spelled_type = let r = spelled_parenthesized some in (r.0, r.1, (refl, r.2))

      exact_asked_nil : Exact effort Any (asked_nil S within free x) (asked_nil T within free x) goes (links.asked_nil turns rec within free x)
      exact_asked_nil =
          exact_bind (λ at. nothing (Whole (tree.IsNil at x))) (λ at. nothing (Whole (tree.IsNil at x))) goes (λ at. wrap at >> pure (Whole (tree.IsNil at x)))
          (exact_word effort (k.Plain l.IsNil) never)
          (λ at. exact_silent (wrap at) (silent_wrap at) _ (exact_pure effort (Whole (tree.IsNil at x)) goes))
          (λ at. spelled_nothing (Whole (tree.IsNil at x)))
          (λ at b' y rest d stop. never_stops (b' ++ rest))

      exact_spawned_in : Exact effort Any (spawned_in S within free x) (spawned_in T within free x) goes (links.spawned_in turns rec within free x)
      exact_spawned_in =
          exact_bind (spawned_of S within free x) (spawned_of T within free x) goes
          (λ at. wrap at >> (bodies.plain turns rec within free >>= λ body. pure (Whole (tree.Spawn at (Some x) body))))
          (exact_word effort (k.Plain l.Spawn) never)
          (λ at. exact_silent (wrap at) (silent_wrap at) _
          (exact_bind (λ body. nothing (Whole (tree.Spawn at (Some x) body))) (λ body. nothing (Whole (tree.Spawn at (Some x) body))) goes (λ body. pure (Whole (tree.Spawn at (Some x) body)))
          (exact_plain given within free)
          (λ body. exact_pure effort (Whole (tree.Spawn at (Some x) body)) goes)
          (λ body. spelled_nothing (Whole (tree.Spawn at (Some x) body)))
          (λ body b' y rest d stop. never_stops (b' ++ rest))))
          (λ at. spelled_bind (plain_some given within free) (λ body. spelled_nothing (Whole (tree.Spawn at (Some x) body))))
          (λ at b' y rest d stop. never_stops (b' ++ rest))

      abbrev asks : Test
      asks = tight_seen l.Question

      exact_closed : (at : ℕ) (arguments : List Tree) → Exact effort Any (closed S within free x at arguments) (closed T within free x at arguments) goes
          (expect l.CloseBracket >> (optional asks (expect l.Question) >>= λ question. pure (indexed at x arguments question)))
      exact_closed at arguments =
          exact_bind (λ _. question_of S within free x at arguments) (λ _. question_of T within free x at arguments) goes
          (λ _. optional asks (expect l.Question) >>= λ question. pure (indexed at x arguments question))
          (exact_word effort (k.Plain l.CloseBracket) never)
          (λ _. exact_bind (λ question. nothing (indexed at x arguments question)) (λ question. nothing (indexed at x arguments question)) goes (λ question. pure (indexed at x arguments question))
          (exact_maybe_word effort (k.Plain l.Question))
          (λ question. exact_pure effort (indexed at x arguments question) goes)
          (λ question. spelled_nothing (indexed at x arguments question))
          (λ question. follows_nothing (either asks never) goes (indexed at x arguments question)
          (less_either asks never goes (less_tight_seen l.Question goes refl) (less_never goes))))
          (λ _. spelled_bind (spelled_maybe (tight (word l.Question))) (λ question. spelled_nothing (indexed at x arguments question)))
          (λ _ b' y rest d stop. never_stops (b' ++ rest))

      spelled_closed : (at : ℕ) (arguments : List Tree) → Spelled (closed S within free x at arguments)
      spelled_closed at arguments = spelled_bind (spelled_word (k.Plain l.CloseBracket)) (λ _.
          spelled_bind (spelled_maybe (tight (word l.Question))) (λ question. spelled_nothing (indexed at x arguments question)))

      exact_separated : (at : ℕ) (arguments : List Tree) → Exact effort Any (f.◌>>◌ seps (closed S within free x at arguments)) (f.◌>>◌ seps (closed T within free x at arguments)) goes
          (separators turns >> (expect l.CloseBracket >> (optional asks (expect l.Question) >>= λ question. pure (indexed at x arguments question))))
      exact_separated at arguments =
          exact_bind (λ _. closed S within free x at arguments) (λ _. closed T within free x at arguments) goes
          (λ _. expect l.CloseBracket >> (optional asks (expect l.Question) >>= λ question. pure (indexed at x arguments question)))
          (exact_separators effort)
          (λ _. exact_closed at arguments)
          (λ _. spelled_closed at arguments)
          (λ _. follows_led l.CloseBracket (seen l.Newline) goes (closed T within free x at arguments) (not_seen l.CloseBracket l.Newline (λ e. cc)) (led l.CloseBracket _))

      -- what goes on behind the arguments is neither a separator nor what closes them
      abbrev goes_inside : Test
      goes_inside = either (seen l.Comma) (g.goes_or true)

      pub separated_follows : (at : ℕ) (arguments : List Tree) → Follows goes_inside (f.◌>>◌ seps (closed T within free x at arguments)) goes
      separated_follows at arguments =
          follows_bind goes_inside goes seps (λ _. closed T within free x at arguments)
          (follows_bind goes_inside goes_inside (f.many (word l.Newline)) (λ _. nothing tt)
          (follows_many goes_inside (word l.Newline) (follows_led l.Newline goes_inside goes_inside (word l.Newline) no_line (led_word l.Newline)))
          (λ _. follows_nothing goes_inside goes_inside tt (λ v spaced e. e)))
          (λ _. follows_led l.CloseBracket goes_inside goes (closed T within free x at arguments) no_bracket (led l.CloseBracket _)) where
            no_line : Not l.Newline goes_inside
            no_line = not_either l.Newline (seen l.Comma) (g.goes_or true) (not_seen l.Newline l.Comma (λ e. cc)) (λ spaced. refl)

            no_bracket : Not l.CloseBracket goes_inside
            no_bracket = not_either l.CloseBracket (seen l.Comma) (g.goes_or true) (not_seen l.CloseBracket l.Comma (λ e. cc)) (λ spaced. refl)

      abbrev read_indices : ℕ → Reader Operand
      read_indices at = do
        arguments ← bodies.inside turns rec within
        separators turns
        expect l.CloseBracket
        question ← optional asks (expect l.Question)
        pure (indexed at x arguments question)

      spelled_inside : Spelled (ex.inside S within free)
      spelled_inside = spelled_listed (given.some (Or within true))

      exact_indices_of : (at : ℕ) → Exact effort Any (indices_of S within free x at) (indices_of T within free x at) goes (read_indices at)
      exact_indices_of at =
          exact_bind (λ arguments. f.◌>>◌ seps (closed S within free x at arguments)) (λ arguments. f.◌>>◌ seps (closed T within free x at arguments)) goes
          (λ arguments. separators turns >> (expect l.CloseBracket >> (optional asks (expect l.Question) >>= λ question. pure (indexed at x arguments question))))
          (exact_inside given within free)
          (exact_separated at)
          (λ arguments. spelled_bind spelled_seps (λ _. spelled_closed at arguments))
          (separated_follows at)

      exact_index : Exact effort Any (at_index S within free x) (at_index T within free x) goes (links.at_index turns rec within free x)
      exact_index =
          exact_bind (λ at. f.◌>>◌ seps (indices_of S within free x at)) (λ at. f.◌>>◌ seps (indices_of T within free x at)) goes (λ at. wrap at >> (separators turns >> read_indices at))
          (exact_word effort (k.Plain l.OpenBracket) never)
          (λ at. exact_silent (wrap at) (silent_wrap at) _
          (exact_bind (λ _. indices_of S within free x at) (λ _. indices_of T within free x at) goes (λ _. read_indices at)
          (exact_separators effort)
          (λ _. exact_indices_of at)
          (λ _. spelled_indices at)
          (λ _. follows_ahead (seen l.Newline) goes (indices_of T within free x at) (first_bind false (seen l.Newline) (ex.inside T within free) _
          (first_bind false (seen l.Newline) (T (Or within true)) _ (or_fails given within true l.Newline refl))))))
          (λ at. spelled_bind spelled_seps (λ _. spelled_indices at))
          (λ at b' y rest d stop. never_stops (b' ++ rest)) where
            spelled_indices : (at : ℕ) → Spelled (indices_of S within free x at)
            spelled_indices at = spelled_bind spelled_inside (λ arguments. spelled_bind spelled_seps (λ _. spelled_closed at arguments))

      -- ---- any link

      dot_branch : (look : TokenLook) → Branch effort look (behind_dot S within free x) (behind_by T within free x look) goes (links.behind_dot turns rec within free x look)
      dot_branch l.Ident = inl (weaken _ (exact_map (behind_dot S within free x) (called T within free x) (λ w o c. inl c) (λ w o c. c) exact_called))
      dot_branch l.IsA = inl (weaken _ (exact_map (behind_dot S within free x) (asked T within free x) (λ w o c. inr (inl c)) (λ w o c. c) exact_asked))
      dot_branch l.IsNil = inl (weaken _ (exact_map (behind_dot S within free x) (asked_nil T within free x) (λ w o c. inr (inr (inl c))) (λ w o c. c) exact_asked_nil))
      dot_branch l.Spawn = inl (weaken _ (exact_map (behind_dot S within free x) (spawned_in T within free x) (λ w o c. inr (inr (inr c))) (λ w o c. c) exact_spawned_in))
      dot_branch other = inr (refl, λ w o led c. c)

      abbrev dotted : Form Operand
      dotted = f.◌>>◌ (word l.Dot) (behind_dot S within free x)

      abbrev dotted_by : Form Operand
      dotted_by = f.◌>>◌ (word l.Dot) (by_first (behind_by T within free x))

      spelled_behind : Spelled (behind_dot S within free x)
      spelled_behind =
          let name : Word = record { at = 0; text = [] } in
          (a_token (k.Ident []) ∷ [], Field x name, inl (a_token (k.Ident []) ∷ [], [], name, refl, (a_token (k.Ident []), refl, (refl, refl)), ([], [], None, refl, refl, ([], [], None, refl, refl, (refl, refl)))))

      exact_dotted : Exact effort Any dotted dotted_by goes (expect l.Dot >> by_look (links.behind_dot turns rec within free x))
      exact_dotted =
          exact_bind (λ _. behind_dot S within free x) (λ _. by_first (behind_by T within free x)) goes (λ _. by_look (links.behind_dot turns rec within free x))
          (exact_word effort (k.Plain l.Dot) never)
          (λ _. exact_by effort (links.behind_dot turns rec within free x) (behind_dot S within free x) (behind_by T within free x) goes dot_branch spelled_behind.0 spelled_behind.1 spelled_behind.2)
          (λ _. spelled_behind)
          (λ _ b' y rest d stop. never_stops (b' ++ rest))

      exact_either : Exact effort Any (dotted <|> at_index S within free x) (dotted_by <|> at_index T within free x) goes
          (choose (seen l.Dot) (expect l.Dot >> by_look (links.behind_dot turns rec within free x)) (links.at_index turns rec within free x))
      exact_either = exact_choose effort (seen l.Dot) dotted dotted_by (at_index S within free x) (at_index T within free x) goes
          (expect l.Dot >> by_look (links.behind_dot turns rec within free x)) (links.at_index turns rec within free x)
          (weaken _ exact_dotted) (weaken _ exact_index)
          (λ w o rest c. led_seen l.Dot w rest (led l.Dot (λ _. by_first (behind_by T within free x)) w o c))
          (λ w o rest c stop. led_first false l.OpenBracket (seen l.Dot) (not_seen l.OpenBracket l.Dot (λ e. cc)) w rest (led_index T within free x w o c))
          (λ o s d clear is. absurd (led_real l.OpenBracket [] (led_index T within free x [] o d) refl))

      pub index_moves : Moves (seen l.OpenBracket) (links.at_index turns rec within free x)
      index_moves =
          moves_bind (moves_word l.OpenBracket) (λ at. advances_next (silent_wrap at) (advances_bind (never_back (exact_separators effort)) (λ _. never_back (exact_indices_of at))))

      pub dot_moves : Moves (seen l.Dot) (expect l.Dot >> by_look (links.behind_dot turns rec within free x))
      dot_moves =
          moves_bind (moves_word l.Dot)
          (λ _. never_back (exact_by effort (links.behind_dot turns rec within free x) (behind_dot S within free x) (behind_by T within free x) goes dot_branch spelled_behind.0 spelled_behind.1 spelled_behind.2))

    -- ---- a postfix

    abbrev is_link : Test
    is_link = g.is_link

    tight_link : (w : List Token) → Led l.OpenBracket w → passes is_link w ≡ is_tight w
    tight_link w led = ap (passes is_link) led.2 ∙ ap (λ v. is_link v led.0.spaced) led.3 ∙ sym (ap is_tight led.2)

    pub link_passes : (z : Operand) (w : List Token) (o : Operand) (rest : List Token) → operands.link T within free z w o → passes is_link (w ++ rest) ≡ true
    link_passes z w o rest c = elim (link_back T within free z w o c) [
      | inl d ↦ led_first true l.Dot is_link (λ spaced. refl) w rest (led l.Dot (λ _. by_first (behind_by T within free (whole z))) w o d)
      | inr d ↦
          let led = led_index T within free (whole z) w o d.1 in
          tight_link (w ++ rest) (led.0, led.1 ++ rest, ap (λ (t : List Token). t ++ rest) led.2, led.3) ∙ tight_front l.OpenBracket w rest led ∙ d.0
    ]

    link_out : (z : Operand) (w : List Token) (o : Operand) → passing (passes is_link) (dotted (whole z) <|> at_index S within free (whole z)) w o → operands.link S within free z w o
    link_out z w o (is, inl c) = dotted_out S within free z w o c
    link_out z w o (is, inr c) = inr (inl (index_out S within free (whole z) w o (sym (tight_link w (led_index S within free (whole z) w o c)) ∙ is) c))

    pub link_in : (z : Operand) (w : List Token) (o : Operand) → operands.link T within free z w o → passing (passes is_link) (dotted_by (whole z) <|> at_index T within free (whole z)) w o
    link_in z w o c = (
      subst (λ t. passes is_link t ≡ true) (append-nil w) (link_passes z w o [] c),
      elim (link_back T within free z w o c) [
        | inl d ↦ inl d
        | inr d ↦ inr d.1
      ],
    )

    either_real : (x : Tree) (w : List Token) (o : Operand) → (dotted x <|> at_index S within free x) w o → w ≡ [] → ⊥
    either_real x w o (inl c) e = led_real l.Dot w (led l.Dot (λ _. behind_dot S within free x) w o c) e
    either_real x w o (inr c) e = led_real l.OpenBracket w (led_index S within free x w o c) e

    pub exact_link : (z : Operand) → Exact effort (Passes is_link) (operands.link S within free z) (operands.link T within free z) goes (links.link turns rec within free z)
    exact_link z =
        let some = spelled_bind (spelled_word (k.Plain l.Dot)) (λ _. spelled_behind (whole z)) in
        exact_map (operands.link S within free z) (operands.link T within free z) (link_out z) (link_in z)
        (exact_passing (Passes is_link) is_link (λ ts is. is) (either_real (whole z)) some.0 some.1 (inl some.2) refl (exact_either (whole z)))

    bracket_left : (found : TokenLook) (spaced : Bool) → is_link found spaced ≡ true → seen l.Dot found spaced ≡ false → seen l.OpenBracket found spaced ≡ true
    unfolding same_look
    bracket_left l.Dot spaced is other = absurd cc
    bracket_left l.OpenBracket spaced is other = refl
    bracket_left _ spaced is other = absurd cc

    link_moves : (z : Operand) → Moves is_link (links.link turns rec within free z)
    link_moves z = moves_choose (seen l.Dot) is_link (seen l.OpenBracket) bracket_left (dot_moves (whole z)) (index_moves (whole z))

    pub link_apart : Apart is_link goes
    link_apart l.Dot spaced is = refl
    link_apart l.OpenBracket spaced is = refl
    link_apart other spaced is = absurd cc

    pub less_postfix : Less (either is_link goes) (g.goes_operand free)
    less_postfix l.Dot spaced e = absurd cc
    less_postfix l.OpenBracket spaced e = rw e refl
    less_postfix other spaced e = e

    pub links_follow : (n : ℕ) (z : Operand) (w : List Token) (o : Operand) (rest : List Token) → repeated_of n (operands.link T within free) z w o → Stops (g.goes_operand free) rest → Stops goes (w ++ rest)
    links_follow n z w o rest c stop =
        repeated_stop goes (operands.link T within free) (λ z. heads_fails is_link goes _ (link_passes z) link_apart) n z w o rest c
        (stops_less goes (g.goes_operand free) (λ look spaced e. (or_parts _ _ (less_postfix look spaced e)).1) rest stop)

  pub exact_postfix : (within : Within) (free : Bool) → claims.Postfix effort rec S T within free
  exact_postfix within free =
      exact_bind (repeated (operands.link S within free)) (repeated (operands.link T within free)) (g.goes_operand free)
      (reader.repeated g.is_link (links.link effort.turns rec within free) effort.turns)
      (exact_primary given within free)
      (λ x. exact_goes (g.goes_operand free) (less_postfix within free)
      (exact_repeated effort (is_link within free) (goes within free) (link_apart within free) (operands.link S within free) (operands.link T within free) (links.link effort.turns rec within free)
      (exact_link within free) (λ z w o rest c. link_passes within free z w o rest c) (link_moves within free) x))
      (λ x. ([], x, (0, (refl, refl))))
      (λ x w o rest d stop. links_follow within free d.0 x w o rest d.1 stop)

  pub exact_postfix_tree : (within : Within) (free : Bool) → claims.PostfixTree effort rec S T within free
  exact_postfix_tree within free =
      exact_map (ex.postfix S within free) (ex.postfix T within free)
      (λ w x c. let r = made_out (operands.postfix S within free) whole w x c in subst (ex.postfix S within free w) (sym r.2) (postfix_tree S within free w r.0 r.1))
      (λ w x c. let r = tree_postfix T within free w x c in
      subst (λ y. (f.◌>>=◌ (operands.postfix T within free) (λ o. nothing (whole o))) w y) r.2 (made_in (operands.postfix T within free) whole w r.0 r.1))
      (exact_bind (λ o. nothing (whole o)) (λ o. nothing (whole o)) (g.goes_operand free) (λ o. pure (whole o))
      (exact_postfix within free) (λ o. exact_pure effort (whole o) (g.goes_operand free)) (λ o. spelled_nothing (whole o))
      (λ o. follows_nothing (g.goes_operand free) (g.goes_operand free) (whole o) (λ look spaced e. e)))
