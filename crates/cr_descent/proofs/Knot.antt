-- Each construct is read exactly, however deep: the readers and the relation are tied into a knot.
use Rattle.std.proofs.Common.{◌≡◌, ℕ, zero, suc, ◌≤◌, Bool, true, false, List, [], ◌∷◌, ◌++◌, inl, inr, refl, sym, ap, subst, ◌∙◌, arith}
use Rattle.std.specs.Prelude.{Some, None}
use Rattle.cr_syntax.specs.declared.look.TokenLook.{TokenLook}
use Rattle.cr_syntax.specs.declared.look.TokenLook.TheVariants as l
use Rattle.cr_syntax.specs.declared.token.Token.{Token}
use Rattle.cr_syntax.specs.declared.token.TokenKind.TheVariants as k
use Rattle.cr_syntax.specs.Look.{look_of}
use Rattle.cr_grammar.specs.declared.tree.Tree.{Tree}
use Rattle.cr_grammar.specs.declared.tree.Tree.TheVariants as tree
use Rattle.cr_grammar.specs.declared.within.Within.{Within}
use Rattle.cr_grammar.specs.Forms.{Form, nothing, last_look}
use Rattle.cr_grammar.specs.Operators as o
use Rattle.cr_grammar.specs.declared.wanted.Wanted.{Wanted}
use Rattle.cr_grammar.specs.declared.wanted.Wanted.TheVariants.{Written, When, Unary, Or, Simple, Stmt, Stmts, Program}
use Rattle.cr_grammar.specs.Laws.{first_is, begins_type, begins_or, begins_stmt}
use Rattle.cr_grammar.specs.declared.word.Atom.{Atom}
use Rattle.cr_grammar.specs.Expressions as ex
use Rattle.cr_grammar.specs.Expressions.{all_atoms}
use Rattle.cr_grammar.specs.declared.operator.Unary.TheVariants as prefix
use Rattle.cr_grammar.specs.Grammar as gr
use Rattle.cr_grammar.specs.Grammar.{Spells_in}
use Rattle.cr_grammar.proofs.Derive as derive
use Rattle.cr_grammar.proofs.First as first
use Rattle.cr_readers.specs.Reader.{State, Reader, Test, same_look, seen, beside, pure}
use Rattle.cr_exact.specs.Exact.{Effort, Enough, Exact, Any}
use Rattle.cr_readers.specs.Goes as g
use Rattle.cr_readers.specs.Descent.{reader, read}
use Rattle.cr_descent.specs.Laws.{effort_of, ReadersAreExact}
use Rattle.cr_exact.proofs.Sequence.{exact_bind, exact_pure, ends_less}
use Rattle.cr_exact.proofs.Tokens.{a_token}
use Rattle.cr_exact.proofs.Forms.{spelled_nothing}
use Rattle.cr_exact.proofs.Follows.{follows_nothing}
use Rattle.cr_exact.proofs.Loops.{given_up}
use Rattle.cr_exact.proofs.Nodes.{exact_beside}
use Rattle.cr_descent.proofs.Bodies.{exact_statements}
use Rattle.cr_descent.proofs.Apart.{apart, postfix_begins}
use Rattle.cr_descent.proofs.Statements.{minus_look}
use Rattle.cr_descent.proofs.Openings.{or_opened, stmt_opened}
use Rattle.cr_exact.proofs.TokenTests.{same_look_is}
use Rattle.cr_exact.proofs.Forms.{begins_some}
use Rattle.cr_exact.proofs.Moves.{moves_opened, moves_beside}
use Rattle.cr_descent.proofs.Claims as claims
use Rattle.cr_descent.proofs.Types.{exact_written}
use Rattle.cr_descent.proofs.Clauses.{exact_when}
use Rattle.cr_descent.proofs.Operations.{exact_unary, exact_or}
use Rattle.cr_descent.proofs.OperationForms.{or_level}
use Rattle.cr_descent.proofs.Simple.{exact_simple, exact_stmt}
use Rattle.cr_descent.proofs.Declarations.{exact_program}
use Rattle.cr_descent.proofs.StatementForms as forms
use Rattle.cr_descent.proofs.StatementForms.{settled_front}
use Rattle.cr_exact.proofs.TwoTokens.{Settled, tight_nil, spaced_nil}
use Rattle.cr_descent.proofs.StatementClaims.{Premises}

-- what is enough for less effort
exact_effort : {A : Type 0} {Pre : List Token → Type 0} {R C : Form A} {goes : Test} {p : Reader A} (less more : Effort)
    → ((s : State) → Enough more s → Enough less s) → Exact less Pre R C goes p → Exact more Pre R C goes p
exact_effort less more enough e = record {
  found = e.found;
  refused = e.refused;
  begun = e.begun;
  complete = λ w x s rest pre c is stop. ends_less (Enough less s) (Enough more s) _ x _ rest s.limited (enough s) (e.complete w x s rest pre c is stop);
  reaches = e.reaches;
}

-- ---- what is always spelled

nil_primary : (S : Wanted → Form Tree) (within : Within) (free : Bool) (t : Token) → t.kind ≡ (k.Plain l.Nil) → ex.primary S within free (t ∷ []) (tree.Nil t.span.first)
nil_primary S within free t is = inr (inr (inl (inl (t ∷ [], [], t.span.first, refl, (t, refl, (ap look_of is, refl)), (refl, refl)))))

pub nil_or : (S : Wanted → Form Tree) (within : Within) (free : Bool) (t : Token) → t.kind ≡ (k.Plain l.Nil) → ex.or S within free (t ∷ []) (tree.Nil t.span.first)
nil_or S within free t is = derive.or_of_primary S within free _ _ (nil_primary S within free t is)

abbrev type_token : Token
type_token = a_token (k.Constant [])

abbrev the_atom : Atom
the_atom = record { path = record { at = 0; names = [] ∷ [] }; arguments = []; question = None }

no_arguments : (S : Wanted → Form Tree) (with_arguments : Bool) → ex.type_arguments S with_arguments [] []
no_arguments S true = inr (refl, refl)
no_arguments S false = (refl, refl)

an_atom : (S : Wanted → Form Tree) (with_arguments : Bool) → ex.atom S with_arguments (type_token ∷ []) the_atom
an_atom S with_arguments = (
  type_token ∷ [],
  [],
  the_atom.path,
  refl,
  (type_token ∷ [], [], record { at = 0; text = [] }, refl, (type_token, refl, (refl, refl)), ([], [], [], refl, refl, (refl, refl))),
  ([], [], [], refl, no_arguments S with_arguments, ([], [], None, refl, refl, (refl, refl))),
)

a_type : (S : Wanted → Form Tree) (with_arguments : Bool) → (x : Tree) × ex.written S with_arguments (type_token ∷ []) x
a_type S with_arguments = (tree.Union (all_atoms (the_atom ∷ [])), (type_token ∷ [], [], the_atom, refl, an_atom S with_arguments, ([], [], [], refl, refl, (refl, refl))))

clause_at : (S : Wanted → Form Tree) (within : Within) (free : Bool) (word_when : Token) → look_of word_when.kind ≡ l.When → (w : List Token) × (x : Tree) × ex.when S within free (word_when ∷ w) x
clause_at S within free word_when is =
    let c = a_token (k.Ident []) in
    let dot = a_token (k.Plain l.Dot) in
    let receive = a_token (k.Ident o.receive_name) in
    let line = a_token (k.Plain l.Newline) in
    let channel = tree.Call 0 None [] [] None in
    let operation = tree.Call 0 (Some channel) o.receive_name [] None in
    let received : ex.receive S within free (c ∷ dot ∷ receive ∷ []) operation = (
      c ∷ [],
      dot ∷ receive ∷ [],
      channel,
      refl,
      derive.postfix_of S within free _ _ (derive.name_alone S within free c [] refl),
      (
        dot ∷ [],
        receive ∷ [],
        0,
        refl,
        (dot, refl, (refl, refl)),
        (receive ∷ [], [], record { at = 0; text = o.receive_name }, refl, (receive, refl, (refl, refl)), (inl refl, (refl, refl))),
      ),
    ) in (
      c ∷ dot ∷ receive ∷ line ∷ [],
      tree.When word_when.span.first None operation [],
      inl (
        word_when ∷ [],
        c ∷ dot ∷ receive ∷ line ∷ [],
        word_when.span.first,
        refl,
        (word_when, refl, (is, refl)),
        (
          [],
          c ∷ dot ∷ receive ∷ line ∷ [],
          None,
          refl,
          refl,
          (
            c ∷ dot ∷ receive ∷ [],
            line ∷ [],
            operation,
            refl,
            received,
            (line ∷ [], [], 0, refl, inl (line, refl, (refl, refl)), ([], [], [], refl, derive.no_line (S (Stmt within)), (refl, refl))),
          ),
        ),
      ),
    )

a_clause : (S : Wanted → Form Tree) (within : Within) (free : Bool) → (w : List Token) × (x : Tree) × ex.when S within free w x
a_clause S within free =
    let word_when = a_token (k.Plain l.When) in
    let c = clause_at S within free word_when refl in
    (word_when ∷ c.0, c.1, c.2)

pub always : (n : ℕ) (v : Wanted) → (w : List Token) × (x : Tree) × Spells_in (suc n) v w x
always n (Written with_arguments) = let x = a_type (Spells_in n) with_arguments in (type_token ∷ [], x.0, x.1)
always n (When within free) = a_clause (Spells_in n) within free
always n (Unary within free) = (tight_nil ∷ [], tree.Nil 0, derive.unary_of_primary (Spells_in n) within free _ _ (nil_primary (Spells_in n) within free tight_nil refl))
always n (Or within free) = (tight_nil ∷ [], tree.Nil 0, nil_or (Spells_in n) within free tight_nil refl)
always n (Simple within) = (tight_nil ∷ [], tree.Nil 0, derive.simple_of_primary (Spells_in n) within _ _ (nil_primary (Spells_in n) within true tight_nil refl))
always n (Stmt within) = (tight_nil ∷ [], tree.Nil 0, inl (derive.simple_of_primary (Spells_in n) within _ _ (nil_primary (Spells_in n) within true tight_nil refl)))
always n (Stmts within) = ([], tree.Statements [], ([], [], [], refl, derive.no_line (Spells_in n (Stmt within)), (refl, refl)))
always n Program = (a_token (k.Plain l.End) ∷ [], tree.Statements [], ([], a_token (k.Plain l.End) ∷ [], [], refl, derive.no_line (gr.item (Spells_in n)), (a_token (k.Plain l.End) ∷ [], [], 0, refl, (a_token (k.Plain l.End), refl, (refl, refl)), (refl, refl))))

-- a `-` and `nil`
pub signed : (n : ℕ) (within : Within) (t : Token) → o.is_minus (look_of t.kind) ≡ true → (x : Tree) × Spells_in (suc (suc n)) (Or within false) (t ∷ tight_nil ∷ []) x
signed n within t minus = (
  tree.Unary t.span.first prefix.Negate (tree.Nil 0),
  derive.or_of_unary (Spells_in (suc n)) within false _ _
      (inr (inl (
        t ∷ [],
        tight_nil ∷ [],
        t.span.first,
        refl,
        (t, refl, (minus_look (look_of t.kind) minus, refl)),
        (tight_nil ∷ [], [], tree.Nil 0, refl, derive.unary_of_primary (Spells_in n) within false _ _ (nil_primary (Spells_in n) within false tight_nil refl), (refl, refl)),
      ))),
)

-- ---- how what is spelled begins

begins : (m : ℕ) (test : TokenLook → Bool) (v : Wanted) → ((S : Wanted → Form Tree) (w : List Token) (x : Tree) → gr.rule S v w x → first_is test w ≡ true)
    → (w : List Token) (x : Tree) → Spells_in m v w x → first_is test w ≡ true
begins zero test v rule w x c = absurd c
begins (suc m) test v rule w x c = rule (Spells_in m) w x c

when_first : (S : Wanted → Form Tree) (within : Within) (free : Bool) (w : List Token) (x : Tree) → ex.when S within free w x → first_is (λ a. seen l.When a false) w ≡ true
unfolding same_look
when_first S within free w x (inl r) = first.led (λ a. seen l.When a false) l.When w r.0 r.1 r.2 r.3 r.4 refl
when_first S within free w x (inr r) = first.led (λ a. seen l.When a false) l.When w r.0 r.1 r.2 r.3 r.4 refl

unary_first : (S : Wanted → Form Tree) (within : Within) (free : Bool) (w : List Token) (x : Tree) → ex.unary S within free w x → first_is (begins_or within) w ≡ true
unary_first S within free w x (inl r) = first.led (begins_or within) l.Bang w r.0 r.1 r.2 r.3 r.4 refl
unary_first S within free w x (inr (inl r)) = first.led (begins_or within) l.Minus w r.0 r.1 r.2 r.3 r.4 refl
unary_first S within free w x (inr (inr r)) = first.postfix_first S within free w x r

-- ---- the first two tokens of a value

no_minus : (look : TokenLook) → forms.is_postfix_look look ≡ true → o.is_minus look ≡ false
no_minus l.Minus is = absurd cc
no_minus _ is = refl

settled_other : (w : List Token) → first_is forms.is_postfix_look w ≡ true → Settled w
settled_other [] is = absurd cc
settled_other (t ∷ []) is = no_minus (look_of t.kind) is
settled_other (t ∷ u ∷ w) is = tt

settled_one : (t : Token) (b : List Token) → o.is_minus (look_of t.kind) ≡ false → Settled (t ∷ b)
settled_one t [] is = is
settled_one t (u ∷ b) is = tt

settled_two : (t : Token) (b : List Token) → (b ≡ [] → ⊥) → Settled (t ∷ b)
settled_two t [] some = absurd (some refl)
settled_two t (u ∷ b) some = tt

some_front : (test : TokenLook → Bool) (w a b : List Token) → w ≡ a ++ b → first_is test a ≡ true → w ≡ [] → ⊥
some_front test w [] b e is none = absurd cc
some_front test w (t ∷ a) b e is none = let both : t ∷ (a ++ b) ≡ [] = sym e ∙ none in cc

-- an operand, of which a `-` is not all
unary_settled : (n : ℕ) (within : Within) (w : List Token) (x : Tree) → ex.unary (Spells_in n) within false w x → Settled w
unary_settled n within w x (inl c) =
    subst Settled (sym (c.3 ∙ ap (λ (v : List Token). v ++ c.1) c.4.1)) (settled_one c.4.0 c.1 (ap o.is_minus c.4.2.0))
unary_settled n within w x (inr (inl c)) =
    let d = c.5 in
    let first_of = begins n (begins_or within) (Unary within false) (λ S w x c. unary_first S within false w x c) d.0 d.2 d.4 in
    subst Settled (sym (c.3 ∙ ap (λ (v : List Token). v ++ c.1) c.4.1)) (settled_two c.4.0 c.1 (some_front (begins_or within) c.1 d.0 d.1 d.3 first_of))
unary_settled n within w x (inr (inr c)) = settled_other w (postfix_begins (Spells_in n) within false w x c)

pub or_settled : (m : ℕ) (within : Within) (w : List Token) (x : Tree) → Spells_in m (Or within false) w x → Settled w
or_settled zero within w x c = absurd c
or_settled (suc m) within w x c =
    let d = (or_level (Spells_in m) within false).out w (x, last_look w) (c, refl) in
    subst Settled (sym d.3) (settled_front d.0 d.1 (unary_settled m within d.0 d.2.0 d.4.0))

some_tokens : (m : ℕ) (test : TokenLook → Bool) (v : Wanted) → ((S : Wanted → Form Tree) (w : List Token) (x : Tree) → gr.rule S v w x → first_is test w ≡ true)
    → (w : List Token) (x : Tree) → Spells_in m v w x → w ≡ [] → ⊥
some_tokens m test v rule w x c = begins_some test w (begins m test v rule w x c)

-- what is known of the constructs of one depth; that each reads a token by which it begins is known by what is spelled three deep
given_by : (turns n m : ℕ) → ((v : Wanted) → Exact (effort_of turns n m) Any (Spells_in (suc (suc n)) v) (Spells_in m v) (g.goes_of v) (read turns n v))
    → ((v : Wanted) → Exact (effort_of turns n 3) Any (Spells_in (suc (suc n)) v) (Spells_in 3 v) (g.goes_of v) (read turns n v))
    → claims.Given (effort_of turns n m) (read turns n) (Spells_in (suc (suc n))) (Spells_in m)
given_by turns n m exact three = record {
  exact = exact;
  some = always (suc n);
  type_begins = λ with_arguments. begins m begins_type (Written with_arguments) (λ S w x c. first.written_first S with_arguments w x c);
  when_begins = λ within free. begins m (λ a. seen l.When a false) (When within free) (λ S w x c. when_first S within free w x c);
  unary_begins = λ within free. begins m (begins_or within) (Unary within free) (λ S w x c. unary_first S within free w x c);
  or_begins = λ within free. begins m (begins_or within) (Or within free) (λ S w x c. first.or_first S within free w x c);
  simple_begins = λ within. begins m (begins_stmt within) (Simple within) (λ S w x c. first.simple_first S within w x c);
  stmt_begins = λ within. begins m (begins_stmt within) (Stmt within) (λ S w x c. first.stmt_first S within w x c);
  when_moves = λ within free. moves_opened (seen l.When) (read turns n (When within free)) (three (When within free))
      (some_tokens (suc (suc n)) (λ a. seen l.When a false) (When within free) (λ S w x c. when_first S within free w x c))
      (λ t full is. clause_at (Spells_in 2) within free t (same_look_is _ _ is));
  or_moves = λ within free. moves_opened (λ found _. begins_or within found) (read turns n (Or within free)) (three (Or within free))
      (some_tokens (suc (suc n)) (begins_or within) (Or within free) (λ S w x c. first.or_first S within free w x c))
      (or_opened (Spells_in 2) (always 1) within free);
  stmt_moves = λ within. moves_opened (g.begins_line within) (read turns n (Stmt within)) (three (Stmt within))
      (some_tokens (suc (suc n)) (begins_stmt within) (Stmt within) (λ S w x c. first.stmt_first S within w x c))
      (stmt_opened (Spells_in 2) (always 1) within);
}

pub premises_of : (turns n m : ℕ) → claims.Given (effort_of turns n m) (read turns n) (Spells_in (suc (suc n))) (Spells_in m)
    → claims.Given (effort_of turns n 2) (read turns n) (Spells_in (suc (suc n))) (Spells_in 2)
    → (within : Within) → Premises (effort_of turns n m) (2 ≤ n) (read turns n) (Spells_in (suc (suc n))) (Spells_in m) (Spells_in 2) within
premises_of turns n m given other within = record {
  given = given;
  other = other;
  s_settled = or_settled (suc (suc n)) within;
  t_settled = or_settled m within;
  plain = (tree.Nil 0, nil_or (Spells_in (suc n)) within false spaced_nil refl);
  s_signed = signed n within;
  u_signed = signed 0 within;
  opened = or_opened (Spells_in 2) (always 1) within true;
  apart_s = apart _ within;
  apart_t = apart _ within;
}

-- one construct, given those in it
level : (turns n m : ℕ) → claims.Given (effort_of turns n m) (read turns n) (Spells_in (suc (suc n))) (Spells_in m)
    → claims.Given (effort_of turns n 2) (read turns n) (Spells_in (suc (suc n))) (Spells_in 2)
    → (v : Wanted) → Exact (effort_of turns n m) Any (gr.rule (Spells_in (suc (suc n))) v) (gr.rule (Spells_in m) v) (g.goes_of v) (reader turns (read turns n) v)
level turns n m given other (Written with_arguments) = exact_written given with_arguments
level turns n m given other (When within free) = exact_when given within free
level turns n m given other (Unary within free) = exact_unary given within free
level turns n m given other (Or within free) = exact_or given within free
level turns n m given other (Simple within) = exact_simple (premises_of turns n m given other within)
level turns n m given other (Stmt within) = exact_stmt (premises_of turns n m given other within)
level turns n m given other (Stmts within) =
    exact_bind (λ list. nothing (tree.Statements list)) (λ list. nothing (tree.Statements list)) g.goes_body (λ list. pure (tree.Statements list))
    (exact_statements given within (beside (read turns n (Stmt within))) (exact_beside _ (given.exact (Stmt within))) (moves_beside _ (given.stmt_moves within)))
    (λ list. exact_pure (effort_of turns n m) (tree.Statements list) g.goes_body) (λ list. spelled_nothing (tree.Statements list))
    (λ list. follows_nothing g.goes_body g.goes_body (tree.Statements list) (λ look spaced e. e))
level turns n m given other Program = exact_program given

none : (m : ℕ) (v : Wanted) (w : List Token) (x : Tree) → Spells_in m v w x → m ≤ 0 → ⊥
none zero v w x c le = c
none (suc m) v w x c le = absurd (omega (arith, le))

-- nothing is read
exact_none : (turns m : ℕ) (v : Wanted) → Exact (effort_of turns 0 m) Any (Spells_in 2 v) (Spells_in m v) (g.goes_of v) (read turns 0 v)
unfolding read
exact_none turns m v = record {
  found = λ s x s' pre e. absurd cc;
  refused = λ s u s' pre e. absurd cc;
  begun = λ s d s' pre e. given_up (Spells_in 2 v) s d s' e;
  complete = λ w x s rest pre c e stop en. none m v w x c en.0;
  reaches = λ w x s rest pre c e clear. tt;
}

deeper : (turns n m : ℕ) (s : State) → Enough (effort_of turns (suc n) (suc m)) s → Enough (effort_of turns n m) s
deeper turns n m s en = (omega (arith, en.0), en.1)

pub exact_read : ReadersAreExact
unfolding read
exact_read turns zero m v = exact_none turns m v
exact_read turns (suc n) zero v =
    let e = level turns n 0 (given_by turns n 0 (exact_read turns n 0) (exact_read turns n 3)) (given_by turns n 2 (exact_read turns n 2) (exact_read turns n 3)) v in
    record { found = e.found; refused = e.refused; begun = e.begun; complete = λ w x s rest pre c is stop. absurd c; reaches = λ w x s rest pre c. absurd c }
exact_read turns (suc n) (suc m) v =
    exact_effort (effort_of turns n m) (effort_of turns (suc n) (suc m)) (deeper turns n m)
    (level turns n m (given_by turns n m (exact_read turns n m) (exact_read turns n 3)) (given_by turns n 2 (exact_read turns n 2) (exact_read turns n 3)) v)

pub given_of : (turns n m : ℕ) → ((v : Wanted) → Exact (effort_of turns n m) Any (Spells_in (suc (suc n)) v) (Spells_in m v) (g.goes_of v) (read turns n v))
    → claims.Given (effort_of turns n m) (read turns n) (Spells_in (suc (suc n))) (Spells_in m)
given_of turns n m exact = given_by turns n m exact (exact_read turns n 3)
