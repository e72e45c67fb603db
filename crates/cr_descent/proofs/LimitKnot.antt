-- What each construct counts, however deep: the counts are tied into a knot, as the readers are.
use Rattle.std.proofs.Common.{◌≡◌, ℕ, zero, suc, Bool, true, false, ◌<◌, List, [], ◌∷◌, ◌++◌, Some, refl, sym, ap, subst, ◌∙◌, arith}
use Rattle.std.proofs.lemmas.List.{append-nil, append_cancel_right}
use Rattle.cr_syntax.specs.declared.look.TokenLook.{TokenLook}
use Rattle.cr_syntax.specs.declared.look.TokenLook.TheVariants as l
use Rattle.cr_syntax.specs.declared.token.TokenKind.TheVariants as k
use Rattle.cr_syntax.specs.declared.token.Token.{Token}
use Rattle.cr_grammar.specs.declared.tree.Tree.{Tree}
use Rattle.cr_grammar.specs.declared.tree.Tree.TheVariants as tree
use Rattle.cr_grammar.specs.declared.within.Within.{Within}
use Rattle.cr_grammar.specs.Count.{nodes, nesting}
use Rattle.cr_grammar.specs.Forms.{Form, nothing}
use Rattle.cr_grammar.specs.declared.wanted.Wanted.{Wanted}
use Rattle.cr_grammar.specs.declared.wanted.Wanted.TheVariants.{Written, When, Unary, Or, Simple, Stmt, Stmts, Program}
use Rattle.cr_grammar.specs.Grammar as gr
use Rattle.cr_grammar.specs.Grammar.{Spells_in}
use Rattle.cr_readers.specs.declared.fault.ParseFault.TheVariants.{Unexpected, TooDeep, TooManyNodes, NoMemory}
use Rattle.cr_readers.specs.declared.fault.ParseFault.{ParseFault}
use Rattle.cr_readers.specs.Reader.{State, Outcome, Found, Failed, Reader, beside, pure}
use Rattle.cr_exact.specs.Exact.{Effort, Ends, Any, Stops}
use Rattle.cr_exact.specs.Limits.{Counts, AtMost, Beyond, ComesAs, limit_at, tight_next}
use Rattle.cr_exact.proofs.Tokens.{a_token}
use Rattle.cr_readers.specs.Goes as g
use Rattle.cr_readers.specs.Descent.{reader, read, list_of}
use Rattle.cr_descent.specs.Laws.{effort_of}
use Rattle.cr_descent.specs.LimitLaws.{counted_before, counted_behind, ReadersCount, BeginsLimited, IsLimited, HasNoWay, FoundIsCounted, TooDeepHasNoWay, TooManyHasNoWay, IsWithin, IsFoundIf, WithinIsFound, WithinIsFoundWhole}
use Rattle.cr_exact.proofs.Follows.{follows_nothing}
use Rattle.cr_exact.proofs.Nodes.{exact_beside}
use Rattle.cr_exact.proofs.Limits.{counts_map, counts_bind_quiet, counts_pure, still_pure, still_give_up}
use Rattle.cr_exact.proofs.LimitParts.{rises_beside}
use Rattle.cr_exact.proofs.LimitLists.{rises_stmts}
use Rattle.cr_descent.proofs.Claims as claims
use Rattle.cr_descent.proofs.LimitClaims as limits
use Rattle.cr_descent.proofs.LimitTypes.{counts_written}
use Rattle.cr_descent.proofs.Bodies as bodies
use Rattle.cr_descent.proofs.LimitLinks.{counts_when}
use Rattle.cr_descent.proofs.LimitOperations.{counts_unary, counts_or}
use Rattle.cr_descent.proofs.LimitSimple.{counts_simple, counts_stmt}
use Rattle.cr_descent.proofs.LimitDeclarations.{counts_program}
use Rattle.cr_descent.proofs.Knot.{given_of, premises_of, exact_read}
use Rattle.cr_descent.proofs.LimitNodes.{statements_told}

abbrev CountsOf : Wanted → Form Tree → Reader Tree → Type 0
CountsOf wanted C p = (n height : ℕ) → Counts Any C (g.goes_of wanted) (counted_before wanted n height) (counted_behind wanted n height) p

more : (wanted : Wanted) (n height : ℕ) (x : Tree) → AtMost (counted_before wanted n height) (counted_behind wanted n height x)
more (Written with_arguments) n height x = (omega arith, omega arith)
more (When within free) n height x = (omega arith, omega arith)
more (Unary within free) n height x = (omega arith, omega arith)
more (Or within free) n height x = (omega arith, omega arith)
more (Simple within) n height x = (omega arith, omega arith)
more (Stmt within) n height x = (omega arith, omega arith)
more (Stmts within) n height x = (omega arith, omega arith)
more Program n height x = (omega arith, omega arith)

given_counts : (rec : Wanted → Reader Tree) (T : Wanted → Form Tree) → ((v : Wanted) → CountsOf v (T v) (rec v)) → limits.GivenCounts rec T
given_counts rec T counts = record {
  written = λ with_arguments n. counts (Written with_arguments) n 0;
  when = λ within free n height. counts (When within free) n height;
  unary = λ within free n. counts (Unary within free) n 0;
  or = λ within free n. counts (Or within free) n 0;
  simple = λ within n. counts (Simple within) n 0;
  stmt = λ within n. counts (Stmt within) n 0;
}

-- a list of statements by itself
module _ {effort : Effort} {rec : Wanted → Reader Tree} {S T : Wanted → Form Tree} (given : claims.Given effort rec S T) (counts : limits.GivenCounts rec T) (within : Within) where
  counts_list : CountsOf (Stmts within) (gr.rule T (Stmts within)) (list_of effort.turns rec within)
  counts_list n height =
      counts_bind_quiet (λ list. nothing (tree.Statements list)) g.goes_body (λ list. pure (tree.Statements list)) (counted_behind (Stmts within) n height)
      (rises_stmts effort (S (Stmt within)) (T (Stmt within)) (g.begins_line within) g.goes_stmt (beside (rec (Stmt within))) (exact_beside _ (given.exact (Stmt within)))
      (bodies.stmt_heads given within) (λ spaced. refl) (λ spaced. refl) g.goes_body (bodies.body_ends within)
      nodes nesting (rises_beside nodes nesting (counts.stmt within)) n height)
      (λ list. counts_pure (tree.Statements list) g.goes_body _ (counted_behind (Stmts within) n height)
      (statements_told n height list))
      (λ list. (still_pure (tree.Statements list)).lets)
      (λ list. follows_nothing g.goes_body g.goes_body (tree.Statements list) (λ look spaced e. e))

by_wanted : (turns n m : ℕ) → limits.GivenCounts (read turns n) (Spells_in m)
    → claims.Given (effort_of turns n m) (read turns n) (Spells_in (suc (suc n))) (Spells_in m)
    → claims.Given (effort_of turns n 2) (read turns n) (Spells_in (suc (suc n))) (Spells_in 2)
    → (v : Wanted) → CountsOf v (gr.rule (Spells_in m) v) (reader turns (read turns n) v)
by_wanted turns n m counts given other (Written with_arguments) a height = counts_written given counts with_arguments a
by_wanted turns n m counts given other (When within free) a height = counts_when given counts within free a height
by_wanted turns n m counts given other (Unary within free) a height = counts_unary given counts within free a
by_wanted turns n m counts given other (Or within free) a height = counts_or given counts within free a
by_wanted turns n m counts given other (Simple within) a height = counts_simple (premises_of turns n m given other within) counts a
by_wanted turns n m counts given other (Stmt within) a height = counts_stmt (premises_of turns n m given other within) counts a
by_wanted turns n m counts given other (Stmts within) a height = counts_list given counts within a height
by_wanted turns n m counts given other Program a height = counts_program given counts a height

level : (turns n m : ℕ) → limits.GivenCounts (read turns n) (Spells_in m) → (v : Wanted) → CountsOf v (gr.rule (Spells_in m) v) (reader turns (read turns n) v)
level turns n m counts v =
    let given = given_of turns n m (exact_read turns n m) in
    let other = given_of turns n 2 (exact_read turns n 2) in
    by_wanted turns n m counts given other v

pub counts_read : ReadersCount
unfolding read
counts_read turns zero m v a height = record {
  same = λ x y e pre. tt;
  grows = λ w x c. more v a height x;
  found = λ s x s' pre counted e. absurd cc;
  stopped = λ s e n s' pre counted failed limit. absurd (still_give_up.lets s e n s' failed limit);
}
counts_read turns (suc n) zero v a height =
    counts_map (Spells_in 0 v) (λ w x c. absurd c) (level turns n 0 (given_counts (read turns n) (Spells_in 0) (counts_read turns n 0)) v a height)
counts_read turns (suc n) (suc m) v a height = level turns n m (given_counts (read turns n) (Spells_in m) (counts_read turns n m)) v a height

-- ---- what it comes to

pub new_cursor_is_limited : BeginsLimited
new_cursor_is_limited (When within free) list = record { limited = refl; shallow = omega arith; nodes = refl; few = omega arith; high = (refl, omega arith, omega arith) }
new_cursor_is_limited (Stmts within) list = record { limited = refl; shallow = omega arith; nodes = refl; few = omega arith; high = (refl, omega arith, omega arith) }
new_cursor_is_limited Program list = record { limited = refl; shallow = omega arith; nodes = refl; few = omega arith; high = (refl, omega arith, omega arith) }
new_cursor_is_limited other list = record { limited = refl; shallow = omega arith; nodes = refl; few = omega arith; high = tt }

pub found_is_counted : FoundIsCounted
found_is_counted turns n v s s' x is e =
    let F = (counts_read turns n 0 v s.nodes s.height).found s x s' tt is e in
    record {
      nodes = F.0.nodes;
      few = omega (arith, F.0.nodes, F.0.few);
      height = F.0.high.0;
      nested = omega (arith, F.1, F.0.high.2);
      depth = F.1;
    }

-- The tokens that were read begin a spelled list.
alive : (turns n : ℕ) (v : Wanted) (s : State) (e : ParseFault) (s' : State) (front : List Token) → (front ≡ [] → ⊥) → s.rest ≡ front ++ s'.rest → read turns n v s ≡ Failed e s'
    → (more : List Token) × (x : Tree) × Spells_in (suc (suc n)) v (front ++ more) x
alive turns n v s e s' front some parts failed =
    let F = (exact_read turns n 0 v).begun s e s' tt failed in
    let same : F.front ≡ front = append_cancel_right F.front front s'.rest (sym F.parts ∙ parts) in
    let B = F.begins (λ none. some (sym same ∙ none)) in
    (B.0, B.1, subst (λ (t : List Token). Spells_in (suc (suc n)) v (t ++ B.0) B.1) same B.2)

-- No construct goes on at the end.
ends : (v : Wanted) → Stops (g.goes_of v) (a_token (k.Plain l.End) ∷ [])
ends (Written with_arguments) = refl
ends (When within free) = refl
ends (Unary within free) = refl
ends (Or within free) = refl
ends (Simple within) = refl
ends (Stmt within) = refl
ends (Stmts within) = refl
ends Program = refl

nothing_goes_on : (v : Wanted) → Stops (g.goes_of v) []
nothing_goes_on v = refl

-- Behind any front there is what comes as what is left, and does not go on.
like : (v : Wanted) (front rest : List Token) (tight : Bool) → tight_next rest ≡ tight → (more : List Token) × ComesAs front more rest × Stops (g.goes_of v) more
like v front rest true is = (a_token (k.Plain l.End) ∷ [], λ minus. sym is, ends v)
like v front rest false is = ([], λ minus. sym is, nothing_goes_on v)

-- The front is that of the halt for one depth of the relation; for another it is the same, since it ends where the reader does.
no_way : (turns n : ℕ) (v : Wanted) (s s' : State) (e : ParseFault) (place most : ℕ) (much : Tree → ℕ) → limit_at e ≡ Some place
    → ((y : Tree) → Beyond e s.depth (counted_behind v s.nodes s.height y) → most < much y)
    → IsLimited v s → read turns n v s ≡ Failed e s' → HasNoWay v most much s.rest place
no_way turns n v s s' e place most much limit exceeds is failed =
    let halts = λ (m : ℕ). (counts_read turns n m v s.nodes s.height).stopped s e place s' tt is failed limit in
    let H = halts 0 in
    let A = alive turns n v s e s' H.front H.some H.parts failed in
    let same : (m : ℕ) → H.front ≡ (halts m).front = λ m. append_cancel_right H.front (halts m).front s'.rest (sym H.parts ∙ (halts m).parts) in
    record {
      front = H.front;
      rest = s'.rest;
      some = H.some;
      parts = H.parts;
      at_last = H.place;
      more = A.0;
      value = A.1;
      alive = (suc (suc n), A.2);
      alone = λ y c.
          let L = like v H.front s'.rest (tight_next s'.rest) refl in
          exceeds y ((halts c.0).beyond H.front L.0 L.0 y c.1 (ap (λ (w : List Token). w ++ L.0) (same c.0)) (subst (λ t. ComesAs t L.0 s'.rest) (same c.0) L.1) L.2);
      beyond = λ more y next c.
          exceeds y ((halts c.0).beyond (H.front ++ more) [] more y c.1 (append-nil (H.front ++ more) ∙ ap (λ (w : List Token). w ++ more) (same c.0))
          (subst (λ t. ComesAs t more s'.rest) (same c.0) next) refl);
    }

pub too_deep_has_no_way : TooDeepHasNoWay
too_deep_has_no_way turns n v s s' place is e = no_way turns n v s s' (TooDeep place) place _ _ refl (λ y b. b) is e

pub too_many_has_no_way : TooManyHasNoWay
too_many_has_no_way turns n v s s' place is e = no_way turns n v s s' (TooManyNodes place) place _ _ refl (λ y b. b) is e

-- ---- what is spelled within the limits

not_beyond : (e : ParseFault) (v : Wanted) (s : State) (x : Tree) → IsWithin v s x → Beyond e s.depth (counted_behind v s.nodes s.height x) → ⊥
not_beyond (Unexpected n) v s x is b = b
not_beyond (TooDeep n) v s x is b = absurd (omega (arith, is.nested, b))
not_beyond (TooManyNodes n) v s x is b = absurd (omega (arith, is.few, b))
not_beyond NoMemory v s x is b = b

within_end : (o : Outcome Tree) (x : Tree) (enough : Type 0) (before : TokenLook) (rest : List Token) (limited : Bool) → Ends enough o x before rest limited
    → ((e : ParseFault) (m : State) (n : ℕ) → o ≡ Failed e m → limit_at e ≡ Some n → ⊥) → IsFoundIf enough o x rest
within_end (Found y m) x enough before rest limited ends none = (ends.0, ends.2)
within_end (Failed (Unexpected n) m) x enough before rest limited ends none = absurd ends
within_end (Failed (TooDeep n) m) x enough before rest limited ends none = absurd (none (TooDeep n) m n refl refl)
within_end (Failed (TooManyNodes n) m) x enough before rest limited ends none = absurd (none (TooManyNodes n) m n refl refl)
within_end (Failed NoMemory m) x enough before rest limited ends none = (refl, ends)

pub within_is_found : WithinIsFound
within_is_found turns n m v w rest x s c is stop within =
    within_end (read turns n v s) x _ _ rest s.limited ((exact_read turns n m v).complete w x s rest tt c is stop)
    (λ e s' place failed limit.
    let H = (counts_read turns n m v s.nodes s.height).stopped s e place s' tt within.before failed limit in
    not_beyond e v s x within (H.beyond w rest s'.rest x c (sym is ∙ H.parts) (λ minus. refl) stop))

pub found_if : (o : Outcome Tree) (x : Tree) (enough : Type 0) (rest : List Token) → IsFoundIf enough o x rest → enough → (s' : State) × (o ≡ Found x s') × (s'.rest ≡ rest)
found_if (Found y m) x enough rest is en = (m, ap (λ v. Found v m) is.0, is.1)
found_if (Failed e m) x enough rest is en = absurd (is.1 en)

pub within_is_found_whole : WithinIsFoundWhole
within_is_found_whole v w x c = (
  c.0,
  λ turns n s is within deep more.
      found_if (read turns n v s) x _ [] (within_is_found turns n c.0 v w [] x s c.1 (is ∙ sym (append-nil w)) refl within) (deep, rw is more),
)
