-- A body is statements before one End: what the reader of statements answers, and what comes behind them.
use Rattle.std.proofs.Common.{◌≡◌, ℕ, suc, append_assoc, ◌+◌, Bool, true, false, List, [], ◌∷◌, ◌++◌, length, Ok, Err, Result, Some, ◌⊎◌, inl, inr, refl, sym, ap, subst, ◌∙◌, arith}
use Rattle.std.proofs.lemmas.List.{append-nil}
use Rattle.cr_syntax.specs.declared.look.TokenLook.TheVariants as l
use Rattle.cr_syntax.specs.declared.token.TokenKind.{TokenKind}
use Rattle.cr_syntax.specs.declared.token.TokenKind.TheVariants as k
use Rattle.cr_syntax.specs.declared.token.Token.{Token}
use Rattle.cr_syntax.specs.Look.{look_of}
use Rattle.cr_grammar.specs.declared.tree.Tree.{Tree}
use Rattle.cr_grammar.specs.declared.wanted.Wanted.TheVariants.{Stmts}
use Rattle.cr_grammar.specs.declared.within.Within.{Within}
use Rattle.cr_grammar.specs.Grammar.{Spells}
use Rattle.cr_readers.specs.declared.fault.ParseFault.{ParseFault}
use Rattle.cr_readers.specs.declared.fault.ParseFault.TheVariants.{Unexpected, TooDeep, TooManyNodes, NoMemory}
use Rattle.cr_readers.specs.Cursor.{start_of}
use Rattle.cr_readers.specs.Reader.{State, Outcome, Found, Failed, and_then, pure, expect, next, tail, taken, read_by, word_read, place_if, place_at, same_look}
use Rattle.cr_readers.specs.Reads.{Reads}
use Rattle.cr_readers.specs.Goes as g
use Rattle.cr_readers.specs.Descent.{read}
use Rattle.cr_exact.specs.Exact.{head, Stops, Clear, scoped, hollow}
use Rattle.cr_exact.proofs.Tokens.{a_token}
use Rattle.cr_exact.proofs.TokenTests.{same_look_is, look_is_same}
use Rattle.cr_descent.specs.Answers.{Answers, ReadersAnswer}
use Rattle.cr_descent.specs.Laws.{IsLongest, IsFirstUnexpected}
use Rattle.cr_descent.specs.LimitLaws.{IsCounted, IsWithin}
use Rattle.cr_descent.specs.Programs.{EndsOnce}
use Rattle.cr_descent.specs.Bodies.{SpellsBody, IsBody, IsFirstUnexpectedInBody, AnswersBody, BodyIsAnswered, BodyDepthIsEnough}
use Rattle.cr_descent.proofs.Consequences.{begin, found_end, short_end, all_of}
use Rattle.cr_descent.proofs.Knot.{exact_read}
use Rattle.cr_descent.proofs.LimitKnot as limits
use Rattle.cr_descent.proofs.Programs as programs

-- ---- End behind statements

stops : (within : Within) (e : Token) (more : List Token) → look_of e.kind ≡ l.End → Stops (g.goes_of (Stmts within)) (e ∷ more)
stops within e more is = ap (λ look. g.goes_body look e.spaced) is

-- Statements and End behind them begin no other statements, since the reader stops at the End.
apart : (within : Within) (w more : List Token) (e : Token) (x y : Tree) → look_of e.kind ≡ l.End → Spells (Stmts within) w x → Spells (Stmts within) (w ++ e ∷ more) y → ⊥
apart within w more e x y is c d =
    let turns = suc (length (w ++ e ∷ more)) in
    let n = c.0 + d.0 in
    let s = begin (w ++ e ∷ more) in
    let F = found_end (read turns n (Stmts within) s) x _ _ (e ∷ more) false
    ((exact_read turns n c.0 (Stmts within)).complete w x s (e ∷ more) tt c.1 refl (stops within e more is)) refl (omega arith, omega arith) in
    short_end (read turns n (Stmts within) s) x y F.0 e more _ _ _ F.1 F.2 (all_of (Stmts within) turns n d.0 (w ++ e ∷ more) y s d.1 refl)

filled : (kind : TokenKind) → look_of kind ≡ l.End → hollow kind ≡ false
filled (k.Plain a) is = ap (λ v. hollow (k.Plain v)) is
filled other is = refl

same_token : (t e : Token) (rest : List Token) → head (t ∷ rest) ≡ Some e → t ≡ e
same_token t e rest is = cc

-- End tells that no statement goes on.
clear_end : (rest : List Token) (e : Token) → head rest ≡ Some e → look_of e.kind ≡ l.End → Clear rest
clear_end [] e first is = tt
clear_end (t ∷ rest) e first is =
    let end : look_of t.kind ≡ l.End = ap (λ (v : Token). look_of v.kind) (same_token t e rest first) ∙ is in
    (ap (λ look. scoped look t.spaced) end, filled t.kind end)

-- ---- the last token

none_behind : (front other : List Token) → front ++ other ≡ [] → other ≡ []
none_behind [] other is = is
none_behind (t ∷ front) other is = absurd cc

one_more : (a b : Token) (front v w u : List Token) → a ∷ front ≡ b ∷ u → w ≡ v → b ∷ w ≡ a ∷ v
one_more a b front v w u is same = cc

-- The last token stands in what follows the front, or nothing follows it.
last_of : (front other w : List Token) (e : Token) → front ++ other ≡ w ++ e ∷ [] → (other ≡ []) ⊎ ((v : List Token) × (other ≡ v ++ e ∷ []) × (w ≡ front ++ v))
last_of [] other w e is = inr (w, is, refl)
last_of (a ∷ front) other [] e is = inl (none_behind front other (ap tail is))
last_of (a ∷ front) other (b ∷ w) e is = elim (last_of front other w e (ap tail is)) [
  | inl none ↦ inl none
  | inr cut ↦ inr (cut.0, cut.1, one_more a b (front ++ other) (front ++ cut.0) w (w ++ e ∷ []) is cut.2)
]

-- ---- an unexpected token

-- Where the front begins statements, is none of them before End, and with the next token begins none, the next token is unexpected.
module _ (within : Within) (list front rest more : List Token) (value : Tree) (place : ℕ) (parts : list ≡ front ++ rest) (at_rest : place ≡ place_at rest)
    (alive : Spells (Stmts within) (front ++ more) value)
    (at_end : (e : Token) (x : Tree) → head rest ≡ Some e → look_of e.kind ≡ l.End → Spells (Stmts within) front x → ⊥)
    (dead : (t : Token) (u : List Token) (x : Tree) → head rest ≡ Some t → Spells (Stmts within) (front ++ t ∷ u) x → ⊥) where
  unfinished : (x : Tree) → SpellsBody within front x → ⊥
  unfinished x b =
      apart within b.statements more b.last x value b.is_end b.spelled
      (subst (λ (v : List Token). Spells (Stmts within) v value) (ap (λ (v : List Token). v ++ more) b.parts ∙ append_assoc b.statements (b.last ∷ []) more) alive)

  no_statements : (other v w : List Token) (e : Token) (x : Tree) → other ≡ v ++ e ∷ [] → w ≡ front ++ v → look_of e.kind ≡ l.End → Spells (Stmts within) w x → head other ≡ head rest → ⊥
  no_statements other [] w e x is before end c same =
      at_end e x (sym same ∙ ap head is) end (subst (λ (u : List Token). Spells (Stmts within) u x) (before ∙ append-nil front) c)
  no_statements other (t ∷ v) w e x is before end c same =
      dead t v x (sym same ∙ ap head is) (subst (λ (u : List Token). Spells (Stmts within) u x) before c)

  no_body : (other : List Token) (x : Tree) → head other ≡ head rest → SpellsBody within (front ++ other) x → ⊥
  no_body other x same b = elim (last_of front other b.statements b.last b.parts) [
    | inl none ↦ unfinished x (subst (λ (v : List Token). SpellsBody within v x) (ap (λ (v : List Token). front ++ v) none ∙ append-nil front) b)
    | inr cut ↦ no_statements other cut.0 b.statements b.last x cut.1 cut.2 b.is_end b.spelled same
  ]

  unexpected : IsFirstUnexpectedInBody within list place
  unexpected =
      let end = a_token (k.Plain l.End) in
      record {
        front = front;
        rest = rest;
        parts = parts;
        at_rest = at_rest;
        more = more ++ end ∷ [];
        value = value;
        alive = record { statements = front ++ more; last = end; parts = sym (append_assoc front more (end ∷ [])); is_end = refl; spelled = alive };
        unfinished = λ tells x b. unfinished x b;
        dead = no_body;
      }

-- what the reader of statements refuses
refused_inside : (within : Within) (list : List Token) (place : ℕ) → IsFirstUnexpected (Stmts within) list place → IsFirstUnexpectedInBody within list place
refused_inside within list place F =
    unexpected within list F.front F.rest F.more F.value place F.parts F.at_rest F.alive
    (λ e x first is c. F.unfinished (clear_end F.rest e first is) x c)
    (λ t u x first c. F.dead (t ∷ u) x (sym first) c)

-- what comes behind statements and is not End
refused_behind : (within : Within) (list rest : List Token) (x : Tree) → IsLongest (Stmts within) list x rest → ((e : Token) → head rest ≡ Some e → look_of e.kind ≡ l.End → ⊥)
    → IsFirstUnexpectedInBody within list (place_at rest)
refused_behind within list rest x L not_end =
    unexpected within list L.front rest [] x (place_at rest) L.parts refl
    (subst (λ (v : List Token). Spells (Stmts within) v x) (sym (append-nil L.front)) L.spelled)
    (λ e y first is c. not_end e first is) L.dead

-- ---- the End

-- End comes.
abbrev AtEnd : State → Type 0
AtEnd s = (t : Token) × (rest : List Token) × (s.rest ≡ t ∷ rest) × (look_of t.kind ≡ l.End)

-- Something else comes, or nothing, and is refused.
abbrev NotAtEnd : State → Type 0
NotAtEnd s = ((e : Token) → head s.rest ≡ Some e → look_of e.kind ≡ l.End → ⊥) × (expect l.End s ≡ Failed (Unexpected (place_at s.rest)) s)

read_end : (s : State) (at : AtEnd s) → expect l.End s ≡ Found at.0.span.first (next s)
read_end s at = ap (λ v. taken v s) (ap (λ v. read_by (word_read l.End) v) at.2 ∙ ap (λ b. place_if b at.0) (look_is_same _ _ at.3))

by_look : (b : Bool) (s : State) (t : Token) (rest : List Token) → same_look (look_of t.kind) l.End ≡ b → s.rest ≡ t ∷ rest → AtEnd s ⊎ NotAtEnd s
by_look true s t rest same is = inl (t, rest, is, same_look_is _ _ same)
by_look false s t rest same is =
    inr (
      λ e first end.
          let end_here : look_of t.kind ≡ l.End = ap (λ (v : Token). look_of v.kind) (same_token t e rest (ap head (sym is) ∙ first)) ∙ end in
          let found : false ≡ true = sym same ∙ look_is_same _ _ end_here in
          cc,
      ap (λ v. taken v s) (ap (λ v. read_by (word_read l.End) v) is ∙ ap (λ b. place_if b t) same),
    )

nothing_first : (rest : List Token) (e : Token) → rest ≡ [] → head rest ≡ Some e → ⊥
nothing_first [] e is first = cc
nothing_first (t ∷ rest) e is first = cc

by_end : (s : State) (rest : List Token) → s.rest ≡ rest → AtEnd s ⊎ NotAtEnd s
by_end s [] is = inr (λ e first end. nothing_first s.rest e is first, ap (λ v. taken (read_by (word_read l.End) v) s) is)
by_end s (t ∷ rest) is = by_look (same_look (look_of t.kind) l.End) s t rest refl is

-- ---- the answer

-- what comes out behind statements
abbrev behind : Tree → State → Outcome Tree
behind x s = and_then (expect l.End s) (λ _. pure x)

whole : (within : Within) (list : List Token) (x : Tree) (s : State) → EndsOnce list → IsLongest (Stmts within) list x s.rest → IsCounted (Stmts within) (start_of list) s x → AtEnd s → IsBody within list x
whole within list x s once L counted at =
    let e : L.front ++ at.0 ∷ at.1 ≡ once.front ++ once.last ∷ [] = ap (λ (v : List Token). L.front ++ v) (sym at.2) ∙ sym L.parts ∙ once.parts in
    let none : at.1 ≡ [] = programs.nothing_behind once.front L.front at.1 once.last at.0 once.no_other at.3 e in
    record {
      spelled = record {
        statements = L.front;
        last = at.0;
        parts = L.parts ∙ ap (λ (v : List Token). L.front ++ v) (at.2 ∙ ap (λ (v : List Token). at.0 ∷ v) none);
        is_end = at.3;
        spelled = L.spelled;
      };
      few = omega (arith, counted.nodes, counted.few);
      nested = omega (arith, counted.nested);
    }

same_found : (x y : Tree) (s s' : State) → Found x s ≡ Found y s' → x ≡ y
same_found x y s s' e = cc

same_place : (a b : ℕ) (s s' : State) → let refused : ℕ → State → Outcome Tree = λ n m. Failed (Unexpected n) m in refused a s ≡ refused b s' → a ≡ b
same_place a b s s' e = cc

answer_found : (within : Within) (list : List Token) (x : Tree) (s s' : State) (r : Result Tree ParseFault) → IsBody within list x → Reads (Found x s) r s' → AnswersBody within list r
answer_found within list x s s' (Ok y) body reads = subst (λ v. IsBody within list v) (same_found x y s s' reads) body
answer_found within list x s s' (Err (Unexpected place)) body reads = absurd (let e : Found x s ≡ Failed (Unexpected place) s' = reads (λ e. cc) in cc)
answer_found within list x s s' (Err (TooDeep place)) body reads = absurd (let e : Found x s ≡ Failed (TooDeep place) s' = reads (λ e. cc) in cc)
answer_found within list x s s' (Err (TooManyNodes place)) body reads = absurd (let e : Found x s ≡ Failed (TooManyNodes place) s' = reads (λ e. cc) in cc)
answer_found within list x s s' (Err NoMemory) body reads = tt

answer_refused : (within : Within) (list : List Token) (place : ℕ) (s s' : State) (r : Result Tree ParseFault) → IsFirstUnexpectedInBody within list place
    → Reads (let refused : Outcome Tree = Failed (Unexpected place) s in refused) r s' → AnswersBody within list r
answer_refused within list place s s' (Ok y) first reads = absurd cc
answer_refused within list place s s' (Err (Unexpected other)) first reads =
    subst (λ v. IsFirstUnexpectedInBody within list v) (same_place place other s s' (reads (λ e. cc))) first
answer_refused within list place s s' (Err (TooDeep other)) first reads = absurd (let e : Failed (Unexpected place) s ≡ Failed (TooDeep other) s' = reads (λ e. cc) in cc)
answer_refused within list place s s' (Err (TooManyNodes other)) first reads = absurd (let e : Failed (Unexpected place) s ≡ Failed (TooManyNodes other) s' = reads (λ e. cc) in cc)
answer_refused within list place s s' (Err NoMemory) first reads = tt

-- what the reader of statements answers with a fault
answer_failed : (within : Within) (list : List Token) (d : ParseFault) (s s' : State) (r : Result Tree ParseFault) → Answers (Stmts within) (start_of list) r s'
    → Reads (let failed : Outcome Tree = Failed d s in failed) r s' → AnswersBody within list r
answer_failed within list d s s' (Ok y) answer reads = absurd cc
answer_failed within list d s s' (Err (Unexpected place)) answer reads = refused_inside within list place answer
answer_failed within list d s s' (Err (TooDeep place)) answer reads = programs.deep (Stmts within) list place answer
answer_failed within list d s s' (Err (TooManyNodes place)) answer reads = programs.few (Stmts within) list place answer
answer_failed within list d s s' (Err NoMemory) answer reads = tt

by_outcome : ReadersAnswer → (turns n : ℕ) (within : Within) (list : List Token) (s' : State) (r : Result Tree ParseFault) (o : Outcome Tree) → EndsOnce list
    → read turns n (Stmts within) (start_of list) ≡ o → Reads (and_then o behind) r s' → AnswersBody within list r
by_outcome answers turns n within list s' r (Failed d s) once is reads =
    answer_failed within list d s s' r
    (answers turns n (Stmts within) (start_of list) s' r (limits.new_cursor_is_limited (Stmts within) list) (subst (λ v. Reads v r s') (sym is) reads)) reads
by_outcome answers turns n within list s' r (Found x s) once is reads =
    let A = answers turns n (Stmts within) (start_of list) s (Ok x) (limits.new_cursor_is_limited (Stmts within) list) is in
    elim (by_end s s.rest refl) [
      | inl at ↦ answer_found within list x (next s) s' r (whole within list x s once A.0 A.1 at)
          (subst (λ v. Reads (and_then v (λ _. pure x)) r s') (read_end s at) reads)
      | inr not ↦ answer_refused within list (place_at s.rest) s s' r (refused_behind within list s.rest x A.0 not.0)
          (subst (λ v. Reads (and_then v (λ _. pure x)) r s') not.1 reads)
    ]

pub body_is_answered : ReadersAnswer → BodyIsAnswered
body_is_answered answers turns n within list s' r once reads =
    by_outcome answers turns n within list s' r (read turns n (Stmts within) (start_of list)) once refl reads

-- ---- a body within the limits

pub body_depth_is_enough : BodyDepthIsEnough
body_depth_is_enough turns n within list x body deep few nested more =
    let s = start_of list in
    let keeps : IsWithin (Stmts within) s x = record { before = limits.new_cursor_is_limited (Stmts within) list; nested = omega (arith, nested); few = omega (arith, few) } in
    let F = limits.found_if (read turns n (Stmts within) s) x _ (body.last ∷ [])
    (limits.within_is_found turns n body.spelled.0 (Stmts within) body.statements (body.last ∷ []) x s body.spelled.1 body.parts (stops within body.last [] body.is_end) keeps)
    (deep, more) in (
      next F.0,
      ap (λ o. and_then o behind) F.1 ∙ ap (λ v. and_then v (λ _. pure x)) (read_end F.0 (body.last, [], F.2, body.is_end)),
    )
