-- One tree at most, the first unexpected token, the longest front: what exactness comes to.
use Rattle.std.proofs.Common.{◌≡◌, ℕ, suc, ◌+◌, ◌≤◌, Bool, false, List, [], ◌∷◌, ◌++◌, length, ◌⊎◌, inl, inr, refl, sym, ap, subst, ◌∙◌, arith}
use Rattle.std.proofs.lemmas.Bool.{both_ways}
use Rattle.std.proofs.lemmas.List.{append-nil}
use Rattle.cr_syntax.specs.declared.look.TokenLook.{TokenLook}
use Rattle.cr_syntax.specs.declared.look.TokenLook.TheVariants as l
use Rattle.cr_syntax.specs.declared.token.Token.{Token}
use Rattle.cr_grammar.specs.declared.tree.Tree.{Tree}
use Rattle.cr_grammar.specs.declared.wanted.Wanted.{Wanted}
use Rattle.cr_grammar.specs.Grammar.{Spells_in}
use Rattle.cr_readers.specs.declared.fault.ParseFault.TheVariants.{Unexpected, TooDeep, TooManyNodes, NoMemory}
use Rattle.cr_readers.specs.declared.fault.ParseFault.{ParseFault}
use Rattle.cr_readers.specs.Reader.{State, Outcome, Found, Failed}
use Rattle.cr_exact.specs.Exact.{at, head, last_from, MayStop, Ends, Enough}
use Rattle.cr_readers.specs.Descent.{read}
use Rattle.cr_descent.specs.Laws.{effort_of, AtMostOneTree, FaultsAreFirst, FoundIsLongest, SpelledIsFound}
use Rattle.cr_syntax.specs.declared.token.TokenKind.{TokenKind}
use Rattle.cr_syntax.specs.declared.token.TokenKind.TheVariants as k
use Rattle.cr_syntax.specs.Look.{look_of}
use Rattle.cr_grammar.specs.declared.wanted.Wanted.TheVariants.{Written, When, Unary, Or, Simple, Stmt, Stmts, Program}
use Rattle.cr_readers.specs.Goes as g
use Rattle.cr_exact.specs.Exact.{Stops, Reaches, Clear, scoped, hollow}
use Rattle.cr_exact.proofs.TokenTests.{never_stops}
use Rattle.cr_descent.specs.Laws.{Tells}
use Rattle.cr_descent.proofs.Knot as knot

-- before all tokens, without limits
abbrev pub begin : List Token → State
begin w = record { before = l.Newline; rest = w; depth = 0; nodes = 0; height = 0; limited = false }

-- Where there is enough to go on, and no limit, nothing stops a reader.
no_stop : (e : ParseFault) (enough : Type 0) (limited : Bool) → limited ≡ false → enough → MayStop enough limited e → ⊥
no_stop (Unexpected n) enough limited free is stop = stop
no_stop (TooDeep n) enough limited free is stop = both_ways _ free stop
no_stop (TooManyNodes n) enough limited free is stop = both_ways _ free stop
no_stop NoMemory enough limited free is stop = stop is

same_end : (o : Outcome Tree) (x y : Tree) (one other : Type 0) (before after : TokenLook) (rest : List Token) (limited : Bool)
    → Ends one o x before rest limited → Ends other o y after rest limited → limited ≡ false → one → x ≡ y
same_end (Found z m) x y one other before after rest limited e f free is = sym e.0 ∙ f.0
same_end (Failed d m) x y one other before after rest limited e f free is = absurd (no_stop d one limited free is e)

pub found_end : (o : Outcome Tree) (x : Tree) (enough : Type 0) (before : TokenLook) (rest : List Token) (limited : Bool)
    → Ends enough o x before rest limited → limited ≡ false → enough → (m : State) × (o ≡ Found x m) × (m.rest ≡ rest)
found_end (Found z m) x enough before rest limited e free is = (m, ap (λ v. Found v m) e.0, e.2)
found_end (Failed d m) x enough before rest limited e free is = absurd (no_stop d enough limited free is e)

refused_end : (o : Outcome Tree) (n : ℕ) (m : State) (x : Tree) (enough : Type 0) (before : TokenLook) (rest : List Token) (limited : Bool)
    → o ≡ Failed (Unexpected n) m → Ends enough o x before rest limited → ⊥
refused_end o n m x enough before rest limited is e =
    let whole : Ends enough (Failed (Unexpected n) m) x before rest limited = subst (λ v. Ends enough v x before rest limited) is e in
    whole

pub short_end : (o : Outcome Tree) (y x : Tree) (m : State) (t : Token) (u : List Token) (enough : Type 0) (before : TokenLook) (limited : Bool)
    → o ≡ Found y m → m.rest ≡ t ∷ u → Ends enough o x before [] limited → ⊥
short_end o y x m t u enough before limited is rest e =
    let whole : Ends enough (Found y m) x before [] limited = subst (λ v. Ends enough v x before [] limited) is e in
    let none : t ∷ u ≡ [] = sym rest ∙ whole.2 in
    cc

pub all_of : (wanted : Wanted) (turns n m : ℕ) (w : List Token) (x : Tree) (s : State) → Spells_in m wanted w x → s.rest ≡ w
    → Ends (Enough (effort_of turns n m) s) (read turns n wanted s) x (last_from s.before w) [] s.limited
all_of wanted turns n m w x s c e = (knot.exact_read turns n m wanted).complete w x s [] tt c (e ∙ sym (append-nil w)) refl

pub one_tree : AtMostOneTree
one_tree wanted w x y c d =
    let turns = suc (length w) in
    let n = c.0 + d.0 in
    same_end (read turns n wanted (begin w)) x y _ _ _ _ [] false
    (all_of wanted turns n c.0 w x (begin w) c.1 refl) (all_of wanted turns n d.0 w y (begin w) d.1 refl)
    refl (omega arith, omega arith)

-- Where it is not clear what a token tells, no value and no type goes on by it.
not_going : (free : Bool) (kind : TokenKind) (spaced : Bool) → ((scoped (look_of kind) spaced ≡ false) × (hollow kind ≡ false))
    ⊎ ((g.goes_or free (look_of kind) spaced ≡ false) × (g.goes_operand free (look_of kind) spaced ≡ false) × (g.goes_type (look_of kind) spaced ≡ false))
not_going free (k.InstanceVariable text) spaced = inr (refl, refl, refl)
not_going free (k.Plain l.Yield) spaced = inr (refl, refl, refl)
not_going free (k.Plain l.Super) spaced = inr (refl, refl, refl)
not_going free (k.Plain l.KeywordSelf) spaced = inr (refl, refl, refl)
not_going free (k.Plain l.Ident) spaced = inr (refl, refl, refl)
not_going free (k.Plain l.Constant) spaced = inr (refl, refl, refl)
not_going free (k.Plain l.InstanceVariable) spaced = inr (refl, refl, refl)
not_going free (k.Plain l.Int32) spaced = inr (refl, refl, refl)
not_going free (k.Plain l.Int64) spaced = inr (refl, refl, refl)
not_going free (k.Plain l.Text) spaced = inr (refl, refl, refl)
not_going free (k.Plain l.TextFirst) spaced = inr (refl, refl, refl)
not_going free (k.Plain l.TextMiddle) spaced = inr (refl, refl, refl)
not_going free (k.Plain l.TextLast) spaced = inr (refl, refl, refl)
not_going free other spaced = inl (refl, refl)

clear_or_stops : (wanted : Wanted) (rest : List Token) → Tells wanted rest → Clear rest ⊎ Stops (g.goes_of wanted) rest
clear_or_stops (When within free) rest tells = inl tells
clear_or_stops (Simple within) rest tells = inl tells
clear_or_stops (Stmt within) rest tells = inl tells
clear_or_stops (Stmts within) rest tells = inl tells
clear_or_stops Program rest tells = inr (never_stops rest)
clear_or_stops other [] tells = inl tt
clear_or_stops (Written with_arguments) (t ∷ ts) tells = elim (not_going false t.kind t.spaced) [ inl is ↦ inl is | inr not ↦ inr not.2 ]
clear_or_stops (Unary within free) (t ∷ ts) tells = elim (not_going free t.kind t.spaced) [ inl is ↦ inl is | inr not ↦ inr not.1 ]
clear_or_stops (Or within free) (t ∷ ts) tells = elim (not_going free t.kind t.spaced) [ inl is ↦ inl is | inr not ↦ inr not.0 ]

refused_reach : (o : Outcome Tree) (n : ℕ) (m : State) (x : Tree) → o ≡ Failed (Unexpected n) m → Reaches o x m.rest → ⊥
refused_reach o n m x is e =
    let whole : Reaches (Failed (Unexpected n) m) x m.rest = subst (λ v. Reaches v x m.rest) is e in
    absurd (omega (arith, whole))

unfinished : (turns n : ℕ) (wanted : Wanted) (s s' : State) (place : ℕ) → read turns n wanted s ≡ Failed (Unexpected place) s' → (front : List Token) → s.rest ≡ front ++ s'.rest
    → (x : Tree) (m : ℕ) → Spells_in m wanted front x → Clear s'.rest ⊎ Stops (g.goes_of wanted) s'.rest → ⊥
unfinished turns n wanted s s' place e front parts x m c (inl clear) =
    refused_reach (read turns n wanted s) place s' x e ((knot.exact_read turns n m wanted).reaches front x s s'.rest tt c parts clear)
unfinished turns n wanted s s' place e front parts x m c (inr stop) =
    refused_end (read turns n wanted s) place s' x _ _ s'.rest _ e ((knot.exact_read turns n m wanted).complete front x s s'.rest tt c parts stop)

pub first_unexpected : FaultsAreFirst
first_unexpected turns n wanted s s' place e =
    let F = (knot.exact_read turns n 0 wanted).refused s place s' tt e in
    record {
      front = F.front;
      rest = s'.rest;
      parts = F.parts;
      at_rest = F.place;
      more = F.more;
      value = F.value;
      alive = (suc (suc n), F.begins);
      unfinished = λ tells x c. unfinished turns n wanted s s' place e F.front F.parts x c.0 c.1 (clear_or_stops wanted s'.rest tells);
      dead = λ other x same c.
          refused_end (read turns n wanted (at s (F.front ++ other))) place (at s' other) x _ _ [] _ (F.again other same)
          (all_of wanted turns n c.0 (F.front ++ other) x (at s (F.front ++ other)) c.1 refl);
    }

same_cons : (a t : Token) (v w : List Token) → a ∷ v ≡ t ∷ w → (a ≡ t) × (v ≡ w)
same_cons a t v w e = (cc, cc)

one_more : (a t : Token) (w v : List Token) → a ≡ t → w ≡ v → t ∷ w ≡ a ∷ v
one_more a t w v e f = cc

-- A front of one list is no longer than that of another, or goes on with what follows the other.
longer : (front rest w behind : List Token) → front ++ rest ≡ w ++ behind
    → (length w ≤ length front) ⊎ ((t : Token) × (u : List Token) × (w ≡ front ++ t ∷ u) × (head (t ∷ u) ≡ head rest))
longer front rest [] behind e = inl (omega arith)
longer [] rest (t ∷ u) behind e = inr (t, u, refl, ap head (sym e))
longer (a ∷ front) rest (t ∷ w) behind e =
    let parts = same_cons a t (front ++ rest) (w ++ behind) e in
    elim (longer front rest w behind parts.1) [
      | inl less ↦ inl (omega (arith, less))
      | inr more ↦ inr (more.0, more.1, one_more a t w (front ++ more.0 ∷ more.1) parts.0 more.2, more.3)
    ]

pub longest_front : FoundIsLongest
longest_front turns n wanted s s' x e =
    let F = (knot.exact_read turns n 0 wanted).found s x s' tt e in
    record {
      front = F.front;
      parts = F.parts;
      spelled = (suc (suc n), F.spelled);
      longest = λ w behind y same c. elim (longer F.front s'.rest w behind (sym F.parts ∙ same)) [
        | inl less ↦ less
        | inr more ↦ absurd (short_end (read turns n wanted (at s (F.front ++ more.0 ∷ more.1))) x y (at s' (more.0 ∷ more.1)) more.0 more.1 _ _ _
            (F.again (more.0 ∷ more.1) more.3) refl
            (all_of wanted turns n c.0 (F.front ++ more.0 ∷ more.1) y (at s (F.front ++ more.0 ∷ more.1)) (subst (λ (v : List Token). Spells_in c.0 wanted v y) more.2 c.1) refl))
      ];
      dead = λ t u y next c.
          short_end (read turns n wanted (at s (F.front ++ t ∷ u))) x y (at s' (t ∷ u)) t u _ _ _ (F.again (t ∷ u) (sym next)) refl
          (all_of wanted turns n c.0 (F.front ++ t ∷ u) y (at s (F.front ++ t ∷ u)) c.1 refl);
    }

pub spelled_is_found : SpelledIsFound
spelled_is_found wanted w x c =
    (c.0, λ turns s rest free more. found_end (read turns c.0 wanted s) x _ _ [] _ (all_of wanted turns c.0 c.0 w x s c.1 rest) free (omega arith, rw rest more))
