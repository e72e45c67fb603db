-- A program is the whole of a list that ends once, and what is counted at the start is the tree's own.
use Rattle.std.proofs.Common.{◌≡◌, ◌≢◌, ℕ, zero, suc, append_assoc, ◌+◌, max, List, [], ◌∷◌, ◌++◌, All, Ok, Err, Result, refl, sym, ap, subst, ◌∙◌, arith}
use Rattle.cr_syntax.specs.declared.look.TokenLook.TheVariants as l
use Rattle.cr_syntax.specs.declared.token.Token.{Token}
use Rattle.cr_syntax.specs.Look.{look_of}
use Rattle.cr_grammar.specs.Count.{nodes, nesting}
use Rattle.cr_grammar.specs.declared.tree.Tree.{Tree}
use Rattle.cr_grammar.specs.declared.wanted.Wanted.{Wanted}
use Rattle.cr_grammar.specs.declared.wanted.Wanted.TheVariants.{Program}
use Rattle.cr_grammar.specs.Grammar.{Spells, Spells_in}
use Rattle.cr_readers.specs.declared.fault.ParseFault.{ParseFault}
use Rattle.cr_readers.specs.declared.fault.ParseFault.TheVariants.{Unexpected, TooDeep, TooManyNodes, NoMemory}
use Rattle.cr_readers.specs.Cursor.{start_of}
use Rattle.cr_readers.specs.Descent.{read}
use Rattle.cr_readers.specs.Reader.{State, max_nesting, max_nodes, tail, look_at}
use Rattle.cr_descent.specs.Answers.{Answers, ReadersAnswer}
use Rattle.cr_descent.specs.LimitLaws.{HasNoWay, IsWithin}
use Rattle.cr_descent.specs.Programs.{EndsOnce, ProgramIsAnswered, AnswersProgram, DepthIsEnough}
use Rattle.std.proofs.lemmas.List.{append-nil}
use Rattle.cr_descent.proofs.LimitKnot as knot

-- The last token of a program is End.
closed : (n : ℕ) (w : List Token) (x : Tree) → Spells_in n Program w x → (a : List Token) × (t : Token) × (w ≡ a ++ t ∷ []) × (look_of t.kind ≡ l.End)
closed zero w x c = absurd c
closed (suc n) w x c =
    let d = c.5 in
    let t = d.4.0 in
    (c.0, t, c.3 ∙ ap (λ (v : List Token). c.0 ++ v) (d.3 ∙ ap (λ (v : List Token). v ++ d.1) d.4.1 ∙ ap (λ (v : List Token). t ∷ v) d.5.0), d.4.2.0)

not_none : (a rest : List Token) (t : Token) → a ++ t ∷ rest ≡ [] → ⊥
not_none [] rest t e = cc
not_none (u ∷ a) rest t e = cc

-- Nothing follows the one End.
pub nothing_behind : (front a rest : List Token) (last t : Token) → All (λ (u : Token). look_of u.kind ≢ l.End) front → look_of t.kind ≡ l.End
    → a ++ t ∷ rest ≡ front ++ last ∷ [] → rest ≡ []
nothing_behind [] [] rest last t no_other is e = ap tail e
nothing_behind [] (u ∷ a) rest last t no_other is e = absurd (not_none a rest t (ap tail e))
nothing_behind (u ∷ front) [] rest last t no_other is e = absurd (no_other 0 u (omega arith) (sym (ap look_at e) ∙ is))
nothing_behind (u ∷ front) (v ∷ a) rest last t no_other is e = nothing_behind front a rest last t (λ k d below. no_other (suc k) d (omega (arith, below))) is (ap tail e)

-- What a program spells of a list that ends once is the whole list.
whole : (list w rest : List Token) (x : Tree) → EndsOnce list → list ≡ w ++ rest → Spells Program w x → Spells Program list x
whole list w rest x once parts spelled =
    let c = closed spelled.0 w x spelled.1 in
    let e : c.0 ++ c.1 ∷ rest ≡ once.front ++ once.last ∷ [] =
    sym (append_assoc c.0 (c.1 ∷ []) rest) ∙ sym (ap (λ (v : List Token). v ++ rest) c.2) ∙ sym parts ∙ once.parts in
    let none : rest ≡ [] = nothing_behind once.front c.0 rest once.last c.1 once.no_other c.3 e in
    let is : w ≡ list = sym (append-nil w) ∙ sym (ap (λ (v : List Token). w ++ v) none) ∙ sym parts in
    subst (λ (v : List Token). Spells Program v x) is spelled

-- The tree nests too deep by itself.
pub deep : (wanted : Wanted) (list : List Token) (place : ℕ) → HasNoWay wanted max_nesting (λ y. 0 + max 1 (nesting y)) list place → HasNoWay wanted max_nesting nesting list place
deep wanted list place h = record {
  front = h.front;
  rest = h.rest;
  some = h.some;
  parts = h.parts;
  at_last = h.at_last;
  more = h.more;
  value = h.value;
  alive = h.alive;
  alone = λ y c. omega (arith, h.alone y c);
  beyond = λ more y alike c. omega (arith, h.beyond more y alike c);
}

pub few : (wanted : Wanted) (list : List Token) (place : ℕ) → HasNoWay wanted max_nodes (λ y. 0 + nodes y) list place → HasNoWay wanted max_nodes nodes list place
few wanted list place h = record {
  front = h.front;
  rest = h.rest;
  some = h.some;
  parts = h.parts;
  at_last = h.at_last;
  more = h.more;
  value = h.value;
  alive = h.alive;
  alone = λ y c. omega (arith, h.alone y c);
  beyond = λ more y alike c. omega (arith, h.beyond more y alike c);
}

as_program : (list : List Token) (s' : State) (r : Result Tree ParseFault) → EndsOnce list → Answers Program (start_of list) r s' → AnswersProgram list r
as_program list s' (Ok x) once (longest, counted) = record {
  spelled = whole list longest.front s'.rest x once longest.parts longest.spelled;
  few = omega (arith, counted.nodes, counted.few);
  nested = omega (arith, counted.nested);
}
as_program list s' (Err (Unexpected place)) once answer = answer
as_program list s' (Err (TooDeep place)) once answer = deep Program list place answer
as_program list s' (Err (TooManyNodes place)) once answer = few Program list place answer
as_program list s' (Err NoMemory) once answer = tt

pub program_is_answered : ReadersAnswer → ProgramIsAnswered
program_is_answered answers turns n list s' r once reads =
    as_program list s' r once (answers turns n Program (start_of list) s' r (knot.new_cursor_is_limited Program list) reads)

pub depth_is_enough : DepthIsEnough
depth_is_enough turns n list x c few nested more =
    let within : IsWithin Program (start_of list) x = record { before = knot.new_cursor_is_limited Program list; nested = omega (arith, nested); few = omega (arith, few) } in
    let F = knot.found_if (read turns n Program (start_of list)) x _ [] (knot.within_is_found turns n n Program list [] x (start_of list) c (sym (append-nil list)) refl within) (omega arith, more) in
    (F.0, F.1)
