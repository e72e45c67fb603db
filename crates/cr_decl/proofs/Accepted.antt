-- A body within the limits is refused nowhere.
use Rattle.std.proofs.Common.{◌≡◌, ◌≤◌, ◌<◌, ℕ, suc, List, [], ◌∷◌, ◌++◌, length, Ok, Err, ◌⊎◌, inl, inr, refl, sym, ap, subst, ◌∙◌, append_assoc, arith}
use Rattle.std.proofs.lemmas.List.{append-nil, length-append}
use Rattle.cr_syntax.specs.declared.look.TokenLook.TheVariants as l
use Rattle.cr_syntax.specs.declared.token.Token.{Token}
use Rattle.cr_syntax.specs.Look.{look_of}
use Rattle.cr_grammar.specs.Count.{nodes, nesting}
use Rattle.cr_grammar.specs.declared.tree.Tree.{Tree}
use Rattle.cr_grammar.specs.declared.wanted.Wanted.TheVariants.{Stmts}
use Rattle.cr_grammar.specs.declared.within.Within.{Within}
use Rattle.cr_grammar.specs.Grammar.{Spells}
use Rattle.cr_readers.specs.declared.fault.ParseFault.TheVariants.{Unexpected, TooDeep, TooManyNodes, NoMemory}
use Rattle.cr_readers.specs.Cursor.{start_of}
use Rattle.cr_readers.specs.Descent.{read}
use Rattle.cr_readers.specs.Goes as g
use Rattle.cr_readers.specs.Reader.{State, Outcome, Found, Failed, max_nesting, max_nodes, tail}
use Rattle.cr_exact.specs.Exact.{Stops}
use Rattle.cr_exact.specs.Limits.{tight_next}
use Rattle.cr_descent.specs.Bodies.{IsBody, SpellsBody}
use Rattle.cr_descent.specs.Laws.{AtMostOneTree, FoundIsLongest}
use Rattle.cr_descent.specs.LimitLaws.{BeginsLimited, HasNoWay, IsFoundIf, IsWithin, WithinIsFound}
use Rattle.cr_decl.specs.Bodies.{BodyIsAccepted}

-- ---- the last token

none_behind : (front other : List Token) → front ++ other ≡ [] → other ≡ []
none_behind [] other is = is
none_behind (t ∷ front) other is = absurd cc

one_more : (a b : Token) (front v w u : List Token) → a ∷ front ≡ b ∷ u → w ≡ v → b ∷ w ≡ a ∷ v
one_more a b front v w u is same = cc

-- The last token stands in what follows the front, or nothing follows it.
last_of : (front other w : List Token) (e : Token) → front ++ other ≡ w ++ e ∷ [] → (other ≡ []) ⊎ ((v : List Token) × (other ≡ v ++ e ∷ []) × (w ≡ front ++ v))
last_of [] other w e is = inr (w, is, refl)
last_of (a ∷ front) other [] e is = inl (none_behind front other (ap tail is))
last_of (a ∷ front) other (b ∷ w) e is = elim (last_of front other w e (ap tail is)) [
  | inl none ↦ inl none
  | inr cut ↦ inr (cut.0, cut.1, one_more a b (front ++ other) (front ++ cut.0) w (w ++ e ∷ []) is cut.2)
]

not_none : (v : List Token) (e : Token) → [] ≡ v ++ e ∷ [] → ⊥
not_none [] e is = cc
not_none (t ∷ v) e is = cc

-- One list has one front before its last token.
one_front : (v w : List Token) (d e : Token) → v ++ d ∷ [] ≡ w ++ e ∷ [] → v ≡ w
one_front [] [] d e is = refl
one_front [] (b ∷ w) d e is = absurd (not_none w e (ap tail is))
one_front (a ∷ v) [] d e is = absurd (not_none v d (sym (ap tail is)))
one_front (a ∷ v) (b ∷ w) d e is = one_more b a (w ++ e ∷ []) w v (v ++ d ∷ []) (sym is) (one_front v w d e (ap tail is))

-- ---- End behind statements

stops : (within : Within) (e : Token) (more : List Token) → look_of e.kind ≡ l.End → Stops (g.goes_of (Stmts within)) (e ∷ more)
stops within e more is = ap (λ look. g.goes_body look e.spaced) is

found_if : (o : Outcome Tree) (x : Tree) (enough : Type 0) (rest : List Token) → IsFoundIf enough o x rest → enough → (s : State) × (o ≡ Found x s) × (s.rest ≡ rest)
found_if (Found y s) x enough rest is have = (s, ap (λ v. Found v s) is.0, is.1)
found_if (Failed e s) x enough rest is have = absurd (is.1 have)

-- A front before some token is shorter than its list.
shorter : (list front rest more : List Token) (e : Token) → list ≡ front ++ rest → rest ≡ e ∷ more → length front < length list
shorter list front rest more e parts is =
    let n : length list ≡ length (front ++ e ∷ more) = ap (λ (v : List Token). length v) (parts ∙ ap (λ (v : List Token). front ++ v) is) in
    omega (arith, n, length-append front (e ∷ more))

-- Where the front ends before the End of a body, the body has more than the limit.
past : (within : Within) (most : ℕ) (much : Tree → ℕ) (list : List Token) (place : ℕ) (x : Tree) (h : HasNoWay (Stmts within) most much list place)
    (w v : List Token) (e : Token) → h.rest ≡ v ++ e ∷ [] → w ≡ h.front ++ v → Spells (Stmts within) w x → most < much x
past within most much list place x h w [] e rest is c = h.alone x (subst (λ (u : List Token). Spells (Stmts within) u x) (is ∙ append-nil h.front) c)
past within most much list place x h w (t ∷ v) e rest is c =
    h.beyond (t ∷ v) x (λ _. sym (ap (λ (u : List Token). tight_next u) rest)) (subst (λ (u : List Token). Spells (Stmts within) u x) is c)

module _ (one : AtMostOneTree) (begins : BeginsLimited) (found : WithinIsFound) (longest : FoundIsLongest) where
  -- Statements within the limits and End behind them begin no other statements, since the reader stops at the End.
  apart : (within : Within) (w more : List Token) (e : Token) (x y : Tree) → look_of e.kind ≡ l.End → nodes x ≤ max_nodes → nesting x ≤ max_nesting
      → Spells (Stmts within) w x → Spells (Stmts within) (w ++ e ∷ more) y → ⊥
  apart within w more e x y is few nested c d =
      let list = w ++ e ∷ more in
      let turns = suc (length list) in
      let s = start_of list in
      let keeps : IsWithin (Stmts within) s x = record { before = begins (Stmts within) list; nested = omega (arith, nested); few = omega (arith, few) } in
      let F = found_if (read turns c.0 (Stmts within) s) x _ (e ∷ more)
      (found turns c.0 c.0 (Stmts within) w (e ∷ more) x s c.1 refl (stops within e more is) keeps) (omega arith, omega arith) in
      let L = longest turns c.0 (Stmts within) s F.0 x F.1 in
      let less = shorter list L.front F.0.rest more e L.parts F.2 in
      absurd (omega (arith, less, L.longest list [] y (sym (append-nil list)) d))

  -- A list that has no way within a limit is no body within it, neither where the front holds the End nor where it ends before it.
  no_limit : (within : Within) (most : ℕ) (much : Tree → ℕ) (list : List Token) (place : ℕ) (x : Tree) → HasNoWay (Stmts within) most much list place → IsBody within list x → much x ≤ most → ⊥
  no_limit within most much list place x h is below =
      let b = is.spelled in
      elim (last_of h.front h.rest b.statements b.last (sym h.parts ∙ b.parts)) [
        | inl none ↦
            let all : h.front ≡ b.statements ++ b.last ∷ [] = sym (append-nil h.front) ∙ ap (λ (v : List Token). h.front ++ v) (sym none) ∙ sym h.parts ∙ b.parts in
            apart within b.statements h.more b.last x h.value b.is_end is.few is.nested b.spelled
            (subst (λ (v : List Token). Spells (Stmts within) v h.value) (ap (λ (v : List Token). v ++ h.more) all ∙ append_assoc b.statements (b.last ∷ []) h.more) h.alive)
        | inr cut ↦
            let more : most < much x = past within most much list place x h b.statements cut.0 b.last cut.1 cut.2 b.spelled in
            absurd (omega (arith, more, below))
      ]

  pub body_is_accepted : BodyIsAccepted
  body_is_accepted within list x (Ok y) answer is =
      let a = answer.spelled in
      let b = is.spelled in
      let same : b.statements ≡ a.statements = one_front b.statements a.statements b.last a.last (sym b.parts ∙ a.parts) in
      one (Stmts within) a.statements y x a.spelled (subst (λ (v : List Token). Spells (Stmts within) v x) same b.spelled)
  body_is_accepted within list x (Err (Unexpected place)) answer is =
      absurd (answer.dead answer.rest x refl (subst (λ (v : List Token). SpellsBody within v x) answer.parts is.spelled))
  body_is_accepted within list x (Err (TooDeep place)) answer is = absurd (no_limit within max_nesting nesting list place x answer is is.nested)
  body_is_accepted within list x (Err (TooManyNodes place)) answer is = absurd (no_limit within max_nodes nodes list place x answer is is.few)
  body_is_accepted within list x (Err NoMemory) answer is = refl
