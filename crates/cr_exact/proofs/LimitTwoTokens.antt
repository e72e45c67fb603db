-- What is counted where a command or an operation may follow.
use Rattle.std.proofs.Common.{◌≡◌, ℕ, true, false, cond, ◌&&◌, ◌||◌, List, [], ◌∷◌, ◌++◌, Some, inl, inr, refl, sym, ap, ◌∙◌}
use Rattle.std.proofs.lemmas.Bool.{and_right, both_ways, cases_Bool}
use Rattle.cr_syntax.specs.declared.token.Token.{Token}
use Rattle.cr_syntax.specs.Look.{look_of}
use Rattle.cr_grammar.specs.declared.tree.Tree.{Tree}
use Rattle.cr_grammar.specs.Forms.{Form, ◌<|>◌, passing}
use Rattle.cr_grammar.specs.Operators.{is_minus, begins_value, begins_argument}
use Rattle.cr_readers.specs.declared.fault.ParseFault.{ParseFault}
use Rattle.cr_readers.specs.Reader.{State, Found, Failed, Reader, Test}
use Rattle.cr_exact.specs.Exact.{Stops, Any}
use Rattle.cr_exact.specs.Limits.{Tally, Counted, limit_at, Beyond, tight_next, ComesAs, AtMost, Halts, Counts}
use Rattle.cr_exact.proofs.Tokens.{chosen}
use Rattle.cr_exact.proofs.TwoTokens.{Settled, settled_same}

-- whether a token begins an argument, by what comes behind it
sign_by : (t : Token) (a : List Token) → begins_argument (t ∷ a) ≡ ((t.spaced && begins_value (look_of t.kind)) || (is_minus (look_of t.kind) && t.spaced && tight_next a))
sign_by t [] = ap (λ v. (t.spaced && begins_value (look_of t.kind)) || v) (sym (and_right (is_minus (look_of t.kind) && t.spaced) false refl))
sign_by t (u ∷ a) = refl

-- Behind a token that is no `-` anything may come, and behind a `-` what is tight as well or as well not.
tells_by : (front a b : List Token) → (front ≡ [] → ⊥) → ComesAs front a b → begins_argument (front ++ a) ≡ begins_argument (front ++ b)
tells_by [] a b some same = absurd (some refl)
tells_by (t ∷ []) a b some same = elim (cases_Bool (is_minus (look_of t.kind))) [
  | inl minus ↦ sign_by t a ∙ ap (λ v. (t.spaced && begins_value (look_of t.kind)) || (is_minus (look_of t.kind) && t.spaced && v)) (same minus) ∙ sym (sign_by t b)
  | inr other ↦ settled_same (t ∷ []) a other ∙ sym (settled_same (t ∷ []) b other)
]
tells_by (t ∷ u ∷ front) a b some same = refl

-- K is spelled by what begins an argument, Q by nothing or by an operator and what follows it.
module _ (K Q : Form Tree) (g : Test) (p q : Reader Tree) {from : Tally} {to : Tree → Tally} (cp : Counts Any K g from to p) (cq : Counts Any Q g from to q)
    (k_settled : (w : List Token) (x : Tree) → K w x → Settled w)
    (no_argument : (w rest : List Token) (x : Tree) → Q w x → Stops g rest → begins_argument (w ++ rest) ≡ false) where
  abbrev now : Reader Tree
  now s = cond (begins_argument s.rest) p q s

  abbrev Both : Form Tree
  Both = passing begins_argument K <|> Q

  -- What is spelled where these tokens and the next stand begins an argument as they do.
  alike : (s s' : State) (front w rest more : List Token) → (front ≡ [] → ⊥) → s.rest ≡ front ++ s'.rest → w ++ rest ≡ front ++ more → ComesAs front more s'.rest
      → begins_argument (w ++ rest) ≡ begins_argument s.rest
  alike s s' front w rest more some parts is next =
      ap begins_argument is ∙ tells_by front more s'.rest some next ∙ ap begins_argument (sym parts)

  unless_grows : (w : List Token) (x : Tree) → Both w x → AtMost from (to x)
  unless_grows w x (inl c) = cp.grows w x c.1
  unless_grows w x (inr d) = cq.grows w x d

  unless_found : (s : State) (x : Tree) (s' : State) → Counted from s → now s ≡ Found x s' → Counted (to x) s' × (s'.depth ≡ s.depth)
  unless_found s x s' is e =
      elim (chosen (begins_argument s.rest) p q s (Found x s') e) [
        | inl c ↦ cp.found s x s' tt is c.1
        | inr c ↦ cq.found s x s' tt is c.1
      ]

  command_halts : (s : State) (e : ParseFault) (n : ℕ) (s' : State) → begins_argument s.rest ≡ true → Halts K g to s e n s' → Halts Both g to s e n s'
  command_halts s e n s' begins H = record { front = H.front; some = H.some; parts = H.parts; place = H.place; beyond = beyond } where
    beyond : (w rest more : List Token) (y : Tree) → Both w y → w ++ rest ≡ H.front ++ more → ComesAs H.front more s'.rest → Stops g rest → Beyond e s.depth (to y)
    beyond w rest more y (inl c) is next stop = H.beyond w rest more y c.1 is next stop
    beyond w rest more y (inr d) is next stop =
        absurd (both_ways _ (no_argument w rest y d stop) (alike s s' H.front w rest more H.some H.parts is next ∙ begins))

  operation_halts : (s : State) (e : ParseFault) (n : ℕ) (s' : State) → begins_argument s.rest ≡ false → Halts Q g to s e n s' → Halts Both g to s e n s'
  operation_halts s e n s' begins H = record { front = H.front; some = H.some; parts = H.parts; place = H.place; beyond = beyond } where
    beyond : (w rest more : List Token) (y : Tree) → Both w y → w ++ rest ≡ H.front ++ more → ComesAs H.front more s'.rest → Stops g rest → Beyond e s.depth (to y)
    beyond w rest more y (inr d) is next stop = H.beyond w rest more y d is next stop
    beyond w rest more y (inl c) is next stop =
        absurd (both_ways _ (alike s s' H.front w rest more H.some H.parts is next ∙ begins) (settled_same w rest (k_settled w y c.1) ∙ c.0))

  unless_stops : (s : State) (e : ParseFault) (n : ℕ) (s' : State) → Counted from s → now s ≡ Failed e s' → limit_at e ≡ Some n → Halts Both g to s e n s'
  unless_stops s e n s' is failed limit =
      elim (chosen (begins_argument s.rest) p q s (Failed e s') failed) [
        | inl c ↦ command_halts s e n s' c.0 (cp.stopped s e n s' tt is c.1 limit)
        | inr c ↦ operation_halts s e n s' c.0 (cq.stopped s e n s' tt is c.1 limit)
      ]

  pub counts_unless : Counts Any Both g from to now
  counts_unless = record {
    same = λ a b e pre. tt;
    grows = unless_grows;
    found = λ s x s' pre is e. unless_found s x s' is e;
    stopped = λ s e n s' pre is failed limit. unless_stops s e n s' is failed limit;
  }
