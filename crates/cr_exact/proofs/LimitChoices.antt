-- What is counted by readers that choose by the next token, and by those that look back.
use Rattle.std.proofs.Common.{◌≡◌, ℕ, Bool, true, false, List, [], ◌++◌, Some, ◌⊎◌, inl, inr, refl, sym, ap, subst, ◌∙◌}
use Rattle.std.proofs.lemmas.Bool.{both_ways}
use Rattle.cr_syntax.specs.declared.look.TokenLook.{TokenLook}
use Rattle.cr_syntax.specs.declared.token.Token.{Token}
use Rattle.cr_grammar.specs.Forms.{Form, ◌<|>◌, where_true, with_last, place_of, from_first}
use Rattle.cr_readers.specs.declared.fault.ParseFault.{ParseFault}
use Rattle.cr_readers.specs.Reader.{State, Found, Failed, Reader, ◌>>=◌, pure, Test, passes, place_at, look_at, refuse, choose, only, by_look, allow, last, here}
use Rattle.cr_exact.specs.Exact.{head, Stops, Any}
use Rattle.cr_exact.specs.Limits.{Tally, Counted, limit_at, Beyond, ComesAs, AtMost, Halts, Counts}
use Rattle.cr_exact.proofs.Sequence.{head-passes, head-place, head-look, bind_found, bind_refused, parts_found}
use Rattle.cr_exact.proofs.Tokens.{Passing, Failing, Looks, Led, by_first, not_found, chosen}
use Rattle.cr_exact.proofs.Places.{first_place}
use Rattle.cr_exact.proofs.Limits.{head-some, still_refuse}

-- ---- one way or the other

-- What is spelled where these tokens stand begins with the same token.
ahead : (s s' : State) (front w rest more : List Token) → (front ≡ [] → ⊥) → s.rest ≡ front ++ s'.rest → w ++ rest ≡ front ++ more → head (w ++ rest) ≡ head s.rest
ahead s s' front w rest more some parts is = ap head is ∙ head-some front more s'.rest some ∙ ap head (sym parts)

pub passing_same : (test : Test) (a b : List Token) → head a ≡ head b → Passing test a → Passing test b
passing_same test a b same pre = head-passes test b a (sym same) ∙ pre

pub failing_same : (test : Test) (a b : List Token) → head a ≡ head b → Failing test a → Failing test b
failing_same test a b same pre = head-passes test b a (sym same) ∙ pre

pub looks_same : (look : TokenLook) (a b : List Token) → head a ≡ head b → Looks look a → Looks look b
looks_same first a b same pre = head-look b a (sym same) ∙ pre

module _ {A : Type 0} (test : Test) (C D : Form A) (g : Test) (p q : Reader A) {from : Tally} {to : A → Tally}
    (cp : Counts (Passing test) C g from to p) (cq : Counts (Failing test) D g from to q)
    (heads : (w : List Token) (x : A) (rest : List Token) → C w x → passes test (w ++ rest) ≡ true)
    (others : (w : List Token) (x : A) (rest : List Token) → D w x → Stops g rest → passes test (w ++ rest) ≡ false) where
  choose-grows : (w : List Token) (x : A) → (C <|> D) w x → AtMost from (to x)
  choose-grows w x (inl c) = cp.grows w x c
  choose-grows w x (inr d) = cq.grows w x d

  choose-counts : (s : State) (x : A) (s' : State) → Counted from s → choose test p q s ≡ Found x s' → Counted (to x) s' × (s'.depth ≡ s.depth)
  choose-counts s x s' is e =
      elim (chosen (passes test s.rest) p q s (Found x s') e) [
        | inl c ↦ cp.found s x s' c.0 is c.1
        | inr c ↦ cq.found s x s' c.0 is c.1
      ]

  left-halts : (s : State) (e : ParseFault) (n : ℕ) (s' : State) → passes test s.rest ≡ true → Halts C g to s e n s' → Halts (C <|> D) g to s e n s'
  left-halts s e n s' pass H = record { front = H.front; some = H.some; parts = H.parts; place = H.place; beyond = beyond } where
    beyond : (w rest more : List Token) (y : A) → (C <|> D) w y → w ++ rest ≡ H.front ++ more → ComesAs H.front more s'.rest → Stops g rest → Beyond e s.depth (to y)
    beyond w rest more y (inl c) is next stop = H.beyond w rest more y c is next stop
    beyond w rest more y (inr d) is next stop =
        absurd (both_ways _ (others w y rest d stop) (head-passes test (w ++ rest) s.rest (ahead s s' H.front w rest more H.some H.parts is) ∙ pass))

  right-halts : (s : State) (e : ParseFault) (n : ℕ) (s' : State) → passes test s.rest ≡ false → Halts D g to s e n s' → Halts (C <|> D) g to s e n s'
  right-halts s e n s' fail H = record { front = H.front; some = H.some; parts = H.parts; place = H.place; beyond = beyond } where
    beyond : (w rest more : List Token) (y : A) → (C <|> D) w y → w ++ rest ≡ H.front ++ more → ComesAs H.front more s'.rest → Stops g rest → Beyond e s.depth (to y)
    beyond w rest more y (inr d) is next stop = H.beyond w rest more y d is next stop
    beyond w rest more y (inl c) is next stop =
        absurd (both_ways _ (head-passes test (w ++ rest) s.rest (ahead s s' H.front w rest more H.some H.parts is) ∙ fail) (heads w y rest c))

  choose-stops : (s : State) (e : ParseFault) (n : ℕ) (s' : State) → Counted from s → choose test p q s ≡ Failed e s' → limit_at e ≡ Some n → Halts (C <|> D) g to s e n s'
  choose-stops s e n s' is failed limit =
      elim (chosen (passes test s.rest) p q s (Failed e s') failed) [
        | inl c ↦ left-halts s e n s' c.0 (cp.stopped s e n s' c.0 is c.1 limit)
        | inr c ↦ right-halts s e n s' c.0 (cq.stopped s e n s' c.0 is c.1 limit)
      ]

  pub counts_choose : Counts Any (C <|> D) g from to (choose test p q)
  counts_choose = record {
    same = λ a b e pre. tt;
    grows = choose-grows;
    found = λ s x s' pre is e. choose-counts s x s' is e;
    stopped = λ s e n s' pre is failed limit. choose-stops s e n s' is failed limit;
  }

-- ---- only where the next token passes a test

pub counts_only : {A : Type 0} (test : Test) {C : Form A} {g : Test} (p : Reader A) {from : Tally} {to : A → Tally} → Counts (Passing test) C g from to p → Counts Any C g from to (only test p)
counts_only {A = A} test {C = C} {g = g} p {from = from} {to = to} cp = record {
  same = λ a b e pre. tt;
  grows = cp.grows;
  found = λ s x s' pre is e. counts s x s' is e;
  stopped = λ s e n s' pre is failed limit. stops s e n s' is failed limit;
} where
  counts : (s : State) (x : A) (s' : State) → Counted from s → only test p s ≡ Found x s' → Counted (to x) s' × (s'.depth ≡ s.depth)
  counts s x s' is e =
      elim (chosen (passes test s.rest) p refuse s (Found x s') e) [
        | inl c ↦ cp.found s x s' c.0 is c.1
        | inr c ↦ absurd (not_found s x s' c.1)
      ]

  stops : (s : State) (e : ParseFault) (n : ℕ) (s' : State) → Counted from s → only test p s ≡ Failed e s' → limit_at e ≡ Some n → Halts C g to s e n s'
  stops s e n s' is failed limit =
      elim (chosen (passes test s.rest) p refuse s (Failed e s') failed) [
        | inl c ↦ cp.stopped s e n s' c.0 is c.1 limit
        | inr c ↦ absurd (still_refuse.lets s e n s' c.1 limit)
      ]

-- ---- by the look of the next token

-- The look leads to a reader that counts so, or it is refused and nothing that begins so is spelled.
abbrev pub Way : {A : Type 0} → TokenLook → Form A → Test → Tally → (A → Tally) → Reader A → Type 0
Way look C g from to p = Counts (Looks look) C g from to p ⊎ ((p ≡ refuse) × ((w : List Token) (x : _) → Led look w → C w x → ⊥))

module _ {A : Type 0} (by : TokenLook → Reader A) (C : TokenLook → Form A) (g : Test) {from : Tally} {to : A → Tally} (way : (look : TokenLook) → Way look (C look) g from to (by look)) where
  by-grows : (w : List Token) (x : A) → by_first C w x → AtMost from (to x)
  by-grows w x c = elim (way c.0) [
    | inl cp ↦ cp.grows w x c.2
    | inr bad ↦ absurd (bad.1 w x c.1 c.2)
  ]

  by-counts : (s : State) (x : A) (s' : State) → Counted from s → by_look by s ≡ Found x s' → Counted (to x) s' × (s'.depth ≡ s.depth)
  by-counts s x s' is e = elim (way (look_at s.rest)) [
    | inl cp ↦ cp.found s x s' refl is e
    | inr bad ↦ absurd (not_found s x s' (sym (ap (λ (q : Reader A). q s) bad.0) ∙ e))
  ]

  led_look : (look : TokenLook) (w rest : List Token) → Led look w → look_at (w ++ rest) ≡ look
  led_look first w rest led = ap (λ (t : List Token). look_at (t ++ rest)) led.2 ∙ led.3

  by-stops : (s : State) (e : ParseFault) (n : ℕ) (s' : State) → Counted from s → by_look by s ≡ Failed e s' → limit_at e ≡ Some n → Halts (by_first C) g to s e n s'
  by-stops s e n s' is failed limit = elim (way (look_at s.rest)) [
    | inl cp ↦
        let H = cp.stopped s e n s' refl is failed limit in
        record {
          front = H.front;
          some = H.some;
          parts = H.parts;
          place = H.place;
          beyond = λ w rest more y c whole next stop.
              let same : c.0 ≡ look_at s.rest = sym (led_look c.0 w rest c.1) ∙ head-look (w ++ rest) s.rest (ahead s s' H.front w rest more H.some H.parts whole) in
              H.beyond w rest more y (subst (λ v. C v w y) same c.2) whole next stop;
        }
    | inr bad ↦ absurd (still_refuse.lets s e n s' (sym (ap (λ (q : Reader A). q s) bad.0) ∙ failed) limit)
  ]

  pub counts_by : Counts Any (by_first C) g from to (by_look by)
  counts_by = record {
    same = λ a b e pre. tt;
    grows = by-grows;
    found = λ s x s' pre is e. by-counts s x s' is e;
    stopped = λ s e n s' pre is failed limit. by-stops s e n s' is failed limit;
  }

-- where a condition holds that has nothing to do with the tokens
pub counts_allowed : {A : Type 0} {Pre : List Token → Type 0} (b : Bool) (C : Form A) (g : Test) (p : Reader A) {from : Tally} {to : A → Tally}
    → Counts Pre C g from to p → Counts Pre (where_true b C) g from to (allow b p)
counts_allowed true C g p cp = record {
  same = cp.same;
  grows = λ w x c. cp.grows w x c.1;
  found = cp.found;
  stopped = λ s e n s' pre is failed limit.
      let H = cp.stopped s e n s' pre is failed limit in
      record { front = H.front; some = H.some; parts = H.parts; place = H.place; beyond = λ w rest more y c. H.beyond w rest more y c.1 };
}
counts_allowed false C g p cp = record {
  same = cp.same;
  grows = λ w x c. absurd (both_ways _ refl c.0);
  found = λ s x s' pre is e. absurd (not_found s x s' e);
  stopped = λ s e n s' pre is failed limit. absurd (still_refuse.lets s e n s' failed limit);
}

-- ---- the look of the last token, and the place of the next

module _ {A : Type 0} {Pre : List Token → Type 0} {C : Form A} {g : Test} (p : Reader A) {from : Tally} {to : A → Tally} (cp : Counts Pre C g from to p) where
  abbrev both : Reader (A × TokenLook)
  both = p >>= λ x. last >>= λ look. pure (x, look)

  last-counts : (s : State) (x : A × TokenLook) (s' : State) → Pre s.rest → Counted from s → both s ≡ Found x s' → Counted (to x.0) s' × (s'.depth ≡ s.depth)
  last-counts s x s' pre is e =
      let b = bind_found (p s) (λ y. last >>= λ look. pure (y, look)) x s' e in
      let F = cp.found s b.0 b.1 pre is b.2 in
      let r = parts_found (b.0, b.1.before) x b.1 s' b.3 in
      (subst (λ (v : A × TokenLook). Counted (to v.0) s') r.0 (subst (Counted (to b.0)) r.1 F.0), ap (λ (m : State). m.depth) (sym r.1) ∙ F.1)

  last-stops : (s : State) (e : ParseFault) (n : ℕ) (s' : State) → Pre s.rest → Counted from s → both s ≡ Failed e s' → limit_at e ≡ Some n
      → Halts (with_last C) g (λ x. to x.0) s e n s'
  last-stops s e n s' pre is failed limit =
      elim (bind_refused (p s) (λ y. last >>= λ look. pure (y, look)) e s' failed) [
        | inl b ↦
            let H = cp.stopped s e n s' pre is b limit in
            record { front = H.front; some = H.some; parts = H.parts; place = H.place; beyond = λ w rest more y c. H.beyond w rest more y.0 c.0 }
        | inr b ↦ absurd cc
      ]

  pub counts_last : Counts Pre (with_last C) g from (λ x. to x.0) both
  counts_last = record { same = cp.same; grows = λ w x c. cp.grows w x.0 c.0; found = last-counts; stopped = last-stops }

pub counts_here : {A : Type 0} (C : ℕ → Form A) (g : Test) (p : ℕ → Reader A) {from : Tally} {to : A → Tally} → ((place : ℕ) → Counts Any (C place) g from to (p place))
    → ((place : ℕ) (w : List Token) (x : A) → C place w x → w ≡ [] → ⊥) → Counts Any (from_first C) g from to (here >>= p)
counts_here {A = A} C g p {from = from} {to = to} cp sure = record {
  same = λ a b e pre. tt;
  grows = λ w x c. (cp (place_of w)).grows w x c;
  found = λ s x s' pre is e. (cp (place_at s.rest)).found s x s' tt is e;
  stopped = λ s e n s' pre is failed limit.
      let H = (cp (place_at s.rest)).stopped s e n s' tt is failed limit in
      record {
        front = H.front;
        some = H.some;
        parts = H.parts;
        place = H.place;
        beyond = λ w rest more y c whole next stop.
            let same : place_of w ≡ place_at s.rest = sym (first_place w rest (sure (place_of w) w y c)) ∙ head-place (w ++ rest) s.rest (ahead s s' H.front w rest more H.some H.parts whole) in
            H.beyond w rest more y (subst (λ v. C v w y) same c) whole next stop;
      };
}

-- where a condition holds that has nothing to do with the tokens
pub way_where : {A : Type 0} (look : TokenLook) (c : Bool) (C : Form A) (g : Test) (p : Reader A) (from : Tally) (to : A → Tally)
    → (c ≡ true → Counts (Looks look) C g from to p) → Way look (where_true c C) g from to (allow c p)
way_where _ true C g p from to cp = inl (counts_allowed true C g p (cp refl))
way_where _ false C g p from to cp = inr (refl, λ w x led c. both_ways _ refl c.0)

-- what is refused at once counts nothing
pub counts_refuse : {A : Type 0} (goes : Test) (from : Tally) (to : A → Tally) → Counts Any (λ w x. ⊥) goes from to refuse
counts_refuse goes from to = record {
  same = λ a b e pre. tt;
  grows = λ w x c. absurd c;
  found = λ s x s' pre is e. absurd (not_found s x s' e);
  stopped = λ s e n s' pre is failed limit. absurd (still_refuse.lets s e n s' failed limit);
}
