-- Readers of one token, and readers chosen by the next one.
use Rattle.std.proofs.Common.{◌≡◌, ℕ, Bool, true, false, cond, List, [], ◌∷◌, ◌++◌, Option, Some, None, ◌⊎◌, inl, inr, refl, sym, ap, subst, ◌∙◌}
use Rattle.std.proofs.lemmas.Bool.{both_ways}
use Rattle.cr_syntax.specs.declared.look.TokenLook.{TokenLook}
use Rattle.cr_syntax.specs.declared.look.TokenLook.TheVariants as l
use Rattle.cr_syntax.specs.declared.token.Token.{Token}
use Rattle.cr_syntax.specs.declared.token.TokenKind.{TokenKind}
use Rattle.cr_syntax.specs.Look.{look_of}
use Rattle.cr_grammar.specs.declared.word.Word.{Word}
use Rattle.cr_grammar.specs.Forms.{Form, ◌<|>◌, one, word, holding, where_true}
use Rattle.cr_readers.specs.declared.fault.ParseFault.TheVariants.{Unexpected}
use Rattle.cr_readers.specs.declared.fault.ParseFault.{ParseFault}
use Rattle.cr_readers.specs.Reader.{State, Outcome, Found, Failed, Reader, Test, passes, place_at, look_at, next, tail, read_by, refuse, taken, take, place_if, word_read, worded, expect, holder, choose, only, by_look, allow}
use Rattle.cr_exact.specs.Exact.{at, head, last_from, Stops, Effort, Enough, Ends, Finds, Refuses, Begins, Exact, Any}
use Rattle.cr_exact.specs.Exact.{GoesBeyond, Reaches, Clear}
use Rattle.cr_exact.proofs.Sequence.{beyond_reaches}
use Rattle.std.proofs.lemmas.List.{append-nil}
use Rattle.cr_exact.proofs.TokenTests.{same_look_is, look_is_same}
use Rattle.cr_exact.proofs.Sequence.{head-passes, head-place, head-look, parts_found, exact_map, same-head, weaken, begins_here}

-- ---- refusals

pub not_found : {A : Type 0} (s : State) (x : A) (s' : State) → let outcome : Outcome A = refuse s in outcome ≡ Found x s' → ⊥
not_found s x s' e = cc

pub refusal_is : {A : Type 0} (s s' : State) (n : ℕ) → let outcome : Outcome A = refuse s in outcome ≡ Failed (Unexpected n) s' → (place_at s.rest ≡ n) × (s ≡ s')
refusal_is s s' n e = (cc, cc)

pub refusal_at : {A : Type 0} (s s' : State) (n : ℕ) (rest : List Token) → place_at rest ≡ n → s ≡ s' → let outcome : Outcome A = refuse (at s rest) in outcome ≡ Failed (Unexpected n) (at s' rest)
refusal_at s s' n rest e same = rw (e, same) refl

-- What refuses at once has read nothing.
refuses_begun : {A : Type 0} (R : Form A) (s : State) (e : ParseFault) (s' : State) → let outcome : Outcome A = refuse s in outcome ≡ Failed e s' → Begins R s s'
refuses_begun R s e s' is = begins_here R s s' (let same : s ≡ s' = cc in ap (λ (m : State). m.rest) same)

-- What refuses at once, where something is spelled at all, refuses rightly.
refuses_here : {A : Type 0} (R : Form A) (p : Reader A) (s s' : State) (n : ℕ) (w : List Token) (x : A) → R w x → (place_at s.rest ≡ n) × (s ≡ s')
    → ((rest : List Token) → head rest ≡ head s.rest → p (at s rest) ≡ refuse (at s rest)) → Refuses R p s n s'
refuses_here R p s s' n w x some is again = record {
  front = [];
  parts = ap (λ (m : State). m.rest) is.1;
  place = sym is.0 ∙ ap (λ (m : State). place_at m.rest) is.1;
  more = w;
  value = x;
  begins = some;
  again = λ rest same.
      let same_as : head rest ≡ head s.rest = same ∙ ap (λ (m : State). head m.rest) (sym is.1) in
      again rest same_as ∙ refusal_at s s' n rest (head-place rest s.rest same_as ∙ is.0) is.1;
}

-- ---- one token

head-read : {A : Type 0} (f : Token → Option A) (a b : List Token) → head a ≡ head b → read_by f a ≡ read_by f b
head-read f [] [] h = refl
head-read f [] (t ∷ b) h = absurd cc
head-read f (t ∷ a) [] h = absurd cc
head-read f (t ∷ a) (u ∷ b) h = cc

module _ (effort : Effort) {A : Type 0} (P : Token → A → Type 0) (g : Test) (f : Token → Option A)
    (out : (t : Token) (x : A) → f t ≡ Some x → P t x) (back : (t : Token) (x : A) → P t x → f t ≡ Some x)
    (t0 : Token) (x0 : A) (some : P t0 x0) where
  take-found : (ts : List Token) (o : Option A) (s : State) (x : A) (s' : State) → read_by f ts ≡ o → taken o (at s ts) ≡ Found x s' → Finds (one P) (take f) (at s ts) x s'
  unfolding next
  take-found ts None s x s' is e = absurd (not_found (at s ts) x s' e)
  take-found [] (Some y) s x s' is e = absurd cc
  take-found (t ∷ ts) (Some y) s x s' is e =
      let r = parts_found y x (next (at s (t ∷ ts))) s' e in
      record {
        front = t ∷ [];
        parts = ap (λ (m : State). t ∷ m.rest) r.1;
        ends = sym (ap (λ (m : State). m.before) r.1);
        spelled = (t, refl, out t x (is ∙ ap Some r.0));
        again = λ rest same. ap (λ v. taken v (at s (t ∷ rest))) is ∙ ap (λ (m : State). Found y (at m rest)) r.1 ∙ ap (λ v. Found v (at s' rest)) r.0;
      }

  take-refused : (s : State) (o : Option A) (n : ℕ) (s' : State) → read_by f s.rest ≡ o → taken o s ≡ Failed (Unexpected n) s' → Refuses (one P) (take f) s n s'
  take-refused s (Some y) n s' is e = absurd cc
  take-refused s None n s' is e =
      refuses_here (one P) (take f) s s' n (t0 ∷ []) x0 (t0, refl, some) (refusal_is s s' n e)
      (λ rest same. ap (λ v. taken v (at s rest)) (head-read f rest s.rest same ∙ is))

  take-begun : (s : State) (o : Option A) (e : ParseFault) (s' : State) → taken o s ≡ Failed e s' → Begins (one P) s s'
  take-begun s (Some y) e s' is = absurd cc
  take-begun s None e s' is = refuses_begun (one P) s e s' is

  take-complete : (w : List Token) (x : A) (s : State) (rest : List Token) → one P w x → s.rest ≡ w ++ rest → Ends (Enough effort s) (take f s) x (last_from s.before w) rest s.limited
  unfolding next
  take-complete w x s rest c e =
      let whole : s.rest ≡ c.0 ∷ rest = e ∙ ap (λ (r : List Token). r ++ rest) c.1 in
      let is : read_by f s.rest ≡ Some x = ap (read_by f) whole ∙ back c.0 x c.2 in
      subst (λ o. Ends (Enough effort s) (taken o s) x (last_from s.before w) rest s.limited) (sym is)
      (refl, ap look_at whole ∙ ap (λ v. last_from s.before v) (sym c.1), ap tail whole, refl)

  take-reaches : (w : List Token) (x : A) (s : State) (rest : List Token) → one P w x → s.rest ≡ w ++ rest → Reaches (take f s) x rest
  unfolding next
  take-reaches w x s rest c e =
      let whole : s.rest ≡ c.0 ∷ rest = e ∙ ap (λ (r : List Token). r ++ rest) c.1 in
      let is : read_by f s.rest ≡ Some x = ap (read_by f) whole ∙ back c.0 x c.2 in
      subst (λ o. Reaches (taken o s) x rest) (sym is) (inr (ap tail whole, refl))

  pub exact_take : Exact effort Any (one P) (one P) g (take f)
  exact_take = record {
    found = λ s x s' pre e. take-found s.rest (read_by f s.rest) s x s' refl e;
    refused = λ s n s' pre e. take-refused s (read_by f s.rest) n s' refl e;
    begun = λ s d s' pre e. take-begun s (read_by f s.rest) d s' e;
    complete = λ w x s rest pre c e stop. take-complete w x s rest c e;
    reaches = λ w x s rest pre c e clear. take-reaches w x s rest c e;
  }

-- ---- a word

pub place_out : (b : Bool) (t : Token) (at : ℕ) → place_if b t ≡ Some at → (b ≡ true) × (at ≡ t.span.first)
place_out true t at e = (refl, cc)
place_out false t at e = absurd cc

abbrev pub a_token : TokenKind → Token
a_token kind = record { kind = kind; span = record { first = 0; past = 0 }; spaced = false }

-- A token of this kind shows that there is one of the look.
pub exact_word : (effort : Effort) (kind : TokenKind) (g : Test) → Exact effort Any (word (look_of kind)) (word (look_of kind)) g (expect (look_of kind))
exact_word effort kind g = exact_take effort (λ t at. (look_of t.kind ≡ look_of kind) × (at ≡ t.span.first)) g (word_read (look_of kind))
    (λ t at e. let r = place_out _ t at e in (same_look_is _ _ r.0, r.1))
    (λ t at e. ap (λ b. place_if b t) (look_is_same _ _ e.0) ∙ ap Some (sym e.1))
    (a_token kind) 0 (refl, refl)

-- ---- a token that holds a text

pub some_one : {A : Type 0} (x y : A) → let some : A → Option A = Some in some x ≡ some y → x ≡ y
some_one x y e = cc

held_out : (t : Token) (o : Option (List ℕ)) (x : Word) → worded t o ≡ Some x → (o ≡ Some x.text) × (x.at ≡ t.span.first)
held_out t None x e = absurd cc
held_out t (Some text) x e =
    let same : record { at = t.span.first; text = text } ≡ x = some_one _ x e in
    (ap (λ (v : Word). Some v.text) same, sym (ap (λ (v : Word). v.at) same))

module _ (effort : Effort) (kind : List ℕ → TokenKind) (text_of : TokenKind → Option (List ℕ))
    (out : (v : TokenKind) (text : List ℕ) → text_of v ≡ Some text → v ≡ kind text) (back : (text : List ℕ) → text_of (kind text) ≡ Some text) (g : Test) where
  held_back : (t : Token) (x : Word) → (t.kind ≡ kind x.text) × (x.at ≡ t.span.first) → worded t (text_of t.kind) ≡ Some x
  held_back t x e =
      ap (worded t) (ap text_of e.0 ∙ back x.text) ∙ ap (λ (n : ℕ). Some (record { at = n; text = x.text })) (sym e.1)

  pub exact_holder : Exact effort Any (holding kind) (holding kind) g (holder text_of)
  exact_holder = exact_take effort (λ t (x : Word). (t.kind ≡ kind x.text) × (x.at ≡ t.span.first)) g (λ t. worded t (text_of t.kind))
      (λ t x e. let r = held_out t (text_of t.kind) x e in (out t.kind x.text r.0, r.1))
      held_back
      (a_token (kind [])) (record { at = 0; text = [] }) (refl, refl)

-- ---- one way or the other

-- the next token passes the test
abbrev pub Passing : Test → List Token → Type 0
Passing test ts = passes test ts ≡ true

abbrev pub Failing : Test → List Token → Type 0
Failing test ts = passes test ts ≡ false

pub chosen : {A : Type 0} (b : Bool) (p q : Reader A) (s : State) (r : Outcome A) → cond b p q s ≡ r → ((b ≡ true) × (p s ≡ r)) ⊎ ((b ≡ false) × (q s ≡ r))
chosen true p q s r e = inl (refl, e)
chosen false p q s r e = inr (refl, e)

pub chosen_ends : {A : Type 0} (b : Bool) (p q : Reader A) (s : State) (enough : Type 0) (x : A) (before : TokenLook) (rest : List Token) (limited : Bool)
    → (b ≡ true → Ends enough (p s) x before rest limited) → (b ≡ false → Ends enough (q s) x before rest limited) → Ends enough (cond b p q s) x before rest limited
chosen_ends true p q s enough x before rest limited u v = u refl
chosen_ends false p q s enough x before rest limited u v = v refl

pub chosen_reaches : {A : Type 0} (b : Bool) (p q : Reader A) (s : State) (x : A) (rest : List Token)
    → (b ≡ true → Reaches (p s) x rest) → (b ≡ false → Reaches (q s) x rest) → Reaches (cond b p q s) x rest
chosen_reaches true p q s x rest u v = u refl
chosen_reaches false p q s x rest u v = v refl

module _ (effort : Effort) {A : Type 0} (test : Test) (R C Q D : Form A) (g : Test) (p q : Reader A)
    (ep : Exact effort (Passing test) R C g p) (eq : Exact effort (Failing test) Q D g q)
    (heads : (w : List Token) (x : A) (rest : List Token) → C w x → passes test (w ++ rest) ≡ true)
    (others : (w : List Token) (x : A) (rest : List Token) → D w x → Stops g rest → passes test (w ++ rest) ≡ false)
    (empty : (x : A) (s : State) → D [] x → Clear s.rest → passes test s.rest ≡ true → GoesBeyond (p s) s.rest) where
  abbrev now : Reader A
  now = choose test p q

  kept : (s s' : State) (front rest : List Token) → s.rest ≡ front ++ s'.rest → head rest ≡ head s'.rest → passes test (front ++ rest) ≡ passes test s.rest
  kept s s' front rest parts same = head-passes test _ _ (same-head s s' front rest parts same)

  choose-found : (s : State) (x : A) (s' : State) → now s ≡ Found x s' → Finds (R <|> Q) now s x s'
  choose-found s x s' e =
      elim (chosen (passes test s.rest) p q s (Found x s') e) [
        | inl c ↦
            let F = ep.found s x s' c.0 c.1 in
            record {
              front = F.front;
              parts = F.parts;
              ends = F.ends;
              spelled = inl F.spelled;
              again = λ rest same. ap (λ b. cond b p q (at s (F.front ++ rest))) (kept s s' F.front rest F.parts same ∙ c.0) ∙ F.again rest same;
            }
        | inr c ↦
            let F = eq.found s x s' c.0 c.1 in
            record {
              front = F.front;
              parts = F.parts;
              ends = F.ends;
              spelled = inr F.spelled;
              again = λ rest same. ap (λ b. cond b p q (at s (F.front ++ rest))) (kept s s' F.front rest F.parts same ∙ c.0) ∙ F.again rest same;
            }
      ]

  choose-refused : (s : State) (n : ℕ) (s' : State) → now s ≡ Failed (Unexpected n) s' → Refuses (R <|> Q) now s n s'
  choose-refused s n s' e =
      elim (chosen (passes test s.rest) p q s (Failed (Unexpected n) s') e) [
        | inl c ↦
            let F = ep.refused s n s' c.0 c.1 in
            record {
              front = F.front;
              parts = F.parts;
              place = F.place;
              more = F.more;
              value = F.value;
              begins = inl F.begins;
              again = λ rest same. ap (λ b. cond b p q (at s (F.front ++ rest))) (kept s s' F.front rest F.parts same ∙ c.0) ∙ F.again rest same;
            }
        | inr c ↦
            let F = eq.refused s n s' c.0 c.1 in
            record {
              front = F.front;
              parts = F.parts;
              place = F.place;
              more = F.more;
              value = F.value;
              begins = inr F.begins;
              again = λ rest same. ap (λ b. cond b p q (at s (F.front ++ rest))) (kept s s' F.front rest F.parts same ∙ c.0) ∙ F.again rest same;
            }
      ]

  choose-begun : (s : State) (e : ParseFault) (s' : State) → now s ≡ Failed e s' → Begins (R <|> Q) s s'
  choose-begun s e s' failed =
      elim (chosen (passes test s.rest) p q s (Failed e s') failed) [
        | inl c ↦ let F = ep.begun s e s' c.0 c.1 in record { front = F.front; parts = F.parts; begins = λ real. let B = F.begins real in (B.0, B.1, inl B.2) }
        | inr c ↦ let F = eq.begun s e s' c.0 c.1 in record { front = F.front; parts = F.parts; begins = λ real. let B = F.begins real in (B.0, B.1, inr B.2) }
      ]

  choose-complete : (w : List Token) (x : A) (s : State) (rest : List Token) → (C <|> D) w x → s.rest ≡ w ++ rest → Stops g rest
      → Ends (Enough effort s) (now s) x (last_from s.before w) rest s.limited
  choose-complete w x s rest (inl c) e stop =
      let is : passes test s.rest ≡ true = ap (passes test) e ∙ heads w x rest c in
      chosen_ends (passes test s.rest) p q s _ x _ rest _ (λ t. ep.complete w x s rest is c e stop) (λ f. absurd (both_ways _ f is))
  choose-complete w x s rest (inr d) e stop =
      let is : passes test s.rest ≡ false = ap (passes test) e ∙ others w x rest d stop in
      chosen_ends (passes test s.rest) p q s _ x _ rest _ (λ t. absurd (both_ways _ is t)) (λ f. eq.complete w x s rest is d e stop)

  -- By nothing D may be spelled before any token; but where that passes the test, p reads it.
  other-reaches : (w : List Token) (x : A) (s : State) (rest : List Token) → D w x → s.rest ≡ w ++ rest → Clear rest → Reaches (now s) x rest
  other-reaches [] x s rest d e clear =
      chosen_reaches (passes test s.rest) p q s x rest
      (λ is. subst (λ (r : List Token). Reaches (p s) x r) e (beyond_reaches (p s) x s.rest (empty x s d (subst Clear (sym e) clear) is)))
      (λ is. eq.reaches [] x s rest is d e clear)
  other-reaches (t ∷ w) x s rest d e clear =
      let is : passes test s.rest ≡ false = ap (passes test) e ∙ others (t ∷ w) x [] d refl in
      chosen_reaches (passes test s.rest) p q s x rest (λ t. absurd (both_ways _ is t)) (λ f. eq.reaches (t ∷ w) x s rest is d e clear)

  choose-reaches : (w : List Token) (x : A) (s : State) (rest : List Token) → (C <|> D) w x → s.rest ≡ w ++ rest → Clear rest → Reaches (now s) x rest
  choose-reaches w x s rest (inl c) e clear =
      let is : passes test s.rest ≡ true = ap (passes test) e ∙ heads w x rest c in
      chosen_reaches (passes test s.rest) p q s x rest (λ t. ep.reaches w x s rest is c e clear) (λ f. absurd (both_ways _ f is))
  choose-reaches w x s rest (inr d) e clear = other-reaches w x s rest d e clear

  pub exact_choose : Exact effort Any (R <|> Q) (C <|> D) g now
  exact_choose = record {
    found = λ s x s' pre e. choose-found s x s' e;
    refused = λ s n s' pre e. choose-refused s n s' e;
    begun = λ s d s' pre e. choose-begun s d s' e;
    complete = λ w x s rest pre c e stop. choose-complete w x s rest c e stop;
    reaches = λ w x s rest pre c e clear. choose-reaches w x s rest c e clear;
  }

-- ---- by the look of the next token

abbrev pub Looks : TokenLook → List Token → Type 0
Looks look ts = look_at ts ≡ look

-- a first token of this look
abbrev pub Led : TokenLook → List Token → Type 0
Led look w = (t : Token) × (ts : List Token) × (w ≡ t ∷ ts) × (look_of t.kind ≡ look)

-- the form that belongs to the look of the first token
abbrev pub by_first : {A : Type 0} → (TokenLook → Form A) → Form A
by_first R w x = (look : TokenLook) × Led look w × R look w x

-- The branch is exact, or it refuses and nothing that begins so is spelled.
abbrev pub Branch : Effort → {A : Type 0} → TokenLook → Form A → Form A → Test → Reader A → Type 0
Branch effort look R C g p = Exact effort (Looks look) R C g p ⊎ ((p ≡ refuse) × ((w : List Token) (x : _) → Led look w → C w x → ⊥))

module _ (effort : Effort) {A : Type 0} (by : TokenLook → Reader A) (R : Form A) (C : TokenLook → Form A) (g : Test)
    (branch : (look : TokenLook) → Branch effort look R (C look) g (by look))
    (w0 : List Token) (x0 : A) (some : R w0 x0) where
  same_ahead : (s s' : State) (front rest : List Token) → s.rest ≡ front ++ s'.rest → head rest ≡ head s'.rest → look_at (front ++ rest) ≡ look_at s.rest
  same_ahead s s' front rest parts same = head-look _ _ (same-head s s' front rest parts same)

  by-found : (s : State) (x : A) (s' : State) → by_look by s ≡ Found x s' → Finds R (by_look by) s x s'
  by-found s x s' e =
      elim (branch (look_at s.rest)) [
        | inl ex ↦
            let F = ex.found s x s' refl e in
            record {
              front = F.front;
              parts = F.parts;
              ends = F.ends;
              spelled = F.spelled;
              again = λ rest same. ap (λ v. by v (at s (F.front ++ rest))) (same_ahead s s' F.front rest F.parts same) ∙ F.again rest same;
            }
        | inr bad ↦ absurd (not_found s x s' (sym (ap (λ (q : Reader A). q s) bad.0) ∙ e))
      ]

  by-refused : (s : State) (n : ℕ) (s' : State) → by_look by s ≡ Failed (Unexpected n) s' → Refuses R (by_look by) s n s'
  by-refused s n s' e =
      elim (branch (look_at s.rest)) [
        | inl ex ↦
            let F = ex.refused s n s' refl e in
            record {
              front = F.front;
              parts = F.parts;
              place = F.place;
              more = F.more;
              value = F.value;
              begins = F.begins;
              again = λ rest same. ap (λ v. by v (at s (F.front ++ rest))) (same_ahead s s' F.front rest F.parts same) ∙ F.again rest same;
            }
        | inr bad ↦
            refuses_here R (by_look by) s s' n w0 x0 some (refusal_is {A = A} s s' n (sym (ap (λ (q : Reader A). q s) bad.0) ∙ e))
            (λ rest same. ap (λ v. by v (at s rest)) (head-look rest s.rest same) ∙ ap (λ (q : Reader A). q (at s rest)) bad.0)
      ]

  by-begun : (s : State) (e : ParseFault) (s' : State) → by_look by s ≡ Failed e s' → Begins R s s'
  by-begun s e s' failed =
      elim (branch (look_at s.rest)) [
        | inl ex ↦ ex.begun s e s' refl failed
        | inr bad ↦ refuses_begun R s e s' (sym (ap (λ (q : Reader A). q s) bad.0) ∙ failed)
      ]

  by-complete : (w : List Token) (x : A) (s : State) (rest : List Token) → by_first C w x → s.rest ≡ w ++ rest → Stops g rest
      → Ends (Enough effort s) (by_look by s) x (last_from s.before w) rest s.limited
  by-complete w x s rest c e stop =
      let led = c.1 in
      let is : look_at s.rest ≡ c.0 = ap look_at (e ∙ ap (λ (r : List Token). r ++ rest) led.2) ∙ led.3 in
      let go : Ends (Enough effort s) (by c.0 s) x (last_from s.before w) rest s.limited = elim (branch c.0) [
        | inl ex ↦ ex.complete w x s rest is c.2 e stop
        | inr bad ↦ absurd (bad.1 w x led c.2)
      ] in
      subst (λ v. Ends (Enough effort s) (by v s) x (last_from s.before w) rest s.limited) (sym is) go

  by-reaches : (w : List Token) (x : A) (s : State) (rest : List Token) → by_first C w x → s.rest ≡ w ++ rest → Clear rest → Reaches (by_look by s) x rest
  by-reaches w x s rest c e clear =
      let led = c.1 in
      let is : look_at s.rest ≡ c.0 = ap look_at (e ∙ ap (λ (r : List Token). r ++ rest) led.2) ∙ led.3 in
      let go : Reaches (by c.0 s) x rest = elim (branch c.0) [
        | inl ex ↦ ex.reaches w x s rest is c.2 e clear
        | inr bad ↦ absurd (bad.1 w x led c.2)
      ] in
      subst (λ v. Reaches (by v s) x rest) (sym is) go

  pub exact_by : Exact effort Any R (by_first C) g (by_look by)
  exact_by = record {
    found = λ s x s' pre e. by-found s x s' e;
    refused = λ s n s' pre e. by-refused s n s' e;
    begun = λ s d s' pre e. by-begun s d s' e;
    complete = λ w x s rest pre c e stop. by-complete w x s rest c e stop;
    reaches = λ w x s rest pre c e clear. by-reaches w x s rest c e clear;
  }

-- What is spelled, and is no empty list, begins with the token that comes.
led_from : (look : TokenLook) (ts w rest : List Token) → look_at ts ≡ look → ts ≡ w ++ rest → (w ≡ [] → ⊥) → Led look w
led_from _ ts [] rest is e real = absurd (real refl)
led_from _ ts (t ∷ w) rest is e real = (t, w, refl, sym (ap look_at e) ∙ is)

-- More may be spelled that begins with another token.
pub exact_looks : {effort : Effort} {A : Type 0} {R C : Form A} {g : Test} {p : Reader A} (look : TokenLook) (D : Form A)
    → ((w : List Token) (x : A) → D w x → w ≡ [] → ⊥) → ((w : List Token) (x : A) → Led look w → D w x → C w x)
    → Exact effort Any R C g p → Exact effort (Looks look) R D g p
exact_looks look D real back ep = record {
  found = λ s x s' pre e. ep.found s x s' tt e;
  refused = λ s n s' pre e. ep.refused s n s' tt e;
  begun = λ s d s' pre e. ep.begun s d s' tt e;
  complete = λ w x s rest pre c e stop. ep.complete w x s rest tt (back w x (led_from look s.rest w rest pre e (real w x c)) c) e stop;
  reaches = λ w x s rest pre c e clear. ep.reaches w x s rest tt (back w x (led_from look s.rest w rest pre e (real w x c)) c) e clear;
}

pub led_one : (a c : TokenLook) (w : List Token) → Led a w → Led c w → a ≡ c
led_one a c w first second =
    let same : first.0 ∷ first.1 ≡ second.0 ∷ second.1 = sym first.2 ∙ second.2 in
    let token : first.0 ≡ second.0 = cc in
    sym first.3 ∙ ap (λ (t : Token). look_of t.kind) token ∙ second.3

-- What an exact reader refuses at once begins nothing that is spelled.
pub never_begins : {effort : Effort} {A : Type 0} {R C : Form A} {g : Test} (p : Reader A) → Exact effort Any R C g p
    → (look : TokenLook) → ((s : State) → look_at s.rest ≡ look → p s ≡ refuse s) → (w : List Token) (x : A) → C w x → look_at w ≡ look → ⊥
never_begins {effort = effort} p ep found refuses w x c is =
    let s : State = record { before = l.Newline; rest = w; depth = 0; nodes = 0; height = 0; limited = false } in
    let ends = ep.complete w x s [] tt c (sym (append-nil w)) refl in
    (subst (λ o. Ends (Enough effort s) o x (last_from l.Newline w) [] false) (refuses s is) ends)

-- ---- where a condition holds that has nothing to do with the tokens

pub branch_where : {effort : Effort} {A : Type 0} (look : TokenLook) (c : Bool) (R C : Form A) (g : Test) (p : Reader A)
    → (c ≡ true → Exact effort (Looks look) R C g p) → Branch effort look R (where_true c C) g (allow c p)
branch_where _ true R C g p e =
    let ep = e refl in
    inl (record { found = ep.found; refused = ep.refused; begun = ep.begun; complete = λ w x s rest pre c. ep.complete w x s rest pre c.1; reaches = λ w x s rest pre c. ep.reaches w x s rest pre c.1 })
branch_where _ false R C g p e = inr (refl, λ w x led c. both_ways _ refl c.0)

-- What refuses at once is exact for a form, of which nothing need be found.
pub exact_refuse : (effort : Effort) {A : Type 0} (R : Form A) (goes : Test) (w : List Token) (x : A) → R w x → Exact effort Any R (λ v y. ⊥) goes refuse
exact_refuse effort {A = A} R goes w x some = record {
  found = λ s y s' pre e. absurd (not_found s y s' e);
  refused = λ s n s' pre e. refuses_here R refuse s s' n w x some (refusal_is {A = A} s s' n e) (λ rest same. refl);
  begun = λ s d s' pre e. refuses_begun R s d s' e;
  complete = λ v y s rest pre c. absurd c;
  reaches = λ v y s rest pre c. absurd c;
}

-- exact where a condition holds that has nothing to do with the tokens, and else it refuses
pub exact_allow : (effort : Effort) {A : Type 0} (condition : Bool) (R C : Form A) (goes : Test) (p : Reader A) (w : List Token) (x : A) → R w x
    → (condition ≡ true → Exact effort Any R C goes p) → Exact effort Any R (where_true condition C) goes (allow condition p)
exact_allow effort true R C goes p w x some ep = exact_map R (where_true true C) (λ v y c. c) (λ v y c. c.1) (ep refl)
exact_allow effort false R C goes p w x some ep = exact_map R (where_true false C) (λ v y c. c) (λ v y c. both_ways _ refl c.0) (exact_refuse effort R goes w x some)

-- ---- only where the next token passes a test

pub exact_only : {effort : Effort} {A : Type 0} (test : Test) {R C : Form A} {g : Test} (p : Reader A) → Exact effort (Passing test) R C g p
    → ((w : List Token) (x : A) (rest : List Token) → C w x → passes test (w ++ rest) ≡ true) → (w0 : List Token) (x0 : A) → R w0 x0 → Exact effort Any R C g (only test p)
exact_only {effort = effort} {A = A} test {R = R} {C = C} {g = g} p ep heads w0 x0 some =
    exact_map R C either_way (λ w x c. inl c)
    (exact_choose effort test R C R (λ w x. ⊥) g p refuse ep (weaken _ (exact_refuse effort R g w0 x0 some)) heads (λ w x rest d stop. absurd d) (λ x s d clear is. absurd d)) where
      either_way : (w : List Token) (x : A) → (R <|> R) w x → R w x
      either_way w x (inl c) = c
      either_way w x (inr c) = c
