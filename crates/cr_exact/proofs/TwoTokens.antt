-- A command, or an operation: the reader looks at two tokens, since a spaced `-` begins an argument where the next is tight.
use Rattle.std.proofs.Common.{◌≡◌, ℕ, Bool, true, false, ◌&&◌, ◌||◌, cond, List, [], ◌∷◌, ◌++◌, ◌⊎◌, inl, inr, refl, sym, ap, subst, ◌∙◌}
use Rattle.std.proofs.lemmas.Bool.{and_left, both_ways, cases_Bool, false_from_ne_true}
use Rattle.std.proofs.lemmas.List.{append-nil}
use Rattle.std.specs.Prelude.{not}
use Rattle.cr_syntax.specs.declared.look.TokenLook.{TokenLook}
use Rattle.cr_syntax.specs.declared.token.Token.{Token}
use Rattle.cr_syntax.specs.declared.look.TokenLook.TheVariants as l
use Rattle.cr_syntax.specs.declared.token.TokenKind.TheVariants as k
use Rattle.cr_syntax.specs.Look.{look_of}
use Rattle.cr_grammar.specs.declared.tree.Tree.{Tree}
use Rattle.cr_grammar.specs.Forms.{Form, ◌<|>◌, passing}
use Rattle.cr_grammar.specs.Operators.{is_minus, begins_value, begins_argument}
use Rattle.cr_readers.specs.declared.fault.ParseFault.TheVariants.{Unexpected}
use Rattle.cr_readers.specs.declared.fault.ParseFault.{ParseFault}
use Rattle.cr_readers.specs.Reader.{State, Outcome, Found, Failed, Reader, Test, look_at}
use Rattle.cr_exact.specs.Exact.{at, head, last_from, Stops, Effort, Enough, Ends, Finds, Refuses, Begins, Exact, Any}
use Rattle.cr_exact.specs.Exact.{GoesBeyond, Reaches, Clear}
use Rattle.cr_exact.proofs.Tokens.{chosen_reaches}
use Rattle.cr_exact.proofs.Sequence.{beyond_reaches}
use Rattle.cr_exact.proofs.Sequence.{head-look}
use Rattle.cr_exact.proofs.Tokens.{a_token, some_one, chosen, chosen_ends}

-- The tokens tell whether an argument begins, whatever follows them.
abbrev pub Settled : List Token → Type 0
Settled [] = ⊥
Settled (t ∷ []) = is_minus (look_of t.kind) ≡ false
Settled (t ∷ u ∷ ts) = Unit {0}

pub settled_same : (w a : List Token) → Settled w → begins_argument (w ++ a) ≡ begins_argument w
settled_same [] a is = absurd is
settled_same (t ∷ []) [] is = refl
settled_same (t ∷ []) (u ∷ a) is = ap (λ b. (t.spaced && begins_value (look_of t.kind)) || b) (and_left (is_minus (look_of t.kind) && t.spaced) (not u.spaced) (and_left (is_minus (look_of t.kind)) t.spaced is))
settled_same (t ∷ u ∷ ts) a is = refl

-- a tight `nil`
abbrev pub tight_nil : Token
tight_nil = a_token (k.Plain l.Nil)

-- a spaced one
abbrev pub spaced_nil : Token
spaced_nil = record tight_nil { spaced = true }

-- Where the first token is no `-`, it tells all.
head_tells : (a b : List Token) → head a ≡ head b → is_minus (look_at a) ≡ false → begins_argument a ≡ begins_argument b
head_tells [] [] h is = refl
head_tells [] (t ∷ b) h is = absurd cc
head_tells (t ∷ a) [] h is = absurd cc
head_tells (t ∷ []) (u ∷ []) h is = cc
head_tells (t ∷ []) (u ∷ v ∷ b) h is =
    let same : t ≡ u = some_one t u h in
    subst (λ (x : Token). begins_argument (t ∷ []) ≡ begins_argument (x ∷ v ∷ b)) same
    (sym (settled_same (t ∷ []) (v ∷ b) is))
head_tells (t ∷ v ∷ a) (u ∷ []) h is =
    let same : t ≡ u = some_one t u h in
    subst (λ (x : Token). begins_argument (t ∷ v ∷ a) ≡ begins_argument (x ∷ [])) same
    (settled_same (t ∷ []) (v ∷ a) is)
head_tells (t ∷ v ∷ a) (u ∷ z ∷ b) h is =
    let same : t ≡ u = some_one t u h in
    subst (λ (x : Token). begins_argument (t ∷ v ∷ a) ≡ begins_argument (x ∷ z ∷ b)) same
    (settled_same (t ∷ []) (v ∷ a) is ∙ sym (settled_same (t ∷ []) (z ∷ b) is))

-- Behind one token, that and the next tell all.
two_tell : (t : Token) (a b : List Token) → head a ≡ head b → begins_argument (t ∷ a) ≡ begins_argument (t ∷ b)
two_tell t [] [] h = refl
two_tell t [] (u ∷ b) h = absurd cc
two_tell t (u ∷ a) [] h = absurd cc
two_tell t (u ∷ a) (v ∷ b) h = ap (λ (x : Token). (t.spaced && begins_value (look_of t.kind)) || (is_minus (look_of t.kind) && t.spaced && not x.spaced)) (some_one u v h)

-- ahead of what begins alike, unless all turns on the token behind a first `-`
pub tells : (front a b : List Token) → head a ≡ head b → (front ≡ [] → is_minus (look_at a) ≡ false) → begins_argument (front ++ a) ≡ begins_argument (front ++ b)
tells [] a b h free = head_tells a b h (free refl)
tells (t ∷ []) a b h free = two_tell t a b h
tells (t ∷ u ∷ front) a b h free = refl

not_spaced : (m n : Bool) → m && false && n ≡ false
not_spaced true n = refl
not_spaced false n = refl

or_true : (b : Bool) → b || true ≡ true
or_true true = refl
or_true false = refl

unspaced : (t : Token) (tail : List Token) → t.spaced ≡ false → begins_argument (t ∷ tail) ≡ false
unspaced t [] e = rw e refl
unspaced t (u ∷ ts) e = rw e (not_spaced _ _)

-- A `-` that begins an argument before some token begins one before a tight one.
sign_of : (t : Token) (tail : List Token) → is_minus (look_of t.kind) ≡ true → begins_argument (t ∷ tail) ≡ true → begins_argument (t ∷ tight_nil ∷ []) ≡ true
sign_of t tail minus is = elim (cases_Bool t.spaced) [
  | inl spaced ↦ rw (minus, spaced) (or_true _)
  | inr tight ↦ absurd (both_ways _ (unspaced t tail tight) is)
]

-- A reader that would find a `-` and this mark refuses at no `-`, and finds nothing before one.
module _ (effort : Effort) (R C : Form Tree) (g : Test) (p : Reader Tree) (e : Exact effort Any R C g p) (mark : Token)
    (signed : (t : Token) → is_minus (look_of t.kind) ≡ true → (x : Tree) × C (t ∷ mark ∷ []) x) where
  refusal_ends : (o : Outcome Tree) (n : ℕ) (m : State) (enough : Type 0) (x : Tree) (before : TokenLook) (rest : List Token) (limited : Bool)
      → o ≡ Failed (Unexpected n) m → Ends enough o x before rest limited → ⊥
  refusal_ends o n m enough x before rest limited is ends =
      let whole : Ends enough (Failed (Unexpected n) m) x before rest limited = subst (λ v. Ends enough v x before rest limited) is ends in
      whole

  find_ends : (o : Outcome Tree) (y : Tree) (m : State) (t u : Token) (ts : List Token) (enough : Type 0) (x : Tree) (before : TokenLook) (limited : Bool)
      → o ≡ Found y m → m.rest ≡ t ∷ u ∷ ts → Ends enough o x before [] limited → ⊥
  find_ends o y m t u ts enough x before limited is rest ends =
      let whole : Ends enough (Found y m) x before [] limited = subst (λ v. Ends enough v x before [] limited) is ends in
      let none : t ∷ u ∷ ts ≡ [] = sym rest ∙ whole.2 in
      cc

  there : (s : State) (t : Token) → (minus : is_minus (look_of t.kind) ≡ true)
      → Ends (Enough effort (at s (t ∷ mark ∷ []))) (p (at s (t ∷ mark ∷ []))) (signed t minus).0 (last_from s.before (t ∷ mark ∷ [])) [] s.limited
  there s t minus = e.complete (t ∷ mark ∷ []) (signed t minus).0 (at s (t ∷ mark ∷ [])) [] tt (signed t minus).1 (sym (append-nil (t ∷ mark ∷ []))) refl

  refused_by : (s : State) (n : ℕ) (s' : State) (r front : List Token) → r ≡ s'.rest → front ≡ []
      → ((rest : List Token) → head rest ≡ head s'.rest → p (at s (front ++ rest)) ≡ Failed (Unexpected n) (at s' rest)) → is_minus (look_at r) ≡ true → ⊥
  refused_by s n s' [] front same none again minus = absurd cc
  refused_by s n s' (t ∷ ts) front same none again minus =
      let here : p (at s (front ++ (t ∷ mark ∷ []))) ≡ Failed (Unexpected n) (at s' (t ∷ mark ∷ [])) = again (t ∷ mark ∷ []) (ap head same) in
      refusal_ends (p (at s (t ∷ mark ∷ []))) n (at s' (t ∷ mark ∷ [])) _ (signed t minus).0 _ [] _
      (sym (ap (λ (v : List Token). p (at s (v ++ (t ∷ mark ∷ [])))) none) ∙ here) (there s t minus)

  found_by : (s : State) (x : Tree) (s' : State) (r front : List Token) → r ≡ s'.rest → front ≡ []
      → ((rest : List Token) → head rest ≡ head s'.rest → p (at s (front ++ rest)) ≡ Found x (at s' rest)) → is_minus (look_at r) ≡ true → ⊥
  found_by s x s' [] front same none again minus = absurd cc
  found_by s x s' (t ∷ ts) front same none again minus =
      let here : p (at s (front ++ (t ∷ mark ∷ []))) ≡ Found x (at s' (t ∷ mark ∷ [])) = again (t ∷ mark ∷ []) (ap head same) in
      find_ends (p (at s (t ∷ mark ∷ []))) x (at s' (t ∷ mark ∷ [])) t mark [] _ (signed t minus).0 _ _
      (sym (ap (λ (v : List Token). p (at s (v ++ (t ∷ mark ∷ [])))) none) ∙ here) refl (there s t minus)

  pub refuses_no_minus : (s : State) (n : ℕ) (s' : State) (F : Refuses R p s n s') → F.front ≡ [] → is_minus (look_at s'.rest) ≡ true → ⊥
  refuses_no_minus s n s' F none minus = refused_by s n s' s'.rest F.front refl none F.again minus

  pub finds_no_minus : (s : State) (x : Tree) (s' : State) (F : Finds R p s x s') → F.front ≡ [] → is_minus (look_at s'.rest) ≡ true → ⊥
  finds_no_minus s x s' F none minus = found_by s x s' s'.rest F.front refl none F.again minus

-- K is spelled by what begins an argument, Q by nothing or by an operator and what follows it.
module _ (effort : Effort) (K KC Q QC : Form Tree) (g : Test) (p q : Reader Tree) (ek : Exact effort Any K KC g p) (eq : Exact effort Any Q QC g q)
    (k_settled : (w : List Token) (x : Tree) → K w x → Settled w) (kc_settled : (w : List Token) (x : Tree) → KC w x → Settled w)
    (q_settled : (w : List Token) (x : Tree) → Q w x → (w ≡ []) ⊎ Settled w)
    (qc_settled : (w : List Token) (x : Tree) → QC w x → (w ≡ []) ⊎ (Settled w × (begins_argument w ≡ false)))
    (again : Effort) (KD QD : Form Tree) (h : Test) (ekd : Exact again Any K KD h p) (eqd : Exact again Any Q QD h q)
    (kd_signed : (t : Token) → is_minus (look_of t.kind) ≡ true → (x : Tree) × KD (t ∷ tight_nil ∷ []) x)
    (qd_signed : (t : Token) → is_minus (look_of t.kind) ≡ true → (x : Tree) × QD (t ∷ spaced_nil ∷ []) x)
    (w0 : List Token) (x0 : Tree) (some : K w0 x0) (begins0 : begins_argument w0 ≡ true)
    (signed : (t : Token) → is_minus (look_of t.kind) ≡ true → (x : Tree) × K (t ∷ tight_nil ∷ []) x)
    (closed : (rest : List Token) → Stops g rest → begins_argument rest ≡ false)
    (moves : (s : State) → begins_argument s.rest ≡ true → Clear s.rest → GoesBeyond (p s) s.rest) where
  abbrev now : Reader Tree
  now s = cond (begins_argument s.rest) p q s

  abbrev Both : Form Tree → Form Tree → Form Tree
  Both R S = passing begins_argument R <|> S

  same_test : (s s' : State) (front rest : List Token) → s.rest ≡ front ++ s'.rest → head rest ≡ head s'.rest → (front ≡ [] → is_minus (look_at s'.rest) ≡ true → ⊥)
      → begins_argument (front ++ rest) ≡ begins_argument s.rest
  same_test s s' front rest parts same never =
      tells front rest s'.rest same (λ none. false_from_ne_true (is_minus (look_at rest)) (λ minus. never none (sym (ap is_minus (head-look rest s'.rest same)) ∙ minus))) ∙ ap begins_argument (sym parts)

  unless-found : (s : State) (x : Tree) (s' : State) → now s ≡ Found x s' → Finds (Both K Q) now s x s'
  unless-found s x s' e =
      elim (chosen (begins_argument s.rest) p q s (Found x s') e) [
        | inl c ↦
            let F = ek.found s x s' tt c.1 in
            record {
              front = F.front;
              parts = F.parts;
              ends = F.ends;
              spelled = inl (sym (settled_same F.front s'.rest (k_settled F.front x F.spelled)) ∙ ap begins_argument (sym F.parts) ∙ c.0, F.spelled);
              again = λ rest same. ap (λ b. cond b p q (at s (F.front ++ rest))) (same_test s s' F.front rest F.parts same (λ none minus. absurd (subst Settled none (k_settled F.front x F.spelled))) ∙ c.0) ∙ F.again rest same;
            }
        | inr c ↦
            let F = eq.found s x s' tt c.1 in
            record {
              front = F.front;
              parts = F.parts;
              ends = F.ends;
              spelled = inr F.spelled;
              again = λ rest same. ap (λ b. cond b p q (at s (F.front ++ rest))) (same_test s s' F.front rest F.parts same (λ none minus. finds_no_minus again Q QD h q eqd spaced_nil qd_signed s x s' F none minus) ∙ c.0) ∙ F.again rest same;
            }
      ]

  -- The tokens before a refusal begin a command.
  alive : (front tail more : List Token) (x : Tree) → begins_argument (front ++ tail) ≡ true → K (front ++ more) x → (v : List Token) × (y : Tree) × passing begins_argument K (front ++ v) y
  alive [] tail more x is k = (w0, x0, (begins0, some))
  alive (t ∷ []) tail more x is k = elim (cases_Bool (is_minus (look_of t.kind))) [
    | inl minus ↦
        let y = signed t minus in
        (tight_nil ∷ [], y.0, (sign_of t tail minus is, y.1))
    | inr other ↦ (more, x, (settled_same (t ∷ []) more other ∙ sym (settled_same (t ∷ []) tail other) ∙ is, k))
  ]
  alive (t ∷ u ∷ front) tail more x is k = (more, x, (is, k))

  unless-refused : (s : State) (n : ℕ) (s' : State) → now s ≡ Failed (Unexpected n) s' → Refuses (Both K Q) now s n s'
  unless-refused s n s' e =
      elim (chosen (begins_argument s.rest) p q s (Failed (Unexpected n) s') e) [
        | inl c ↦
            let F = ek.refused s n s' tt c.1 in
            let A = alive F.front s'.rest F.more F.value (ap begins_argument (sym F.parts) ∙ c.0) F.begins in
            record {
              front = F.front;
              parts = F.parts;
              place = F.place;
              more = A.0;
              value = A.1;
              begins = inl A.2;
              again = λ rest same. ap (λ b. cond b p q (at s (F.front ++ rest))) (same_test s s' F.front rest F.parts same (λ none minus. refuses_no_minus again K KD h p ekd tight_nil kd_signed s n s' F none minus) ∙ c.0) ∙ F.again rest same;
            }
        | inr c ↦
            let F = eq.refused s n s' tt c.1 in
            record {
              front = F.front;
              parts = F.parts;
              place = F.place;
              more = F.more;
              value = F.value;
              begins = inr F.begins;
              again = λ rest same. ap (λ b. cond b p q (at s (F.front ++ rest))) (same_test s s' F.front rest F.parts same (λ none minus. refuses_no_minus again Q QD h q eqd spaced_nil qd_signed s n s' F none minus) ∙ c.0) ∙ F.again rest same;
            }
      ]

  unless-begun : (s : State) (e : ParseFault) (s' : State) → now s ≡ Failed e s' → Begins (Both K Q) s s'
  unless-begun s e s' failed =
      elim (chosen (begins_argument s.rest) p q s (Failed e s') failed) [
        | inl c ↦
            let F = ek.begun s e s' tt c.1 in
            record {
              front = F.front;
              parts = F.parts;
              begins = λ real.
                  let B = F.begins real in
                  let A = alive F.front s'.rest B.0 B.1 (ap begins_argument (sym F.parts) ∙ c.0) B.2 in
                  (A.0, A.1, inl A.2);
            }
        | inr c ↦
            let F = eq.begun s e s' tt c.1 in
            record { front = F.front; parts = F.parts; begins = λ real. let B = F.begins real in (B.0, B.1, inr B.2) }
      ]

  no_argument : (w rest : List Token) (x : Tree) → QC w x → Stops g rest → begins_argument (w ++ rest) ≡ false
  no_argument w rest x c stop = elim (qc_settled w x c) [
    | inl none ↦ ap (λ (v : List Token). begins_argument (v ++ rest)) none ∙ closed rest stop
    | inr is ↦ settled_same w rest is.0 ∙ is.1
  ]

  unless-complete : (w : List Token) (x : Tree) (s : State) (rest : List Token) → Both KC QC w x → s.rest ≡ w ++ rest → Stops g rest
      → Ends (Enough effort s) (now s) x (last_from s.before w) rest s.limited
  unless-complete w x s rest (inl c) e stop =
      let is : begins_argument s.rest ≡ true = ap begins_argument e ∙ settled_same w rest (kc_settled w x c.1) ∙ c.0 in
      chosen_ends (begins_argument s.rest) p q s _ x _ rest _ (λ t. ek.complete w x s rest tt c.1 e stop) (λ f. absurd (both_ways _ f is))
  unless-complete w x s rest (inr d) e stop =
      let is : begins_argument s.rest ≡ false = ap begins_argument e ∙ no_argument w rest x d stop in
      chosen_ends (begins_argument s.rest) p q s _ x _ rest _ (λ t. absurd (both_ways _ is t)) (λ f. eq.complete w x s rest tt d e stop)

  other-reaches : (w : List Token) (x : Tree) (s : State) (rest : List Token) → QC w x → s.rest ≡ w ++ rest → Clear rest → (w ≡ []) ⊎ (Settled w × (begins_argument w ≡ false))
      → Reaches (now s) x rest
  other-reaches w x s rest d e clear (inl none) =
      let whole : s.rest ≡ rest = e ∙ ap (λ (v : List Token). v ++ rest) none in
      chosen_reaches (begins_argument s.rest) p q s x rest
      (λ is. subst (λ (r : List Token). Reaches (p s) x r) whole (beyond_reaches (p s) x s.rest (moves s is (subst (λ (r : List Token). Clear r) (sym whole) clear))))
      (λ is. eq.reaches w x s rest tt d e clear)
  other-reaches w x s rest d e clear (inr settled) =
      let is : begins_argument s.rest ≡ false = ap begins_argument e ∙ settled_same w rest settled.0 ∙ settled.1 in
      chosen_reaches (begins_argument s.rest) p q s x rest (λ t. absurd (both_ways _ is t)) (λ f. eq.reaches w x s rest tt d e clear)

  unless-reaches : (w : List Token) (x : Tree) (s : State) (rest : List Token) → Both KC QC w x → s.rest ≡ w ++ rest → Clear rest → Reaches (now s) x rest
  unless-reaches w x s rest (inl c) e clear =
      let is : begins_argument s.rest ≡ true = ap begins_argument e ∙ settled_same w rest (kc_settled w x c.1) ∙ c.0 in
      chosen_reaches (begins_argument s.rest) p q s x rest (λ t. ek.reaches w x s rest tt c.1 e clear) (λ f. absurd (both_ways _ f is))
  unless-reaches w x s rest (inr d) e clear = other-reaches w x s rest d e clear (qc_settled w x d)

  -- a command where an argument begins, else what Q spells
  pub exact_unless : Exact effort Any (Both K Q) (Both KC QC) g now
  exact_unless = record {
    found = λ s x s' pre e. unless-found s x s' e;
    refused = λ s n s' pre e. unless-refused s n s' e;
    begun = λ s d s' pre e. unless-begun s d s' e;
    complete = λ w x s rest pre c e stop. unless-complete w x s rest c e stop;
    reaches = λ w x s rest pre c e clear. unless-reaches w x s rest c e clear;
  }
