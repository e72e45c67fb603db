-- One reader after another, none, and one under another condition or for another form.
use Rattle.std.proofs.Common.{◌≡◌, ℕ, Bool, List, [], ◌∷◌, ◌++◌, length, ◌⊎◌, inl, inr, refl, sym, ap, subst, ◌∙◌, append_assoc, arith}
use Rattle.std.proofs.lemmas.List.{length-append}
use Rattle.cr_syntax.specs.declared.look.TokenLook.{TokenLook}
use Rattle.cr_syntax.specs.declared.token.Token.{Token}
use Rattle.cr_syntax.specs.Look.{look_of}
use Rattle.cr_grammar.specs.Forms.{Form, nothing}
use Rattle.cr_grammar.specs.Forms as f
use Rattle.cr_readers.specs.declared.fault.ParseFault.{ParseFault}
use Rattle.cr_readers.specs.declared.fault.ParseFault.TheVariants.{Unexpected, TooDeep, TooManyNodes, NoMemory}
use Rattle.cr_readers.specs.Reader.{State, Outcome, Found, Failed, Reader, and_then, ◌>>=◌, pure, Test, passes, place_at, look_at}
use Rattle.cr_exact.specs.Exact.{at, head, last_from, Stops, Effort, Enough, Ends, Finds, Refuses, Begins, Exact, Any}
use Rattle.cr_exact.specs.Exact.{GoesBeyond, Reaches, Clear}
use Rattle.std.specs.Prelude.{◌<◌}
use Rattle.cr_exact.proofs.TokenTests.{Less, stops_less}

-- ---- heads and lasts

pub head-append : (a b c : List Token) → head b ≡ head c → head (a ++ b) ≡ head (a ++ c)
head-append [] b c h = h
head-append (t ∷ a) b c h = refl

-- the same ahead, where what follows begins alike
pub same-head : (s s' : State) (front rest : List Token) → s.rest ≡ front ++ s'.rest → head rest ≡ head s'.rest → head (front ++ rest) ≡ head s.rest
same-head s s' front rest parts same = head-append front rest s'.rest same ∙ ap head (sym parts)

pub last-append : (before : TokenLook) (a b : List Token) → last_from before (a ++ b) ≡ last_from (last_from before a) b
last-append before [] b = refl
last-append before (t ∷ a) b = last-append (look_of t.kind) a b

pub head-passes : (test : Test) (a b : List Token) → head a ≡ head b → passes test a ≡ passes test b
head-passes test [] [] h = refl
head-passes test [] (t ∷ b) h = absurd cc
head-passes test (t ∷ a) [] h = absurd cc
head-passes test (t ∷ a) (u ∷ b) h = cc

pub head-place : (a b : List Token) → head a ≡ head b → place_at a ≡ place_at b
head-place [] [] h = refl
head-place [] (t ∷ b) h = absurd cc
head-place (t ∷ a) [] h = absurd cc
head-place (t ∷ a) (u ∷ b) h = cc

pub head-look : (a b : List Token) → head a ≡ head b → look_at a ≡ look_at b
head-look [] [] h = refl
head-look [] (t ∷ b) h = absurd cc
head-look (t ∷ a) [] h = absurd cc
head-look (t ∷ a) (u ∷ b) h = cc

-- ---- outcomes

pub bind_found : {A B : Type 0} (o : Outcome A) (f : A → Reader B) (y : B) (s : State) → and_then o f ≡ Found y s
    → (x : A) × (m : State) × (o ≡ Found x m) × (f x m ≡ Found y s)
bind_found (Found x m) f y s e = (x, m, refl, e)
bind_found (Failed d m) f y s e = absurd cc

pub bind_refused : {A B : Type 0} (o : Outcome A) (f : A → Reader B) (d : ParseFault) (s : State) → and_then o f ≡ Failed d s
    → (o ≡ Failed d s) ⊎ ((x : A) × (m : State) × (o ≡ Found x m) × (f x m ≡ Failed d s))
bind_refused (Found x m) f d s e = inr (x, m, refl, e)
bind_refused (Failed c m) f d s e = inl cc

pub parts_found : {A : Type 0} (x y : A) (s m : State) → let found : A → State → Outcome A = Found in found x s ≡ found y m → (x ≡ y) × (s ≡ m)
parts_found x y s m e = (cc, cc)

pub ends_bind : {A B : Type 0} (enough : Type 0) (o : Outcome A) (f : A → Reader B) (x : A) (y : B) (before between : TokenLook) (middle rest : List Token) (limited : Bool)
    → Ends enough o x between middle limited
    → ((m : State) → m.before ≡ between → m.rest ≡ middle → m.limited ≡ limited → Ends enough (f x m) y before rest limited)
    → Ends enough (and_then o f) y before rest limited
ends_bind enough (Found z m) f x y before between middle rest limited e go = subst (λ v. Ends enough (f v m) y before rest limited) (sym e.0) (go m e.1 e.2 e.3)
ends_bind enough (Failed d m) f x y before between middle rest limited e go = e

-- less is enough for less
pub ends_less : {A : Type 0} (enough more : Type 0) (o : Outcome A) (x : A) (before : TokenLook) (rest : List Token) (limited : Bool)
    → (more → enough) → Ends enough o x before rest limited → Ends more o x before rest limited
ends_less enough more (Found y m) x before rest limited h e = e
ends_less enough more (Failed (Unexpected n) m) x before rest limited h e = e
ends_less enough more (Failed (TooDeep n) m) x before rest limited h e = e
ends_less enough more (Failed (TooManyNodes n) m) x before rest limited h e = e
ends_less enough more (Failed NoMemory m) x before rest limited h e = λ is. e (h is)

pub enough_behind : (effort : Effort) (s m : State) (a : List Token) → s.rest ≡ a ++ m.rest → m.limited ≡ s.limited → Enough effort s → Enough effort m
enough_behind effort s m a e same h = (h.0, omega (arith, h.1, ap length e, length-append a m.rest))

-- ---- tokens that begin a spelled list

-- where none was read
pub begins_here : {A : Type 0} (R : Form A) (s s' : State) → s.rest ≡ s'.rest → Begins R s s'
begins_here R s s' same = record { front = []; parts = same; begins = λ some. absurd (some refl) }

-- Behind what is spelled some read no more, and others go on.
goes_on_by : {A : Type 0} (R : Form A) (a b : List Token) → ((more : List Token) × (x : A) × R (a ++ more) x) → ((b ≡ [] → ⊥) → (more : List Token) × (x : A) × R (a ++ (b ++ more)) x)
    → (more : List Token) × (x : A) × R (a ++ (b ++ more)) x
goes_on_by R a [] none some = none
goes_on_by R a (t ∷ b) none some = some (λ e. cc)

-- ---- nothing is read backwards

pub part_shorter : (u front v rest : List Token) → u ≡ front ++ v → length u < length rest → length v < length rest
part_shorter u front v rest parts less = omega (arith, less, ap length parts, length-append front v)

pub beyond_reaches : {A : Type 0} (o : Outcome A) (x : A) (rest : List Token) → GoesBeyond o rest → Reaches o x rest
beyond_reaches (Found y m) x rest less = inl less
beyond_reaches (Failed (Unexpected n) m) x rest less = less
beyond_reaches (Failed (TooDeep n) m) x rest less = tt
beyond_reaches (Failed (TooManyNodes n) m) x rest less = tt
beyond_reaches (Failed NoMemory m) x rest less = tt

-- From a place beyond this it goes on beyond this.
pub record Advances {A : Type 0} (p : Reader A) : Type 0 where
  pub on : (s : State) (rest : List Token) → length s.rest < length rest → GoesBeyond (p s) rest

pub never_back : {effort : Effort} {A : Type 0} {R C : Form A} {g : Test} {p : Reader A} → Exact effort Any R C g p → Advances p
never_back {A = A} {p = p} ep = record { on = λ s rest less. go s rest less (p s) refl } where
  go : (s : State) (rest : List Token) → length s.rest < length rest → (o : Outcome A) → p s ≡ o → GoesBeyond o rest
  go s rest less (Found x s') e = let F = ep.found s x s' tt e in part_shorter s.rest F.front s'.rest rest F.parts less
  go s rest less (Failed (Unexpected n) s') e = let F = ep.begun s (Unexpected n) s' tt e in part_shorter s.rest F.front s'.rest rest F.parts less
  go s rest less (Failed (TooDeep n) s') e = tt
  go s rest less (Failed (TooManyNodes n) s') e = tt
  go s rest less (Failed NoMemory s') e = tt

-- ---- one after the other

-- What is enough for the whole is enough for the first, and for the second behind what the first reads.
module _ (whole first second : Effort) {A B : Type 0} (Pre : List Token → Type 0) (R C : Form A) (g : Test) (p : Reader A) (S D : A → Form B) (h : Test) (q : A → Reader B)
    (starts : (s : State) → Enough whole s → Enough first s)
    (goes_on : (a : List Token) (x : A) (s m : State) → C a x → s.rest ≡ a ++ m.rest → m.limited ≡ s.limited → Enough whole s → Enough second m)
    (ep : Exact first Pre R C g p) (eq : (x : A) → Exact second Any (S x) (D x) h (q x))
    (some : (x : A) → (b : List Token) × (y : B) × S x b y)
    (follows : (x : A) (b : List Token) (y : B) (rest : List Token) → D x b y → Stops h rest → Stops g (b ++ rest)) where
  bind-found : (s : State) (y : B) (s'' : State) → Pre s.rest → (p >>= q) s ≡ Found y s'' → Finds (f.◌>>=◌ R S) (p >>= q) s y s''
  bind-found s y s'' pre e =
      let b = bind_found (p s) q y s'' e in
      let P = ep.found s b.0 b.1 pre b.2 in
      let Q = (eq b.0).found b.1 y s'' tt b.3 in
      record {
        front = P.front ++ Q.front;
        parts = P.parts ∙ ap (λ (t : List Token). P.front ++ t) Q.parts ∙ sym (append_assoc P.front Q.front s''.rest);
        ends = Q.ends ∙ ap (λ v. last_from v Q.front) P.ends ∙ sym (last-append s.before P.front Q.front);
        spelled = (P.front, Q.front, b.0, refl, P.spelled, Q.spelled);
        again = λ rest same.
            let one = P.again (Q.front ++ rest) (head-append Q.front rest s''.rest same ∙ ap head (sym Q.parts)) in
            ap (λ (t : List Token). (p >>= q) (at s t)) (append_assoc P.front Q.front rest)
            ∙ ap (λ (o : Outcome A). and_then o q) one
            ∙ Q.again rest same;
      }

  bind-refused : (s : State) (n : ℕ) (s'' : State) → Pre s.rest → (p >>= q) s ≡ Failed (Unexpected n) s'' → Refuses (f.◌>>=◌ R S) (p >>= q) s n s''
  bind-refused s n s'' pre e =
      elim (bind_refused (p s) q (Unexpected n) s'' e) [
        | inl b ↦
            let P = ep.refused s n s'' pre b in
            let w = some P.value in
            record {
              front = P.front;
              parts = P.parts;
              place = P.place;
              more = P.more ++ w.0;
              value = w.1;
              begins = (P.front ++ P.more, w.0, P.value, sym (append_assoc P.front P.more w.0), P.begins, w.2);
              again = λ rest same. ap (λ (o : Outcome A). and_then o q) (P.again rest same);
            }
        | inr b ↦
            let P = ep.found s b.0 b.1 pre b.2 in
            let Q = (eq b.0).refused b.1 n s'' tt b.3 in
            record {
              front = P.front ++ Q.front;
              parts = P.parts ∙ ap (λ (t : List Token). P.front ++ t) Q.parts ∙ sym (append_assoc P.front Q.front s''.rest);
              place = Q.place;
              more = Q.more;
              value = Q.value;
              begins = (P.front, Q.front ++ Q.more, b.0, append_assoc P.front Q.front Q.more, P.spelled, Q.begins);
              again = λ rest same.
                  let one = P.again (Q.front ++ rest) (head-append Q.front rest s''.rest same ∙ ap head (sym Q.parts)) in
                  ap (λ (t : List Token). (p >>= q) (at s t)) (append_assoc P.front Q.front rest)
                  ∙ ap (λ (o : Outcome A). and_then o q) one
                  ∙ Q.again rest same;
            }
      ]

  bind-begun : (s : State) (e : ParseFault) (s'' : State) → Pre s.rest → (p >>= q) s ≡ Failed e s'' → Begins (f.◌>>=◌ R S) s s''
  bind-begun s e s'' pre failed =
      elim (bind_refused (p s) q e s'' failed) [
        | inl b ↦
            let P = ep.begun s e s'' pre b in
            record {
              front = P.front;
              parts = P.parts;
              begins = λ real.
                  let B = P.begins real in
                  let w = some B.1 in
                  (B.0 ++ w.0, w.1, (P.front ++ B.0, w.0, B.1, sym (append_assoc P.front B.0 w.0), B.2, w.2));
            }
        | inr b ↦
            let P = ep.found s b.0 b.1 pre b.2 in
            let Q = (eq b.0).begun b.1 e s'' tt b.3 in
            record {
              front = P.front ++ Q.front;
              parts = P.parts ∙ ap (λ (t : List Token). P.front ++ t) Q.parts ∙ sym (append_assoc P.front Q.front s''.rest);
              begins = λ real.
                  let w = some b.0 in
                  let B = goes_on_by (f.◌>>=◌ R S) P.front Q.front (w.0, w.1, (P.front, w.0, b.0, refl, P.spelled, w.2))
                  (λ more. let M = Q.begins more in (M.0, M.1, (P.front, Q.front ++ M.0, b.0, refl, P.spelled, M.2))) in
                  (B.0, B.1, subst (λ (t : List Token). f.◌>>=◌ R S t B.1) (sym (append_assoc P.front Q.front B.0)) B.2);
            }
      ]

  bind-complete : (w : List Token) (y : B) (s : State) (rest : List Token) → Pre s.rest → f.◌>>=◌ C D w y → s.rest ≡ w ++ rest → Stops h rest
      → Ends (Enough whole s) ((p >>= q) s) y (last_from s.before w) rest s.limited
  bind-complete w y s rest pre c e stop =
      let mid : s.rest ≡ c.0 ++ (c.1 ++ rest) = e ∙ ap (λ (t : List Token). t ++ rest) c.3 ∙ append_assoc c.0 c.1 rest in
      ends_bind (Enough whole s) (p s) q c.2 y (last_from s.before w) (last_from s.before c.0) (c.1 ++ rest) rest s.limited
      (ends_less (Enough first s) (Enough whole s) (p s) c.2 (last_from s.before c.0) (c.1 ++ rest) s.limited (starts s)
      (ep.complete c.0 c.2 s (c.1 ++ rest) pre c.4 mid (follows c.2 c.1 y rest c.5 stop)))
      (λ m behind left limited.
      let last : last_from m.before c.1 ≡ last_from s.before w = ap (λ v. last_from v c.1) behind ∙ sym (last-append s.before c.0 c.1) ∙ ap (λ v. last_from s.before v) (sym c.3) in
      let inner = (eq c.2).complete c.1 y m rest tt c.5 left stop in
      let less = ends_less (Enough second m) (Enough whole s) (q c.2 m) y (last_from m.before c.1) rest m.limited
      (goes_on c.0 c.2 s m c.4 (mid ∙ ap (λ (t : List Token). c.0 ++ t) (sym left)) limited) inner in
      subst (λ v. Ends (Enough whole s) (q c.2 m) y v rest s.limited) last
      (subst (λ v. Ends (Enough whole s) (q c.2 m) y (last_from m.before c.1) rest v) limited less))

  bind-first : (o : Outcome A) (x : A) (y : B) (rest : List Token) → D x [] y → Clear rest → Reaches o x rest → Reaches (and_then o q) y rest
  bind-first (Found z m) x y rest d clear (inl less) = beyond_reaches (q z m) y rest ((never_back (eq z)).on m rest less)
  bind-first (Found z m) x y rest d clear (inr is) = subst (λ v. Reaches (q v m) y rest) (sym is.1) ((eq x).reaches [] y m rest tt d is.0 clear)
  bind-first (Failed (Unexpected n) m) x y rest d clear r = r
  bind-first (Failed (TooDeep n) m) x y rest d clear r = tt
  bind-first (Failed (TooManyNodes n) m) x y rest d clear r = tt
  bind-first (Failed NoMemory m) x y rest d clear r = tt

  bind-second : (o : Outcome A) (x : A) (b : List Token) (y : B) (enough : Type 0) (before : TokenLook) (rest : List Token) (limited : Bool)
      → D x b y → Clear rest → Ends enough o x before (b ++ rest) limited → Reaches (and_then o q) y rest
  bind-second (Found z m) x b y enough before rest limited d clear ends = subst (λ v. Reaches (q v m) y rest) (sym ends.0) ((eq x).reaches b y m rest tt d ends.2 clear)
  bind-second (Failed (Unexpected n) m) x b y enough before rest limited d clear ends = absurd ends
  bind-second (Failed (TooDeep n) m) x b y enough before rest limited d clear ends = tt
  bind-second (Failed (TooManyNodes n) m) x b y enough before rest limited d clear ends = tt
  bind-second (Failed NoMemory m) x b y enough before rest limited d clear ends = tt

  -- Where something of the second is left the first ends before it; where nothing is, the first alone may go on.
  bind-parts : (a b : List Token) (x : A) (y : B) (s : State) (rest : List Token) → Pre s.rest → C a x → D x b y → s.rest ≡ a ++ (b ++ rest) → Clear rest
      → Reaches ((p >>= q) s) y rest
  bind-parts a [] x y s rest pre c d e clear = bind-first (p s) x y rest d clear (ep.reaches a x s rest pre c e clear)
  bind-parts a (t ∷ b) x y s rest pre c d e clear =
      bind-second (p s) x (t ∷ b) y _ _ rest _ d clear (ep.complete a x s (t ∷ b ++ rest) pre c e (follows x (t ∷ b) y [] d refl))

  bind-reaches : (w : List Token) (y : B) (s : State) (rest : List Token) → Pre s.rest → f.◌>>=◌ C D w y → s.rest ≡ w ++ rest → Clear rest → Reaches ((p >>= q) s) y rest
  bind-reaches w y s rest pre c e clear =
      bind-parts c.0 c.1 c.2 y s rest pre c.4 c.5 (e ∙ ap (λ (t : List Token). t ++ rest) c.3 ∙ append_assoc c.0 c.1 rest) clear

  pub exact_bind_by : Exact whole Pre (f.◌>>=◌ R S) (f.◌>>=◌ C D) h (p >>= q)
  exact_bind_by = record { found = bind-found; refused = bind-refused; begun = bind-begun; complete = bind-complete; reaches = bind-reaches }

pub exact_bind : {effort : Effort} {A B : Type 0} {Pre : List Token → Type 0} {R C : Form A} {g : Test} {p : Reader A} (S D : A → Form B) (h : Test) (q : A → Reader B)
    → Exact effort Pre R C g p → ((x : A) → Exact effort Any (S x) (D x) h (q x))
    → ((x : A) → (b : List Token) × (y : B) × S x b y)
    → ((x : A) (b : List Token) (y : B) (rest : List Token) → D x b y → Stops h rest → Stops g (b ++ rest))
    → Exact effort Pre (f.◌>>=◌ R S) (f.◌>>=◌ C D) h (p >>= q)
exact_bind {effort = effort} {Pre = Pre} {R = R} {C = C} {g = g} {p = p} S D h q ep eq some follows =
    exact_bind_by effort effort effort Pre R C g p S D h q (λ s is. is) (λ a x s m c e same is. enough_behind effort s m a e same is) ep eq some follows

-- ---- nothing is read

pub exact_pure : (effort : Effort) {A : Type 0} (x : A) (g : Test) → Exact effort Any (nothing x) (nothing x) g (pure x)
exact_pure effort x g = record {
  found = λ s y s' pre e.
      let p = parts_found x y s s' e in
      record {
        front = [];
        parts = ap (λ (m : State). m.rest) p.1;
        ends = sym (ap (λ (m : State). m.before) p.1);
        spelled = (refl, sym p.0);
        again = λ rest same. rw (p.0, p.1) refl;
      };
  refused = λ s n s' pre e. absurd cc;
  begun = λ s d s' pre e. absurd cc;
  complete = λ w y s rest pre c e stop. (sym c.1, ap (λ v. last_from s.before v) (sym c.0), e ∙ ap (λ (t : List Token). t ++ rest) c.0, refl);
  reaches = λ w y s rest pre c e clear. inr (e ∙ ap (λ (t : List Token). t ++ rest) c.0, sym c.1);
}

-- ---- other conditions, other forms

pub weaken : {effort : Effort} {A : Type 0} {R C : Form A} {g : Test} {p : Reader A} (Pre : List Token → Type 0) → Exact effort Any R C g p → Exact effort Pre R C g p
weaken Pre e = record {
  found = λ s x s' pre. e.found s x s' tt;
  refused = λ s n s' pre. e.refused s n s' tt;
  begun = λ s d s' pre. e.begun s d s' tt;
  complete = λ w x s rest pre. e.complete w x s rest tt;
  reaches = λ w x s rest pre. e.reaches w x s rest tt;
}

-- spelled by more, and all that is spelled by less
pub exact_map : {effort : Effort} {A : Type 0} {Pre : List Token → Type 0} {R C : Form A} {g : Test} {p : Reader A} (S D : Form A)
    → ((w : List Token) (x : A) → R w x → S w x) → ((w : List Token) (x : A) → D w x → C w x) → Exact effort Pre R C g p → Exact effort Pre S D g p
exact_map S D out back e = record {
  found = λ s x s' pre is. let F = e.found s x s' pre is in record { front = F.front; parts = F.parts; ends = F.ends; spelled = out F.front x F.spelled; again = F.again };
  refused = λ s n s' pre is. let F = e.refused s n s' pre is in record { front = F.front; parts = F.parts; place = F.place; more = F.more; value = F.value; begins = out (F.front ++ F.more) F.value F.begins; again = F.again };
  begun = λ s d s' pre is. let F = e.begun s d s' pre is in record { front = F.front; parts = F.parts; begins = λ real. let B = F.begins real in (B.0, B.1, out (F.front ++ B.0) B.1 B.2) };
  complete = λ w x s rest pre d. e.complete w x s rest pre (back w x d);
  reaches = λ w x s rest pre d. e.reaches w x s rest pre (back w x d);
}

-- where it may go on by more
pub exact_goes : {effort : Effort} {A : Type 0} {Pre : List Token → Type 0} {R C : Form A} {g : Test} {p : Reader A} (h : Test)
    → Less g h → Exact effort Pre R C g p → Exact effort Pre R C h p
exact_goes {g = g} h less e = record {
  found = e.found;
  refused = e.refused;
  begun = e.begun;
  complete = λ w x s rest pre c is stop. e.complete w x s rest pre c is (stops_less g h less rest stop);
  reaches = e.reaches;
}
