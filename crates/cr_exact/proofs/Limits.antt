-- What readers count, one after the other.
use Rattle.std.proofs.Common.{◌≡◌, ℕ, zero, suc, Bool, true, false, cond, List, [], ◌∷◌, ◌++◌, Option, Some, None, inl, inr, refl, sym, ap, subst, ◌∙◌, append_assoc, arith}
use Rattle.cr_syntax.specs.declared.look.TokenLook.{TokenLook}
use Rattle.cr_syntax.specs.declared.token.Token.{Token}
use Rattle.cr_grammar.specs.Forms.{Form, nothing, last_look}
use Rattle.cr_grammar.specs.Operators.{is_minus}
use Rattle.cr_grammar.specs.Forms as f
use Rattle.cr_readers.specs.declared.fault.ParseFault.{ParseFault}
use Rattle.cr_readers.specs.declared.fault.ParseFault.TheVariants.{Unexpected, TooDeep, TooManyNodes, NoMemory}
use Rattle.cr_readers.specs.Reader.{State, Outcome, Found, Failed, Reader, ◌>>=◌, pure, Test, passes, read_by, next, refuse, give_up, taken, take, choose, many}
use Rattle.cr_exact.specs.Exact.{at, head, Stops, Effort, Ends, Exact, Any}
use Rattle.cr_exact.specs.Limits.{Tally, IsHigh, Counted, limit_at, Beyond, AtMost, last_place, Halts, Counts, Second, Marks, Still, Quiet}
use Rattle.cr_exact.proofs.Sequence.{head-append, bind_found, bind_refused, parts_found}

-- ---- tallies

pub least : (t : Tally) → AtMost t t
least t = (omega arith, omega arith)

pub at_most : (t u v : Tally) → AtMost t u → AtMost u v → AtMost t v
at_most t u v a b = (omega (arith, a.0, b.0), omega (arith, a.1, b.1))

-- What is counted then is beyond it too.
pub beyond_more : (e : ParseFault) (depth : ℕ) (t u : Tally) → AtMost t u → Beyond e depth t → Beyond e depth u
beyond_more (Unexpected n) depth t u more b = b
beyond_more (TooDeep n) depth t u more b = omega (arith, more.1, b)
beyond_more (TooManyNodes n) depth t u more b = omega (arith, more.0, b)
beyond_more NoMemory depth t u more b = b

-- ---- fronts that are not empty

pub head-some : (front a b : List Token) → (front ≡ [] → ⊥) → head (front ++ a) ≡ head (front ++ b)
head-some [] a b some = absurd (some refl)
head-some (t ∷ front) a b some = refl

pub some_behind : (a b : List Token) → (b ≡ [] → ⊥) → a ++ b ≡ [] → ⊥
some_behind [] b some e = some e
some_behind (t ∷ a) b some e = cc

pub last_place_behind : (a b : List Token) → (b ≡ [] → ⊥) → last_place (a ++ b) ≡ last_place b
last_place_behind [] b some = refl
last_place_behind (t ∷ []) [] some = absurd (some refl)
last_place_behind (t ∷ []) (u ∷ b) some = refl
last_place_behind (t ∷ v ∷ a) b some = last_place_behind (v ∷ a) b some

pub last_look_behind : (a b : List Token) → (b ≡ [] → ⊥) → last_look (a ++ b) ≡ last_look b
last_look_behind [] b some = refl
last_look_behind (t ∷ []) [] some = absurd (some refl)
last_look_behind (t ∷ []) (u ∷ b) some = refl
last_look_behind (t ∷ v ∷ a) b some = last_look_behind (v ∷ a) b some

-- ---- one after the other

-- What is found at a list that is spelled is what the list spells.
found_is : {A : Type 0} (enough : Type 0) (o : Outcome A) (x y : A) (m : State) (before : TokenLook) (rest : List Token) (limited : Bool)
    → o ≡ Found x m → Ends enough o y before rest limited → (x ≡ y) × (m.rest ≡ rest)
found_is enough o x y m before rest limited is ends =
    let e : Ends enough (Found x m) y before rest limited = subst (λ v. Ends enough v y before rest limited) is ends in
    (e.0, e.2)

module _ {effort : Effort} {A B : Type 0} {Pre : List Token → Type 0} {R C : Form A} {g : Test} {p : Reader A} (D : A → Form B) (h : Test) (q : A → Reader B)
    {from : Tally} {mid : A → Tally} (to : B → Tally) (mark : A → Option ℕ)
    (ep : Exact effort Pre R C g p) (cp : Counts Pre C g from mid p) (cq : (x : A) → Second (D x) h (mid x) to (mark x) (q x))
    (marks : (x : A) (n : ℕ) → mark x ≡ Some n → Marks R p x n)
    (follows : (x : A) (b : List Token) (y : B) (rest : List Token) → D x b y → Stops h rest → Stops g (b ++ rest)) where
  bind-counted : (s : State) (y : B) (s'' : State) → Pre s.rest → Counted from s → (p >>= q) s ≡ Found y s'' → Counted (to y) s'' × (s''.depth ≡ s.depth)
  bind-counted s y s'' pre is e =
      let b = bind_found (p s) q y s'' e in
      let P = cp.found s b.0 b.1 pre is b.2 in
      let Q = (cq b.0).found b.1 y s'' P.0 b.3 in
      (Q.0, Q.1 ∙ P.1)

  first_halts : (s : State) (e : ParseFault) (n : ℕ) (s' : State) → Halts C g mid s e n s' → Halts (f.◌>>=◌ C D) h to s e n s'
  first_halts s e n s' H = record {
    front = H.front;
    some = H.some;
    parts = H.parts;
    place = H.place;
    beyond = λ w rest more y c is next stop.
        let whole : c.0 ++ (c.1 ++ rest) ≡ H.front ++ more = sym (append_assoc c.0 c.1 rest) ∙ ap (λ (t : List Token). t ++ rest) (sym c.3) ∙ is in
        beyond_more e s.depth (mid c.2) (to y) ((cq c.2).grows c.1 y c.5)
        (H.beyond c.0 (c.1 ++ rest) more c.2 c.4 whole next (follows c.2 c.1 y rest c.5 stop));
  }

  -- The list splits as it was read.
  splits : (s m : State) (x : A) (front left w rest : List Token) (y : B) → Pre s.rest → head (front ++ left) ≡ head s.rest
      → p (at s (front ++ left)) ≡ Found x (at m left) → (c : f.◌>>=◌ C D w y) → w ++ rest ≡ front ++ left → Stops h rest
      → (x ≡ c.2) × (left ≡ c.1 ++ rest)
  splits s m x front left w rest y pre same is c whole stop =
      let split : front ++ left ≡ c.0 ++ (c.1 ++ rest) = sym whole ∙ ap (λ (t : List Token). t ++ rest) c.3 ∙ append_assoc c.0 c.1 rest in
      found_is _ (p (at s (front ++ left))) x c.2 (at m left) _ (c.1 ++ rest) _ is
      (ep.complete c.0 c.2 (at s (front ++ left)) (c.1 ++ rest) (cp.same s.rest (front ++ left) (sym same) pre) c.4 split (follows c.2 c.1 y rest c.5 stop))

  second_halts : (s m : State) (x : A) (e : ParseFault) (n : ℕ) (s' : State) → Pre s.rest → p s ≡ Found x m → m.depth ≡ s.depth
      → Halts (D x) h to m e n s' → Halts (f.◌>>=◌ C D) h to s e n s'
  second_halts s m x e n s' pre found deep H =
      let P = ep.found s x m pre found in
      record {
        front = P.front ++ H.front;
        some = some_behind P.front H.front H.some;
        parts = P.parts ∙ ap (λ (t : List Token). P.front ++ t) H.parts ∙ sym (append_assoc P.front H.front s'.rest);
        place = H.place ∙ sym (last_place_behind P.front H.front H.some);
        beyond = λ w rest more y c is next stop.
            let alike : head (H.front ++ more) ≡ head m.rest = head-some H.front more s'.rest H.some ∙ ap head (sym H.parts) in
            let split = splits s m x P.front (H.front ++ more) w rest y pre
            (head-append P.front (H.front ++ more) m.rest alike ∙ ap head (sym P.parts))
            (P.again (H.front ++ more) alike) c (is ∙ append_assoc P.front H.front more) stop in
            subst (λ v. Beyond e v (to y)) deep
            (H.beyond c.1 rest more y (subst (λ v. D v c.1 y) (sym split.0) c.5) (sym split.1)
            (λ minus. next (ap is_minus (last_look_behind P.front H.front H.some) ∙ minus)) stop);
      }

  mark_halts : (s m : State) (x : A) (e : ParseFault) (n : ℕ) (s' : State) → Pre s.rest → p s ≡ Found x m → m.depth ≡ s.depth
      → mark x ≡ Some n → m.rest ≡ s'.rest → ((w : List Token) (y : B) → D x w y → Beyond e m.depth (to y)) → Halts (f.◌>>=◌ C D) h to s e n s'
  mark_halts s m x e n s' pre found deep is_marked here beyond =
      let P = ep.found s x m pre found in
      let M = marks x n is_marked in
      record {
        front = P.front;
        some = M.some P.front P.spelled;
        parts = P.parts ∙ ap (λ (t : List Token). P.front ++ t) here;
        place = sym (M.placed P.front P.spelled);
        beyond = λ w rest more y c is next stop.
            let split = splits s m x P.front more w rest y pre
            (head-some P.front more m.rest (M.some P.front P.spelled) ∙ ap head (sym P.parts))
            (M.firm s m P.front more found P.parts P.spelled) c is stop in
            subst (λ v. Beyond e v (to y)) deep (beyond c.1 y (subst (λ v. D v c.1 y) (sym split.0) c.5));
      }

  bind-stopped : (s : State) (e : ParseFault) (n : ℕ) (s' : State) → Pre s.rest → Counted from s → (p >>= q) s ≡ Failed e s' → limit_at e ≡ Some n
      → Halts (f.◌>>=◌ C D) h to s e n s'
  bind-stopped s e n s' pre is failed limit =
      elim (bind_refused (p s) q e s' failed) [
        | inl b ↦ first_halts s e n s' (cp.stopped s e n s' pre is b limit)
        | inr b ↦
            let P = cp.found s b.0 b.1 pre is b.2 in
            elim ((cq b.0).stopped b.1 e n s' P.0 b.3 limit) [
              | inl H ↦ second_halts s b.1 b.0 e n s' pre b.2 P.1 H
              | inr early ↦ mark_halts s b.1 b.0 e n s' pre b.2 P.1 early.0 early.1 early.2
            ]
      ]

  -- where the second may halt at the last token of the first
  pub counts_bind_by : Counts Pre (f.◌>>=◌ C D) h from to (p >>= q)
  counts_bind_by = record {
    same = cp.same;
    grows = λ w y c. at_most from (mid c.2) (to y) (cp.grows c.0 c.2 c.4) ((cq c.2).grows c.1 y c.5);
    found = bind-counted;
    stopped = bind-stopped;
  }

pub second : {A : Type 0} {C : Form A} {g : Test} {from : Tally} {to : A → Tally} {p : Reader A} → Counts Any C g from to p → Second C g from to None p
second c = record {
  grows = c.grows;
  found = λ s x s' is e. c.found s x s' tt is e;
  stopped = λ s e n s' is failed limit. inl (c.stopped s e n s' tt is failed limit);
}

pub counts_bind : {effort : Effort} {A B : Type 0} {Pre : List Token → Type 0} {R C : Form A} {g : Test} {p : Reader A} (D : A → Form B) (h : Test) (q : A → Reader B)
    {from : Tally} {mid : A → Tally} (to : B → Tally)
    → Exact effort Pre R C g p → Counts Pre C g from mid p → ((x : A) → Counts Any (D x) h (mid x) to (q x))
    → ((x : A) (b : List Token) (y : B) (rest : List Token) → D x b y → Stops h rest → Stops g (b ++ rest))
    → Counts Pre (f.◌>>=◌ C D) h from to (p >>= q)
counts_bind D h q to ep cp cq follows = counts_bind_by D h q to (λ x. None) ep cp (λ x. second (cq x)) (λ x n e. absurd cc) follows

-- where no limit stops the second
pub counts_bind_quiet : {A B : Type 0} {Pre : List Token → Type 0} {C : Form A} {g : Test} {p : Reader A} (D : A → Form B) (h : Test) (q : A → Reader B)
    {from : Tally} {mid : A → Tally} (to : B → Tally)
    → Counts Pre C g from mid p → ((x : A) → Counts Any (D x) h (mid x) to (q x)) → ((x : A) → Quiet (q x))
    → ((x : A) (b : List Token) (y : B) (rest : List Token) → D x b y → Stops h rest → Stops g (b ++ rest))
    → Counts Pre (f.◌>>=◌ C D) h from to (p >>= q)
counts_bind_quiet {B = B} {Pre = Pre} {C = C} {g = g} {p = p} D h q {from = from} {mid = mid} to cp cq quiet follows = record {
  same = cp.same;
  grows = λ w y c. at_most from (mid c.2) (to y) (cp.grows c.0 c.2 c.4) ((cq c.2).grows c.1 y c.5);
  found = counted;
  stopped = stops;
} where
  counted : (s : State) (y : B) (s'' : State) → Pre s.rest → Counted from s → (p >>= q) s ≡ Found y s'' → Counted (to y) s'' × (s''.depth ≡ s.depth)
  counted s y s'' pre is e =
      let b = bind_found (p s) q y s'' e in
      let P = cp.found s b.0 b.1 pre is b.2 in
      let Q = (cq b.0).found b.1 y s'' tt P.0 b.3 in
      (Q.0, Q.1 ∙ P.1)

  stops : (s : State) (e : ParseFault) (n : ℕ) (s' : State) → Pre s.rest → Counted from s → (p >>= q) s ≡ Failed e s' → limit_at e ≡ Some n → Halts (f.◌>>=◌ C D) h to s e n s'
  stops s e n s' pre is failed limit =
      elim (bind_refused (p s) q e s' failed) [
        | inr b ↦ absurd (quiet b.0 b.1 e n s' b.3 limit)
        | inl b ↦
            let H = cp.stopped s e n s' pre is b limit in
            record {
              front = H.front;
              some = H.some;
              parts = H.parts;
              place = H.place;
              beyond = λ w rest more y c is next stop.
                  let whole : c.0 ++ (c.1 ++ rest) ≡ H.front ++ more = sym (append_assoc c.0 c.1 rest) ∙ ap (λ (t : List Token). t ++ rest) (sym c.3) ∙ is in
                  beyond_more e s.depth (mid c.2) (to y) ((cq c.2).grows c.1 y c.5)
                  (H.beyond c.0 (c.1 ++ rest) more c.2 c.4 whole next (follows c.2 c.1 y rest c.5 stop));
            }
      ]

-- ---- nothing is read

pub counts_pure : {A : Type 0} (x : A) (g : Test) (from : Tally) (to : A → Tally) → to x ≡ from → Counts Any (nothing x) g from to (pure x)
counts_pure x g from to is = record {
  same = λ a b e pre. tt;
  grows = λ w y c. subst (AtMost from) (sym (ap to c.1 ∙ is)) (least from);
  found = λ s y s' pre counted e.
      let p = parts_found x y s s' e in
      (subst (λ v. Counted v s') (sym is ∙ ap to p.0) (subst (Counted from) p.1 counted), ap (λ (m : State). m.depth) (sym p.1));
  stopped = λ s e n s' pre counted failed limit. absurd cc;
}

-- ---- other conditions, other forms

pub counts_weaken : {A : Type 0} {C : Form A} {g : Test} {from : Tally} {to : A → Tally} {p : Reader A} (Pre : List Token → Type 0)
    → ((a b : List Token) → head a ≡ head b → Pre a → Pre b) → Counts Any C g from to p → Counts Pre C g from to p
counts_weaken Pre same c = record {
  same = same;
  grows = c.grows;
  found = λ s x s' pre. c.found s x s' tt;
  stopped = λ s e n s' pre. c.stopped s e n s' tt;
}

-- all that is spelled by less
pub counts_map : {A : Type 0} {Pre : List Token → Type 0} {C : Form A} {g : Test} {from : Tally} {to : A → Tally} {p : Reader A} (D : Form A)
    → ((w : List Token) (x : A) → D w x → C w x) → Counts Pre C g from to p → Counts Pre D g from to p
counts_map D back c = record {
  same = c.same;
  grows = λ w x d. c.grows w x (back w x d);
  found = c.found;
  stopped = λ s e n s' pre counted failed limit.
      let H = c.stopped s e n s' pre counted failed limit in
      record { front = H.front; some = H.some; parts = H.parts; place = H.place; beyond = λ w rest more y d. H.beyond w rest more y (back w y d) };
}

-- where it may go on by more
pub counts_goes : {A : Type 0} {Pre : List Token → Type 0} {C : Form A} {g : Test} {from : Tally} {to : A → Tally} {p : Reader A} (h : Test)
    → ((rest : List Token) → Stops h rest → Stops g rest) → Counts Pre C g from to p → Counts Pre C h from to p
counts_goes h less c = record {
  same = c.same;
  grows = c.grows;
  found = c.found;
  stopped = λ s e n s' pre counted failed limit.
      let H = c.stopped s e n s' pre counted failed limit in
      record { front = H.front; some = H.some; parts = H.parts; place = H.place; beyond = λ w rest more y d is next stop. H.beyond w rest more y d is next (less rest stop) };
}

-- the same counts, named otherwise
pub counts_as : {A : Type 0} {Pre : List Token → Type 0} {C : Form A} {g : Test} {from : Tally} {to : A → Tally} {p : Reader A} (other : A → Tally)
    → ((x : A) → to x ≡ other x) → Counts Pre C g from to p → Counts Pre C g from other p
counts_as {from = from} other is c = record {
  same = c.same;
  grows = λ w x d. subst (AtMost from) (is x) (c.grows w x d);
  found = λ s x s' pre counted e. let F = c.found s x s' pre counted e in (subst (λ v. Counted v s') (is x) F.0, F.1);
  stopped = λ s e n s' pre counted failed limit.
      let H = c.stopped s e n s' pre counted failed limit in
      record {
        front = H.front;
        some = H.some;
        parts = H.parts;
        place = H.place;
        beyond = λ w rest more y d whole next stop. subst (λ v. Beyond e s.depth v) (is y) (H.beyond w rest more y d whole next stop);
      };
}

-- the same counts, named otherwise for all that is spelled
pub counts_as_spelled : {effort : Effort} {A : Type 0} {Pre : List Token → Type 0} {R C : Form A} {g : Test} {from : Tally} {to : A → Tally} {p : Reader A} (other : A → Tally)
    → Exact effort Pre R C g p → ((w : List Token) (x : A) → R w x → to x ≡ other x) → ((w : List Token) (x : A) → C w x → to x ≡ other x)
    → Counts Pre C g from to p → Counts Pre C g from other p
counts_as_spelled {from = from} other ep found complete c = record {
  same = c.same;
  grows = λ w x d. subst (AtMost from) (complete w x d) (c.grows w x d);
  found = λ s x s' pre counted e.
      let F = c.found s x s' pre counted e in
      let P = ep.found s x s' pre e in
      (subst (λ v. Counted v s') (found P.front x P.spelled) F.0, F.1);
  stopped = λ s e n s' pre counted failed limit.
      let H = c.stopped s e n s' pre counted failed limit in
      record {
        front = H.front;
        some = H.some;
        parts = H.parts;
        place = H.place;
        beyond = λ w rest more y d whole next stop. subst (λ v. Beyond e s.depth v) (complete w y d) (H.beyond w rest more y d whole next stop);
      };
}

-- ---- what counts nothing

high_same : (height : Option ℕ) (s s' : State) → s'.depth ≡ s.depth → s'.height ≡ s.height → IsHigh height s → IsHigh height s'
high_same None s s' depth is high = tt
high_same (Some height) s s' depth is high = (is ∙ high.0, high.1, rw depth high.2)

counted_same : (t : Tally) (s s' : State) → (s'.limited ≡ s.limited) × (s'.depth ≡ s.depth) × (s'.nodes ≡ s.nodes) × (s'.height ≡ s.height) → Counted t s → Counted t s'
counted_same t s s' is counted = record {
  limited = is.0 ∙ counted.limited;
  shallow = rw is.1 counted.shallow;
  nodes = is.2 ∙ counted.nodes;
  few = counted.few;
  high = high_same t.height s s' is.1 is.3 counted.high;
}

pub counts_still : {A : Type 0} {p : Reader A} (Pre : List Token → Type 0) (C : Form A) (g : Test) (from : Tally) → ((a b : List Token) → head a ≡ head b → Pre a → Pre b)
    → Still p → Counts Pre C g from (λ x. from) p
counts_still Pre C g from same still = record {
  same = same;
  grows = λ w x c. least from;
  found = λ s x s' pre counted e. let K = still.keeps s x s' e in (counted_same from s s' K counted, K.1);
  stopped = λ s e n s' pre counted failed limit. absurd (still.lets s e n s' failed limit);
}

pub counts_silent : {A : Type 0} {p : Reader A} (C : Form A) (g : Test) (from : Tally) → Still p → Counts Any C g from (λ x. from) p
counts_silent C g from still = counts_still Any C g from (λ a b e pre. tt) still

pub still_pure : {A : Type 0} (x : A) → Still (pure x)
still_pure x = record {
  keeps = λ s y s' e.
      let p = parts_found x y s s' e in
      (ap (λ (m : State). m.limited) (sym p.1), ap (λ (m : State). m.depth) (sym p.1), ap (λ (m : State). m.nodes) (sym p.1), ap (λ (m : State). m.height) (sym p.1));
  lets = λ s e n s' failed limit. absurd cc;
}

pub still_bind : {A B : Type 0} {p : Reader A} {q : A → Reader B} → Still p → ((x : A) → Still (q x)) → Still (p >>= q)
still_bind {p = p} {q = q} sp sq = record {
  keeps = λ s y s'' e.
      let b = bind_found (p s) q y s'' e in
      let P = sp.keeps s b.0 b.1 b.2 in
      let Q = (sq b.0).keeps b.1 y s'' b.3 in
      (Q.0 ∙ P.0, Q.1 ∙ P.1, Q.2 ∙ P.2, Q.3 ∙ P.3);
  lets = λ s e n s' failed limit.
      elim (bind_refused (p s) q e s' failed) [
        | inl b ↦ sp.lets s e n s' b limit
        | inr b ↦ (sq b.0).lets b.1 e n s' b.3 limit
      ];
}

refusal_still : {A : Type 0} (s : State) (e : ParseFault) (n : ℕ) (s' : State) → let outcome : Outcome A = refuse s in outcome ≡ Failed e s' → limit_at e ≡ Some n → ⊥
refusal_still s (Unexpected m) n s' failed limit = cc
refusal_still s (TooDeep m) n s' failed limit = cc
refusal_still s (TooManyNodes m) n s' failed limit = cc
refusal_still s NoMemory n s' failed limit = cc

giving_up_still : {A : Type 0} (s : State) (e : ParseFault) (n : ℕ) (s' : State) → let outcome : Outcome A = give_up s in outcome ≡ Failed e s' → limit_at e ≡ Some n → ⊥
giving_up_still s (Unexpected m) n s' failed limit = cc
giving_up_still s (TooDeep m) n s' failed limit = cc
giving_up_still s (TooManyNodes m) n s' failed limit = cc
giving_up_still s NoMemory n s' failed limit = cc

pub still_refuse : {A : Type 0} → Still {A = A} refuse
still_refuse = record { keeps = λ s y s' e. absurd cc; lets = refusal_still }

pub still_give_up : {A : Type 0} → Still {A = A} give_up
still_give_up = record { keeps = λ s y s' e. absurd cc; lets = giving_up_still }

pub still_choose : {A : Type 0} (test : Test) {p q : Reader A} → Still p → Still q → Still (choose test p q)
still_choose {A = A} test {p = p} {q = q} sp sq = record {
  keeps = λ s x s' e. kept s x s' (passes test s.rest) e;
  lets = λ s e n s' failed limit. stays s e n s' (passes test s.rest) failed limit;
} where
  kept : (s : State) (x : A) (s' : State) (b : Bool) → cond b p q s ≡ Found x s'
      → (s'.limited ≡ s.limited) × (s'.depth ≡ s.depth) × (s'.nodes ≡ s.nodes) × (s'.height ≡ s.height)
  kept s x s' true e = sp.keeps s x s' e
  kept s x s' false e = sq.keeps s x s' e

  stays : (s : State) (e : ParseFault) (n : ℕ) (s' : State) (b : Bool) → cond b p q s ≡ Failed e s' → limit_at e ≡ Some n → ⊥
  stays s e n s' true failed limit = sp.lets s e n s' failed limit
  stays s e n s' false failed limit = sq.lets s e n s' failed limit

pub still_many : {A : Type 0} (test : Test) {p : Reader A} (n : ℕ) → Still p → Still (many test p n)
still_many test zero sp = still_give_up
still_many test (suc n) sp = still_choose test (still_bind sp (λ x. still_bind (still_many test n sp) (λ xs. still_pure (x ∷ xs)))) (still_pure [])

pub still_take : {A : Type 0} (f : Token → Option A) → Still (take f)
unfolding next
still_take {A = A} f = record {
  keeps = λ s x s' e. kept s x s' (read_by f s.rest) e;
  lets = λ s e n s' failed limit. stays s e n s' (read_by f s.rest) failed limit;
} where
  kept : (s : State) (x : A) (s' : State) (o : Option A) → taken o s ≡ Found x s'
      → (s'.limited ≡ s.limited) × (s'.depth ≡ s.depth) × (s'.nodes ≡ s.nodes) × (s'.height ≡ s.height)
  kept s x s' None e = absurd cc
  kept s x s' (Some y) e =
      let p = parts_found y x (next s) s' e in
      (ap (λ (m : State). m.limited) (sym p.1), ap (λ (m : State). m.depth) (sym p.1), ap (λ (m : State). m.nodes) (sym p.1), ap (λ (m : State). m.height) (sym p.1))

  stays : (s : State) (e : ParseFault) (n : ℕ) (s' : State) (o : Option A) → taken o s ≡ Failed e s' → limit_at e ≡ Some n → ⊥
  stays s e n s' None failed limit = refusal_still s e n s' failed limit
  stays s e n s' (Some y) failed limit = cc

pub quiet_bind : {A B : Type 0} {p : Reader A} {q : A → Reader B} → Quiet p → ((x : A) → Quiet (q x)) → Quiet (p >>= q)
quiet_bind {p = p} {q = q} qp qq s e n s' failed limit =
    elim (bind_refused (p s) q e s' failed) [
      | inl b ↦ qp s e n s' b limit
      | inr b ↦ qq b.0 b.1 e n s' b.3 limit
    ]

-- where nothing is counted first, and no limit stops what follows
pub counts_still_then : {A B : Type 0} {p : Reader A} (C : Form A) (D : A → Form B) (h : Test) (q : A → Reader B) (from : Tally) (to : B → Tally)
    → Still p → ((x : A) → Counts Any (D x) h from to (q x)) → ((x : A) → Quiet (q x)) → Counts Any (f.◌>>=◌ C D) h from to (p >>= q)
counts_still_then {p = p} C D h q from to still cq quiet = record {
  same = λ a b e pre. tt;
  grows = λ w y c. (cq c.2).grows c.1 y c.5;
  found = λ s y s'' pre is e.
      let b = bind_found (p s) q y s'' e in
      let K = still.keeps s b.0 b.1 b.2 in
      let Q = (cq b.0).found b.1 y s'' tt (counted_same from s b.1 K is) b.3 in
      (Q.0, Q.1 ∙ K.1);
  stopped = λ s e n s' pre is failed limit. absurd (quiet_bind still.lets quiet s e n s' failed limit);
}
