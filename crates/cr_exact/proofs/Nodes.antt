-- Steps that read no token: they count nodes and nesting, or look back.
use Rattle.std.proofs.Common.{◌≡◌, ℕ, max, Bool, true, false, cond, List, [], ◌∷◌, ◌++◌, inl, inr, refl, sym, ap, subst, ◌∙◌}
use Rattle.std.proofs.lemmas.Bool.{and_parts}
use Rattle.cr_syntax.specs.declared.look.TokenLook.{TokenLook}
use Rattle.cr_syntax.specs.declared.token.Token.{Token}
use Rattle.cr_syntax.specs.Look.{look_of}
use Rattle.cr_grammar.specs.Forms.{Form, last_look, with_last}
use Rattle.cr_readers.specs.declared.fault.ParseFault.{ParseFault}
use Rattle.cr_readers.specs.declared.fault.ParseFault.TheVariants.{Unexpected, TooDeep, TooManyNodes, NoMemory}
use Rattle.cr_readers.specs.Reader.{State, Outcome, Found, Failed, Reader, Test, and_then, ◌>>=◌, ◌>>◌, pure, node_above, grow, wrap, around, deeper, shallower, above_part, unchanged, part, beside, last}
use Rattle.cr_exact.specs.Exact.{at, head, last_from, Stops, Effort, Enough, Ends, MayStop, Finds, Refuses, Begins, Exact}
use Rattle.cr_exact.proofs.Sequence.{bind_found, bind_refused, parts_found, ends_less, begins_here}
use Rattle.std.proofs.lemmas.List.{append_cancel_right}
use Rattle.cr_exact.specs.Exact.{Reaches, Clear}

-- A step that reads no token, and is stopped by a limit alone.
pub record IsSilent (q : Reader (Unit {0})) : Type 0 where
  pub keeps : (s s' : State) (rest : List Token) → q s ≡ Found tt s' → q (at s rest) ≡ Found tt (at s' rest)
  pub stays : (s s' : State) → q s ≡ Found tt s' → (s'.rest ≡ s.rest) × (s'.before ≡ s.before) × (s'.limited ≡ s.limited)
  pub fails : (s s' : State) (e : ParseFault) → q s ≡ Failed e s' → MayStop (Unit {0}) s.limited e × (s.rest ≡ s'.rest)

silent_ends : {A : Type 0} (o : Outcome (Unit {0})) (p : Reader A) (enough : Type 0) (x : A) (before : TokenLook) (rest : List Token) (limited : Bool)
    → ((m : State) → o ≡ Found tt m → Ends enough (p m) x before rest limited)
    → ((m : State) (e : ParseFault) → o ≡ Failed e m → MayStop (Unit {0}) limited e)
    → Ends enough (and_then o (λ _. p)) x before rest limited
silent_ends (Found u m) p enough x before rest limited go bad = go m refl
silent_ends (Failed (Unexpected n) m) p enough x before rest limited go bad = bad m (Unexpected n) refl
silent_ends (Failed (TooDeep n) m) p enough x before rest limited go bad = bad m (TooDeep n) refl
silent_ends (Failed (TooManyNodes n) m) p enough x before rest limited go bad = bad m (TooManyNodes n) refl
silent_ends (Failed NoMemory m) p enough x before rest limited go bad = λ is. bad m NoMemory refl tt

enough_same : (effort : Effort) (s m : State) → m.rest ≡ s.rest → m.limited ≡ s.limited → Enough effort s → Enough effort m
enough_same effort s m e same h = (h.0, rw e h.1)

module _ {effort : Effort} {A : Type 0} {Pre : List Token → Type 0} {R C : Form A} {g : Test} (q : Reader (Unit {0})) (silent : IsSilent q) (p : Reader A) (ep : Exact effort Pre R C g p) where
  silent-found : (s : State) (x : A) (s' : State) → Pre s.rest → (q >> p) s ≡ Found x s' → Finds R (q >> p) s x s'
  silent-found s x s' pre e =
      let b = bind_found (q s) (λ _. p) x s' e in
      let K = silent.stays s b.1 b.2 in
      let F = ep.found b.1 x s' (rw K.0 pre) b.3 in
      record {
        front = F.front;
        parts = sym K.0 ∙ F.parts;
        ends = F.ends ∙ ap (λ v. last_from v F.front) K.1;
        spelled = F.spelled;
        again = λ rest same. ap (λ (o : Outcome (Unit {0})). and_then o (λ _. p)) (silent.keeps s b.1 (F.front ++ rest) b.2) ∙ F.again rest same;
      }

  silent-refused : (s : State) (n : ℕ) (s' : State) → Pre s.rest → (q >> p) s ≡ Failed (Unexpected n) s' → Refuses R (q >> p) s n s'
  silent-refused s n s' pre e =
      elim (bind_refused (q s) (λ _. p) (Unexpected n) s' e) [
        | inl b ↦ absurd (silent.fails s s' (Unexpected n) b).0
        | inr b ↦
            let K = silent.stays s b.1 b.2 in
            let F = ep.refused b.1 n s' (rw K.0 pre) b.3 in
            record {
              front = F.front;
              parts = sym K.0 ∙ F.parts;
              place = F.place;
              more = F.more;
              value = F.value;
              begins = F.begins;
              again = λ rest same. ap (λ (o : Outcome (Unit {0})). and_then o (λ _. p)) (silent.keeps s b.1 (F.front ++ rest) b.2) ∙ F.again rest same;
            }
      ]

  silent-begun : (s : State) (e : ParseFault) (s' : State) → Pre s.rest → (q >> p) s ≡ Failed e s' → Begins R s s'
  silent-begun s e s' pre failed =
      elim (bind_refused (q s) (λ _. p) e s' failed) [
        | inl b ↦ begins_here R s s' (silent.fails s s' e b).1
        | inr b ↦
            let K = silent.stays s b.1 b.2 in
            let F = ep.begun b.1 e s' (rw K.0 pre) b.3 in
            record { front = F.front; parts = sym K.0 ∙ F.parts; begins = F.begins }
      ]

  silent-complete : (w : List Token) (x : A) (s : State) (rest : List Token) → Pre s.rest → C w x → s.rest ≡ w ++ rest → Stops g rest
      → Ends (Enough effort s) ((q >> p) s) x (last_from s.before w) rest s.limited
  silent-complete w x s rest pre c e stop =
      silent_ends (q s) p (Enough effort s) x (last_from s.before w) rest s.limited
      (λ m is.
      let K = silent.stays s m is in
      let inner = ep.complete w x m rest (rw K.0 pre) c (K.0 ∙ e) stop in
      let less = ends_less (Enough effort m) (Enough effort s) (p m) x (last_from m.before w) rest m.limited (enough_same effort s m K.0 K.2) inner in
      subst (λ v. Ends (Enough effort s) (p m) x (last_from v w) rest s.limited) K.1
      (subst (λ v. Ends (Enough effort s) (p m) x (last_from m.before w) rest v) K.2 less))
      (λ m d is. (silent.fails s m d is).0)

  silent-reaches : (x : A) (s : State) (rest : List Token) → ((m : State) → q s ≡ Found tt m → Reaches (p m) x rest) → (o : Outcome (Unit {0})) → q s ≡ o
      → Reaches (and_then o (λ _. p)) x rest
  silent-reaches x s rest go (Found u m) e = go m e
  silent-reaches x s rest go (Failed (Unexpected n) m) e = absurd (silent.fails s m (Unexpected n) e).0
  silent-reaches x s rest go (Failed (TooDeep n) m) e = tt
  silent-reaches x s rest go (Failed (TooManyNodes n) m) e = tt
  silent-reaches x s rest go (Failed NoMemory m) e = tt

  pub exact_silent : Exact effort Pre R C g (q >> p)
  exact_silent = record {
    found = silent-found;
    refused = silent-refused;
    begun = silent-begun;
    complete = silent-complete;
    reaches = λ w x s rest pre c e clear.
        silent-reaches x s rest (λ m is. let K = silent.stays s m is in ep.reaches w x m rest (rw K.0 pre) c (K.0 ∙ e) clear) (q s) refl;
  }

-- ---- nodes

passed : (b c : Bool) (s m s' : State) (n o : ℕ) → let outcome : Outcome (Unit {0}) = cond b (Failed (TooDeep n) s) (cond c (Failed (TooManyNodes o) s) (Found tt m)) in outcome ≡ Found tt s'
    → (b ≡ false) × (c ≡ false) × (m ≡ s')
passed true c s m s' n o e = absurd cc
passed false true s m s' n o e = absurd cc
passed false false s m s' n o e = (refl, refl, cc)

stopped : (b c limited : Bool) (s m s' : State) (n o : ℕ) (e : ParseFault) → (b ≡ true → limited ≡ true) → (c ≡ true → limited ≡ true)
    → let outcome : Outcome (Unit {0}) = cond b (Failed (TooDeep n) s) (cond c (Failed (TooManyNodes o) s) (Found tt m)) in outcome ≡ Failed e s'
    → MayStop (Unit {0}) limited e × (s.rest ≡ s'.rest)
stopped true c limited s m s' n o e deep many is =
    let fault : TooDeep n ≡ e = cc in
    let same : s ≡ s' = cc in
    (subst (MayStop (Unit {0}) limited) fault (deep refl), ap (λ (v : State). v.rest) same)
stopped false true limited s m s' n o e deep many is =
    let fault : TooManyNodes o ≡ e = cc in
    let same : s ≡ s' = cc in
    (subst (MayStop (Unit {0}) limited) fault (many refl), ap (λ (v : State). v.rest) same)
stopped false false limited s m s' n o e deep many is = absurd cc

pub silent_above : (place height : ℕ) → IsSilent (node_above place height)
silent_above place height = record {
  keeps = λ s s' rest e. let c = passed _ _ s _ s' _ _ e in rw (c.0, c.1) (ap (λ (m : State). Found tt (at m rest)) c.2);
  stays = λ s s' e. let c = passed _ _ s _ s' _ _ e in (ap (λ (m : State). m.rest) (sym c.2), ap (λ (m : State). m.before) (sym c.2), ap (λ (m : State). m.limited) (sym c.2));
  fails = λ s s' e is. stopped _ _ s.limited s _ s' _ _ e (λ deep. (and_parts s.limited _ deep).0) (λ many. (and_parts s.limited _ many).0) is;
}

pub silent_grow : (place : ℕ) → IsSilent (grow place)
unfolding grow
silent_grow place = silent_above place 0

pub silent_wrap : (place : ℕ) → IsSilent (wrap place)
unfolding wrap
silent_wrap place = record {
  keeps = λ s s' rest e. (silent_above place s.height).keeps s s' rest e;
  stays = λ s s' e. (silent_above place s.height).stays s s' e;
  fails = λ s s' e is. (silent_above place s.height).fails s s' e is;
}

pub silent_pure : IsSilent (pure tt)
silent_pure = record {
  keeps = λ s s' rest e. ap (λ (m : State). Found tt (at m rest)) (parts_found tt tt s s' e).1;
  stays = λ s s' e. let is = (parts_found tt tt s s' e).1 in (ap (λ (m : State). m.rest) (sym is), ap (λ (m : State). m.before) (sym is), ap (λ (m : State). m.limited) (sym is));
  fails = λ s s' fault e. absurd cc;
}

-- A silent step is silent beside what was read last.
module _ (q : Reader (Unit {0})) (silent : IsSilent q) where
  abbrev inside : State → State
  inside s = record s { depth = s.depth }

  abbrev left_of : ℕ → State → State
  left_of height m = record m { depth = m.depth; height = max height m.height }

  abbrev read_beside : Reader (Unit {0})
  read_beside s = and_then (q (inside s)) (λ u m. Found u (left_of s.height m))

  beside_found : (s s' : State) → read_beside s ≡ Found tt s' → (m : State) × (q (inside s) ≡ Found tt m) × (left_of s.height m ≡ s')
  beside_found s s' e =
      let c = bind_found (q (inside s)) (λ u m. Found u (left_of s.height m)) tt s' e in
      (c.1, c.2, (parts_found c.0 tt (left_of s.height c.1) s' c.3).1)

  beside_fails : (s s' : State) (fault : ParseFault) → read_beside s ≡ Failed fault s' → q (inside s) ≡ Failed fault s'
  beside_fails s s' fault e =
      elim (bind_refused (q (inside s)) (λ u m. Found u (left_of s.height m)) fault s' e) [
        | inl c ↦ c
        | inr c ↦ absurd cc
      ]

  pub silent_beside : IsSilent (beside q)
  unfolding beside
  silent_beside = record {
    keeps = λ s s' rest e.
        let c = beside_found s s' e in
        ap (λ (o : Outcome (Unit {0})). and_then o (λ u m. Found u (left_of s.height m))) (silent.keeps (inside s) c.0 rest c.1)
        ∙ ap (λ (m : State). Found tt (at m rest)) c.2;
    stays = λ s s' e.
        let c = beside_found s s' e in
        let stays = silent.stays (inside s) c.0 c.1 in
        (ap (λ (m : State). m.rest) (sym c.2) ∙ stays.0, ap (λ (m : State). m.before) (sym c.2) ∙ stays.1, ap (λ (m : State). m.limited) (sym c.2) ∙ stays.2);
    fails = λ s s' fault e. silent.fails (inside s) s' fault (beside_fails s s' fault e);
  }

-- ---- at another depth

module _ {effort : Effort} {A : Type 0} {Pre : List Token → Type 0} {R C : Form A} {g : Test} (into back : ℕ → ℕ) (above : ℕ → ℕ → ℕ) (p : Reader A) (ep : Exact effort Pre R C g p) where
  abbrev now : Reader A
  now = around into back above p

  abbrev entered : State → State
  entered s = record s { depth = into s.depth }

  abbrev left : ℕ → State → State
  left height m = record m { depth = back m.depth; height = above height m.height }

  around-found : (s : State) (x : A) (s' : State) → Pre s.rest → now s ≡ Found x s' → Finds R now s x s'
  around-found s x s' pre e =
      let b = bind_found (p (entered s)) (λ y m. Found y (left s.height m)) x s' e in
      let F = ep.found (entered s) b.0 b.1 pre b.2 in
      let r = parts_found b.0 x (left s.height b.1) s' b.3 in
      let rests : b.1.rest ≡ s'.rest = ap (λ (m : State). m.rest) r.1 in
      record {
        front = F.front;
        parts = F.parts ∙ ap (λ (t : List Token). F.front ++ t) rests;
        ends = sym (ap (λ (m : State). m.before) r.1) ∙ F.ends;
        spelled = subst (λ v. R F.front v) r.0 F.spelled;
        again = λ rest same.
            ap (λ (o : Outcome A). and_then o (λ y m. Found y (left s.height m))) (F.again rest (same ∙ ap head (sym rests)))
            ∙ ap (λ (m : State). Found b.0 (at m rest)) r.1 ∙ ap (λ v. Found v (at s' rest)) r.0;
      }

  around-refused : (s : State) (n : ℕ) (s' : State) → Pre s.rest → now s ≡ Failed (Unexpected n) s' → Refuses R now s n s'
  around-refused s n s' pre e =
      elim (bind_refused (p (entered s)) (λ y m. Found y (left s.height m)) (Unexpected n) s' e) [
        | inl b ↦
            let F = ep.refused (entered s) n s' pre b in
            record {
              front = F.front;
              parts = F.parts;
              place = F.place;
              more = F.more;
              value = F.value;
              begins = F.begins;
              again = λ rest same. ap (λ (o : Outcome A). and_then o (λ y m. Found y (left s.height m))) (F.again rest same);
            }
        | inr b ↦ absurd cc
      ]

  around-begun : (s : State) (e : ParseFault) (s' : State) → Pre s.rest → now s ≡ Failed e s' → Begins R s s'
  around-begun s e s' pre failed =
      elim (bind_refused (p (entered s)) (λ y m. Found y (left s.height m)) e s' failed) [
        | inl b ↦ let F = ep.begun (entered s) e s' pre b in record { front = F.front; parts = F.parts; begins = F.begins }
        | inr b ↦ absurd cc
      ]

  around_ends : (o : Outcome A) (height : ℕ) (enough : Type 0) (x : A) (before : TokenLook) (rest : List Token) (limited : Bool)
      → Ends enough o x before rest limited → Ends enough (and_then o (λ y m. Found y (left height m))) x before rest limited
  around_ends (Found y m) height enough x before rest limited e = e
  around_ends (Failed d m) height enough x before rest limited e = e

  around_reaches : (o : Outcome A) (height : ℕ) (x : A) (rest : List Token) → Reaches o x rest → Reaches (and_then o (λ y m. Found y (left height m))) x rest
  around_reaches (Found y m) height x rest r = r
  around_reaches (Failed (Unexpected n) m) height x rest r = r
  around_reaches (Failed (TooDeep n) m) height x rest r = tt
  around_reaches (Failed (TooManyNodes n) m) height x rest r = tt
  around_reaches (Failed NoMemory m) height x rest r = tt

  pub exact_around : Exact effort Pre R C g now
  exact_around = record {
    found = around-found;
    refused = around-refused;
    begun = around-begun;
    complete = λ w x s rest pre c e stop. around_ends (p (entered s)) s.height _ x _ rest _ (ep.complete w x (entered s) rest pre c e stop);
    reaches = λ w x s rest pre c e clear. around_reaches (p (entered s)) s.height x rest (ep.reaches w x (entered s) rest pre c e clear);
  }

pub exact_part : {effort : Effort} {A : Type 0} {Pre : List Token → Type 0} {R C : Form A} {g : Test} (p : Reader A) → Exact effort Pre R C g p → Exact effort Pre R C g (part p)
unfolding part
exact_part p ep = exact_around deeper shallower above_part p ep

pub exact_beside : {effort : Effort} {A : Type 0} {Pre : List Token → Type 0} {R C : Form A} {g : Test} (p : Reader A) → Exact effort Pre R C g p → Exact effort Pre R C g (beside p)
unfolding beside
exact_beside p ep = exact_around unchanged unchanged max p ep

-- ---- the look of the last token

last_is : (before : TokenLook) (w : List Token) → (w ≡ [] → ⊥) → last_from before w ≡ last_look w
last_is before [] some = absurd (some refl)
last_is before (t ∷ []) some = refl
last_is before (t ∷ u ∷ ts) some = last_is (look_of t.kind) (u ∷ ts) (λ e. cc)

module _ {effort : Effort} {A : Type 0} {Pre : List Token → Type 0} {R C : Form A} {g : Test} (p : Reader A) (ep : Exact effort Pre R C g p)
    (real : (w : List Token) (x : A) → R w x → w ≡ [] → ⊥) (sure : (w : List Token) (x : A) → C w x → w ≡ [] → ⊥) where
  abbrev both : Reader (A × TokenLook)
  both = p >>= λ x. last >>= λ look. pure (x, look)

  last-found : (s : State) (x : A × TokenLook) (s' : State) → Pre s.rest → both s ≡ Found x s' → Finds (with_last R) both s x s'
  last-found s x s' pre e =
      let b = bind_found (p s) (λ y. last >>= λ look. pure (y, look)) x s' e in
      let F = ep.found s b.0 b.1 pre b.2 in
      let r = parts_found (b.0, b.1.before) x b.1 s' b.3 in
      let rests : b.1.rest ≡ s'.rest = ap (λ (m : State). m.rest) r.1 in
      record {
        front = F.front;
        parts = F.parts ∙ ap (λ (t : List Token). F.front ++ t) rests;
        ends = sym (ap (λ (m : State). m.before) r.1) ∙ F.ends;
        spelled = subst (λ v. with_last R F.front v) r.0 (F.spelled, F.ends ∙ last_is s.before F.front (real F.front b.0 F.spelled));
        again = λ rest same.
            ap (λ (o : Outcome A). and_then o (λ y. last >>= λ look. pure (y, look))) (F.again rest (same ∙ ap head (sym rests)))
            ∙ ap (λ (m : State). Found (b.0, b.1.before) (at m rest)) r.1 ∙ ap (λ v. Found v (at s' rest)) r.0;
      }

  last-refused : (s : State) (n : ℕ) (s' : State) → Pre s.rest → both s ≡ Failed (Unexpected n) s' → Refuses (with_last R) both s n s'
  last-refused s n s' pre e =
      elim (bind_refused (p s) (λ y. last >>= λ look. pure (y, look)) (Unexpected n) s' e) [
        | inl b ↦
            let F = ep.refused s n s' pre b in
            record {
              front = F.front;
              parts = F.parts;
              place = F.place;
              more = F.more;
              value = (F.value, last_look (F.front ++ F.more));
              begins = (F.begins, refl);
              again = λ rest same. ap (λ (o : Outcome A). and_then o (λ y. last >>= λ look. pure (y, look))) (F.again rest same);
            }
        | inr b ↦ absurd cc
      ]

  last-begun : (s : State) (e : ParseFault) (s' : State) → Pre s.rest → both s ≡ Failed e s' → Begins (with_last R) s s'
  last-begun s e s' pre failed =
      elim (bind_refused (p s) (λ y. last >>= λ look. pure (y, look)) e s' failed) [
        | inl b ↦
            let F = ep.begun s e s' pre b in
            record {
              front = F.front;
              parts = F.parts;
              begins = λ some. let B = F.begins some in (B.0, (B.1, last_look (F.front ++ B.0)), (B.2, refl));
            }
        | inr b ↦ absurd cc
      ]

  last_ends : (o : Outcome A) (enough : Type 0) (x : A × TokenLook) (before : TokenLook) (rest : List Token) (limited : Bool) → before ≡ x.1
      → Ends enough o x.0 before rest limited → Ends enough (and_then o (λ y. last >>= λ look. pure (y, look))) x before rest limited
  last_ends (Found y m) enough x before rest limited is e = (λ i. (e.0 i, (e.1 ∙ is) i), e.1, e.2, e.3)
  last_ends (Failed d m) enough x before rest limited is e = e

  last-complete : (w : List Token) (x : A × TokenLook) (s : State) (rest : List Token) → Pre s.rest → with_last C w x → s.rest ≡ w ++ rest → Stops g rest
      → Ends (Enough effort s) (both s) x (last_from s.before w) rest s.limited
  last-complete w x s rest pre c e stop =
      last_ends (p s) (Enough effort s) x (last_from s.before w) rest s.limited (last_is s.before w (sure w x.0 c.0) ∙ sym c.1) (ep.complete w x.0 s rest pre c.0 e stop)

  -- where p ends before this
  last_front : (w : List Token) (s m : State) (y : A) (rest : List Token) → Pre s.rest → p s ≡ Found y m → s.rest ≡ w ++ rest → m.rest ≡ rest → m.before ≡ last_from s.before w
  last_front w s m y rest pre is e same =
      let F = ep.found s y m pre is in
      let front : F.front ≡ w = append_cancel_right F.front w rest (ap (λ (t : List Token). F.front ++ t) (sym same) ∙ sym F.parts ∙ e) in
      F.ends ∙ ap (λ v. last_from s.before v) front

  last_reaches : (o : Outcome A) (x : A × TokenLook) (rest : List Token) → ((y : A) (m : State) → o ≡ Found y m → m.rest ≡ rest → m.before ≡ x.1)
      → Reaches o x.0 rest → Reaches (and_then o (λ y. last >>= λ look. pure (y, look))) x rest
  last_reaches (Found y m) x rest is (inl less) = inl less
  last_reaches (Found y m) x rest is (inr ends) = inr (ends.0, λ i. (ends.1 i, (is y m refl ends.0) i))
  last_reaches (Failed (Unexpected n) m) x rest is r = r
  last_reaches (Failed (TooDeep n) m) x rest is r = tt
  last_reaches (Failed (TooManyNodes n) m) x rest is r = tt
  last_reaches (Failed NoMemory m) x rest is r = tt

  last-reaches : (w : List Token) (x : A × TokenLook) (s : State) (rest : List Token) → Pre s.rest → with_last C w x → s.rest ≡ w ++ rest → Clear rest → Reaches (both s) x rest
  last-reaches w x s rest pre c e clear =
      last_reaches (p s) x rest (λ y m is same. last_front w s m y rest pre is e same ∙ last_is s.before w (sure w x.0 c.0) ∙ sym c.1) (ep.reaches w x.0 s rest pre c.0 e clear)

  pub exact_last : Exact effort Pre (with_last R) (with_last C) g both
  exact_last = record { found = last-found; refused = last-refused; begun = last-begun; complete = last-complete; reaches = last-reaches }
