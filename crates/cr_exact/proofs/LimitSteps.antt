-- What is counted with a token, with a part, and beside what was read last.
use Rattle.std.proofs.Common.{◌≡◌, ℕ, ◌+◌, ◌≤◌, max, Bool, true, false, cond, ◌&&◌, nat_le, List, [], ◌∷◌, ◌++◌, Option, Some, None, ◌⊎◌, inl, inr, refl, sym, ap, subst, ◌∙◌, arith}
use Rattle.std.proofs.lemmas.Bool.{and_parts, leb-false, leb-true}
use Rattle.cr_syntax.specs.declared.token.Token.{Token}
use Rattle.cr_syntax.specs.Look.{look_of}
use Rattle.cr_grammar.specs.Forms.{Form, one}
use Rattle.cr_grammar.specs.Forms as f
use Rattle.cr_readers.specs.declared.fault.ParseFault.{ParseFault}
use Rattle.cr_readers.specs.declared.fault.ParseFault.TheVariants.{Unexpected, TooDeep, TooManyNodes, NoMemory}
use Rattle.cr_readers.specs.Reader.{State, Outcome, Found, Failed, Reader, ◌>>=◌, ◌>>◌, Test, read_by, next, look_at, taken, take, max_nesting, max_nodes, node_above, grow, wrap, around, deeper, shallower, above_part, unchanged, part, beside}
use Rattle.cr_exact.specs.Exact.{at, Stops, Effort, Exact, Any}
use Rattle.cr_exact.specs.Limits.{Tally, known, unknown, Counted, limit_at, Beyond, last_place, Halts, Counts, Second, Adds, Marks}
use Rattle.cr_exact.proofs.Sequence.{bind_found, bind_refused, parts_found}
use Rattle.cr_exact.proofs.Tokens.{not_found}
use Rattle.cr_exact.proofs.Limits.{at_most, beyond_more, counts_bind_by, counts_silent, still_take}

-- ---- a node

both_false : (limited le : Bool) → limited ≡ true → limited && le ≡ false → le ≡ false
both_false true le is e = e
both_false false le is e = absurd cc

above_found : (b c : Bool) (place : ℕ) (s m s' : State)
    → let outcome : Outcome (Unit {0}) = cond b (Failed (TooDeep place) s) (cond c (Failed (TooManyNodes place) s) (Found tt m)) in outcome ≡ Found tt s'
    → (b ≡ false) × (c ≡ false) × (m ≡ s')
above_found true c place s m s' e = absurd cc
above_found false true place s m s' e = absurd cc
above_found false false place s m s' e = (refl, refl, cc)

is_fault : (d e : ParseFault) (s s' : State) → let failed : ParseFault → State → Outcome (Unit {0}) = Failed in failed d s ≡ failed e s' → (d ≡ e) × (s ≡ s')
is_fault d e s s' is = (cc, cc)

same_place : (n place : ℕ) → let some : ℕ → Option ℕ = Some in some place ≡ some n → place ≡ n
same_place n place e = cc

above_failed : (b c : Bool) (place : ℕ) (s m : State) (e : ParseFault) (n : ℕ) (s' : State)
    → let outcome : Outcome (Unit {0}) = cond b (Failed (TooDeep place) s) (cond c (Failed (TooManyNodes place) s) (Found tt m)) in outcome ≡ Failed e s'
    → limit_at e ≡ Some n → (place ≡ n) × (s ≡ s') × (((b ≡ true) × (TooDeep place ≡ e)) ⊎ ((c ≡ true) × (TooManyNodes place ≡ e)))
above_failed true c place s m e n s' failed limit =
    let is = is_fault (TooDeep place) e s s' failed in (same_place n place (ap limit_at is.0 ∙ limit), is.1, inl (refl, is.0))
above_failed false true place s m e n s' failed limit =
    let is = is_fault (TooManyNodes place) e s s' failed in (same_place n place (ap limit_at is.0 ∙ limit), is.1, inr (refl, is.0))
above_failed false false place s m e n s' failed limit = absurd cc

above_counts : (nodes height place : ℕ) (old : Option ℕ) (s s' : State) → Counted (record { nodes = nodes; height = old }) s → node_above place height s ≡ Found tt s'
    → Counted (known (nodes + 1) (height + 1)) s' × (s'.depth ≡ s.depth) × (s'.rest ≡ s.rest)
above_counts nodes height place old s s' counted e =
    let m : State = record s { nodes = s.nodes + 1; height = height + 1 } in
    let is = above_found (s.limited && nat_le max_nesting (s.depth + height)) (s.limited && nat_le max_nodes s.nodes) place s m s' e in
    let deep = leb-false max_nesting (s.depth + height) (both_false s.limited (nat_le max_nesting (s.depth + height)) counted.limited is.0) in
    let many = leb-false max_nodes s.nodes (both_false s.limited (nat_le max_nodes s.nodes) counted.limited is.1) in
    let here : Counted (known (nodes + 1) (height + 1)) m = record {
      limited = counted.limited;
      shallow = counted.shallow;
      nodes = ap (λ v. v + 1) counted.nodes;
      few = omega (arith, many, counted.nodes);
      high = (refl, omega arith, omega (arith, deep));
    } in
    (subst (Counted (known (nodes + 1) (height + 1))) is.2 here, ap (λ (v : State). v.depth) (sym is.2), ap (λ (v : State). v.rest) (sym is.2))

above_stops : (nodes height place : ℕ) (old : Option ℕ) (s : State) (e : ParseFault) (n : ℕ) (s' : State) → Counted (record { nodes = nodes; height = old }) s → node_above place height s ≡ Failed e s'
    → limit_at e ≡ Some n → (place ≡ n) × (s.rest ≡ s'.rest) × Beyond e s.depth (known (nodes + 1) (height + 1))
above_stops nodes height place old s e n s' counted failed limit =
    let is = above_failed (s.limited && nat_le max_nesting (s.depth + height)) (s.limited && nat_le max_nodes s.nodes) place s (record s { nodes = s.nodes + 1; height = height + 1 }) e n s' failed limit in
    let beyond : Beyond e s.depth (known (nodes + 1) (height + 1)) = elim is.2 [
      | inl deep ↦
          let le = leb-true max_nesting (s.depth + height) (and_parts s.limited _ deep.0).1 in
          subst (λ v. Beyond v s.depth (known (nodes + 1) (height + 1))) deep.1 (omega (arith, le))
      | inr many ↦
          let le = leb-true max_nodes s.nodes (and_parts s.limited _ many.0).1 in
          subst (λ v. Beyond v s.depth (known (nodes + 1) (height + 1))) many.1 (omega (arith, le, counted.nodes))
    ] in
    (is.0, ap (λ (v : State). v.rest) is.1, beyond)

pub adds_grow : (nodes place : ℕ) → Adds (unknown nodes) (known (nodes + 1) 1) place (grow place)
unfolding grow
adds_grow nodes place = record {
  grows = (omega arith, omega arith);
  found = λ s s' counted e. above_counts nodes 0 place None s s' counted e;
  stopped = λ s e n s' counted failed limit. above_stops nodes 0 place None s e n s' counted failed limit;
}

pub adds_wrap : (nodes height place : ℕ) → Adds (known nodes height) (known (nodes + 1) (height + 1)) place (wrap place)
unfolding wrap
adds_wrap nodes height place = record {
  grows = (omega arith, omega arith);
  found = λ s s' counted e. above_counts nodes height place (Some height) s s' counted (ap (λ h. node_above place h s) (sym counted.high.0) ∙ e);
  stopped = λ s e n s' counted failed limit. above_stops nodes height place (Some height) s e n s' counted (ap (λ h. node_above place h s) (sym counted.high.0) ∙ failed) limit;
}

-- ---- a token and its node

pub second_node : {A : Type 0} {C : Form A} {g : Test} {from top : Tally} {to : A → Tally} {q : Reader (Unit {0})} {r : Reader A} (place : ℕ)
    → Adds from top place q → Counts Any C g top to r → Second C g from to (Some place) (q >> r)
second_node {A = A} {C = C} {g = g} {from = from} {top = top} {to = to} {q = q} {r = r} place aq cr = record {
  grows = λ w x c. at_most from top (to x) aq.grows (cr.grows w x c);
  found = λ s x s'' is e.
      let b = bind_found (q s) (λ _. r) x s'' e in
      let Q = aq.found s b.1 is b.2 in
      let F = cr.found b.1 x s'' tt Q.0 b.3 in
      (F.0, F.1 ∙ Q.1);
  stopped = stops;
} where
  stops : (s : State) (e : ParseFault) (n : ℕ) (s' : State) → Counted from s → (q >> r) s ≡ Failed e s' → limit_at e ≡ Some n
      → Halts C g to s e n s' ⊎ ((Some place ≡ Some n) × (s.rest ≡ s'.rest) × ((w : List Token) (y : A) → C w y → Beyond e s.depth (to y)))
  stops s e n s' is failed limit =
      elim (bind_refused (q s) (λ _. r) e s' failed) [
        | inl b ↦
            let Q = aq.stopped s e n s' is b limit in
            inr (ap Some Q.0, Q.1, λ w y c. beyond_more e s.depth top (to y) (cr.grows w y c) Q.2)
        | inr b ↦
            let Q = aq.found s b.1 is b.2 in
            let H = cr.stopped b.1 e n s' tt Q.0 b.3 limit in
            inl (record {
              front = H.front;
              some = H.some;
              parts = sym Q.2 ∙ H.parts;
              place = H.place;
              beyond = λ w rest more y c whole next stop. subst (λ v. Beyond e v (to y)) Q.1 (H.beyond w rest more y c whole next stop);
            })
      ]

taken_again : {A : Type 0} (f : Token → Option A) (t : Token) (ts more : List Token) (o : Option A) (s : State) (x : A) (s' : State)
    → f t ≡ o → s.rest ≡ t ∷ ts → taken o s ≡ Found x s' → taken (f t) (at s (t ∷ more)) ≡ Found x (at s' more)
unfolding next
taken_again f t ts more None s x s' is rest e = absurd (not_found s x s' e)
taken_again f t ts more (Some y) s x s' is rest e =
    let r = parts_found y x (next s) s' e in
    let before : look_of t.kind ≡ s'.before = sym (ap look_at rest) ∙ ap (λ (m : State). m.before) r.1 in
    ap (λ v. taken v (at s (t ∷ more))) is
    ∙ ap (λ v. Found y (record (next s) { before = v; rest = more })) (sym (ap look_at rest))
    ∙ ap (λ (m : State). Found y (at m more)) r.1 ∙ ap (λ v. Found v (at s' more)) r.0

-- Of a token its own place is known.
pub marks_take : {A : Type 0} (P : Token → A → Type 0) (f : Token → Option A) (x : A) (place : ℕ) → ((t : Token) → P t x → t.span.first ≡ place) → Marks (one P) (take f) x place
marks_take P f x place is = record {
  placed = λ w r. ap last_place r.1 ∙ is r.0 r.2;
  some = λ w r e. absurd (let both : r.0 ∷ [] ≡ [] = sym r.1 ∙ e in cc);
  firm = λ s s' front more e parts r.
      let whole : s.rest ≡ r.0 ∷ s'.rest = parts ∙ ap (λ (t : List Token). t ++ s'.rest) r.1 in
      ap (λ (t : List Token). take f (at s (t ++ more))) r.1
      ∙ taken_again f r.0 s'.rest more (f r.0) s x s' refl whole (ap (λ v. taken v s) (sym (ap (read_by f) whole)) ∙ e);
}

marks_at : {A : Type 0} {R : Form A} {p : Reader A} {x : A} (place n : ℕ) → Marks R p x place → let some : ℕ → Option ℕ = Some in some place ≡ some n → Marks R p x n
marks_at {R = R} {p = p} {x = x} place n marks e = subst (Marks R p x) (same_place n place e) marks

-- a token, the node that it makes, and what follows
module _ {effort : Effort} {A B : Type 0} {P : Token → A → Type 0} {C : Form A} {g : Test} {read : Token → Option A} (D : A → Form B) (h : Test) (place : A → ℕ) (r : A → Reader B) (to : B → Tally)
    (is : (t : Token) (x : A) → P t x → t.span.first ≡ place x) (ep : Exact effort Any (one P) C g (take read))
    (follows : (x : A) (b : List Token) (y : B) (rest : List Token) → D x b y → Stops h rest → Stops g (b ++ rest)) where
  -- a node of its own
  pub counts_grown : (nodes : ℕ) → ((x : A) → Counts Any (D x) h (known (nodes + 1) 1) to (r x))
      → Counts Any (f.◌>>=◌ C D) h (unknown nodes) to (take read >>= λ x. grow (place x) >> r x)
  counts_grown nodes cr =
      counts_bind_by D h (λ x. grow (place x) >> r x) to (λ x. Some (place x)) ep (counts_silent C g (unknown nodes) (still_take read))
      (λ x. second_node (place x) (adds_grow nodes (place x)) (cr x))
      (λ x n e. marks_at (place x) n (marks_take P read x (place x) (λ t. is t x)) e)
      follows

  -- a node above what was read last
  pub counts_wrapped : (nodes height : ℕ) → ((x : A) → Counts Any (D x) h (known (nodes + 1) (height + 1)) to (r x))
      → Counts Any (f.◌>>=◌ C D) h (known nodes height) to (take read >>= λ x. wrap (place x) >> r x)
  counts_wrapped nodes height cr =
      counts_bind_by D h (λ x. wrap (place x) >> r x) to (λ x. Some (place x)) ep (counts_silent C g (known nodes height) (still_take read))
      (λ x. second_node (place x) (adds_wrap nodes height (place x)) (cr x))
      (λ x n e. marks_at (place x) n (marks_take P read x (place x) (λ t. is t x)) e)
      follows

-- ---- at another depth

abbrev entered : (ℕ → ℕ) → State → State
entered into s = record s { depth = into s.depth }

abbrev left : (ℕ → ℕ) → (ℕ → ℕ → ℕ) → ℕ → State → State
left back above height m = record m { depth = back m.depth; height = above height m.height }

around_found : {A : Type 0} (into back : ℕ → ℕ) (above : ℕ → ℕ → ℕ) (p : Reader A) (s : State) (x : A) (s' : State) → around into back above p s ≡ Found x s'
    → (m : State) × (p (entered into s) ≡ Found x m) × (left back above s.height m ≡ s')
around_found into back above p s x s' e =
    let b = bind_found (p (entered into s)) (λ y m. Found y (left back above s.height m)) x s' e in
    let r = parts_found b.0 x (left back above s.height b.1) s' b.3 in
    (b.1, b.2 ∙ ap (λ v. Found v b.1) r.0, r.1)

around_failed : {A : Type 0} (into back : ℕ → ℕ) (above : ℕ → ℕ → ℕ) (p : Reader A) (s : State) (e : ParseFault) (s' : State) → around into back above p s ≡ Failed e s' → p (entered into s) ≡ Failed e s'
around_failed into back above p s e s' failed =
    elim (bind_refused (p (entered into s)) (λ y m. Found y (left back above s.height m)) e s' failed) [
      | inl b ↦ b
      | inr b ↦ absurd cc
    ]

-- What is counted inside is counted outside.
module _ {A : Type 0} {Pre : List Token → Type 0} {C : Form A} {g : Test} (p : Reader A) (nodes : ℕ) (all high : A → ℕ)
    (cp : Counts Pre C g (unknown nodes) (λ x. known (all x) (high x)) p) (height : ℕ) where
  abbrev to_part : A → Tally
  to_part x = known (all x) (max height (high x + 1))

  abbrev to_beside : A → Tally
  to_beside x = known (all x) (max height (high x))

  inside : (s : State) (depth : ℕ) → depth ≤ max_nesting → Counted (known nodes height) s → Counted (unknown nodes) (record s { depth = depth })
  inside s depth low counted = record { limited = counted.limited; shallow = low; nodes = counted.nodes; few = counted.few; high = tt }

  one_deeper : (s : State) → Counted (known nodes height) s → (deeper s.depth ≡ s.depth + 1) × (s.depth + 1 ≤ max_nesting)
  one_deeper s counted = (omega (arith, counted.high.1, counted.high.2), omega (arith, counted.high.1, counted.high.2))

  part-counts : (s : State) (x : A) (s' : State) → Pre s.rest → Counted (known nodes height) s → around deeper shallower above_part p s ≡ Found x s' → Counted (to_part x) s' × (s'.depth ≡ s.depth)
  part-counts s x s' pre counted e =
      let b = around_found deeper shallower above_part p s x s' e in
      let D = one_deeper s counted in
      let F = cp.found (entered deeper s) x b.0 pre (inside s (deeper s.depth) (rw D.0 D.1) counted) b.1 in
      let back : shallower b.0.depth ≡ s.depth = omega (arith, F.1, D.0) in
      let high_is : above_part s.height b.0.height ≡ max height (high x + 1) = omega (arith, counted.high.0, F.0.high.0, F.0.high.2) in
      let here : Counted (to_part x) (left shallower above_part s.height b.0) = record {
        limited = F.0.limited;
        shallow = rw back counted.shallow;
        nodes = F.0.nodes;
        few = F.0.few;
        high = (high_is, omega (arith, counted.high.1), omega (arith, back, F.1, D.0, counted.high.2, F.0.high.2));
      } in
      (subst (Counted (to_part x)) b.2 here, ap (λ (v : State). v.depth) (sym b.2) ∙ back)

  beyond_part : (e : ParseFault) (s : State) (y : A) → Counted (known nodes height) s → Beyond e (deeper s.depth) (known (all y) (high y)) → Beyond e s.depth (to_part y)
  beyond_part (Unexpected n) s y counted b = b
  beyond_part (TooDeep n) s y counted b = omega (arith, b, (one_deeper s counted).0)
  beyond_part (TooManyNodes n) s y counted b = b
  beyond_part NoMemory s y counted b = b

  part-stops : (s : State) (e : ParseFault) (n : ℕ) (s' : State) → Pre s.rest → Counted (known nodes height) s → around deeper shallower above_part p s ≡ Failed e s' → limit_at e ≡ Some n
      → Halts C g to_part s e n s'
  part-stops s e n s' pre counted failed limit =
      let D = one_deeper s counted in
      let H = cp.stopped (entered deeper s) e n s' pre (inside s (deeper s.depth) (rw D.0 D.1) counted) (around_failed deeper shallower above_part p s e s' failed) limit in
      record {
        front = H.front;
        some = H.some;
        parts = H.parts;
        place = H.place;
        beyond = λ w rest more y c is next stop. beyond_part e s y counted (H.beyond w rest more y c is next stop);
      }

  pub counts_part : Counts Pre C g (known nodes height) to_part (part p)
  unfolding part
  counts_part = record {
    same = cp.same;
    grows = λ w x c. ((cp.grows w x c).0, omega arith);
    found = part-counts;
    stopped = part-stops;
  }

  beside-counts : (s : State) (x : A) (s' : State) → Pre s.rest → Counted (known nodes height) s → around unchanged unchanged max p s ≡ Found x s' → Counted (to_beside x) s' × (s'.depth ≡ s.depth)
  beside-counts s x s' pre counted e =
      let b = around_found unchanged unchanged max p s x s' e in
      let F = cp.found (entered unchanged s) x b.0 pre (inside s s.depth counted.shallow counted) b.1 in
      let high_is : max s.height b.0.height ≡ max height (high x) = omega (arith, counted.high.0, F.0.high.0) in
      let here : Counted (to_beside x) (left unchanged max s.height b.0) = record {
        limited = F.0.limited;
        shallow = F.0.shallow;
        nodes = F.0.nodes;
        few = F.0.few;
        high = (high_is, omega (arith, counted.high.1), omega (arith, F.1, counted.high.2, F.0.high.2));
      } in
      (subst (Counted (to_beside x)) b.2 here, ap (λ (v : State). v.depth) (sym b.2) ∙ F.1)

  beyond_beside : (e : ParseFault) (depth : ℕ) (y : A) → Beyond e depth (known (all y) (high y)) → Beyond e depth (to_beside y)
  beyond_beside e depth y b = beyond_more e depth (known (all y) (high y)) (to_beside y) (omega arith, omega arith) b

  beside-stops : (s : State) (e : ParseFault) (n : ℕ) (s' : State) → Pre s.rest → Counted (known nodes height) s → around unchanged unchanged max p s ≡ Failed e s' → limit_at e ≡ Some n
      → Halts C g to_beside s e n s'
  beside-stops s e n s' pre counted failed limit =
      let H = cp.stopped (entered unchanged s) e n s' pre (inside s s.depth counted.shallow counted) (around_failed unchanged unchanged max p s e s' failed) limit in
      record {
        front = H.front;
        some = H.some;
        parts = H.parts;
        place = H.place;
        beyond = λ w rest more y c is next stop. beyond_beside e s.depth y (H.beyond w rest more y c is next stop);
      }

  pub counts_beside : Counts Pre C g (known nodes height) to_beside (beside p)
  unfolding beside
  counts_beside = record {
    same = cp.same;
    grows = λ w x c. ((cp.grows w x c).0, omega arith);
    found = beside-counts;
    stopped = beside-stops;
  }

-- a step that counts a node, beside what was read last
pub adds_beside : (nodes all high height place : ℕ) (q : Reader (Unit {0})) → Adds (unknown nodes) (known all high) place q
    → Adds (known nodes height) (known all (max height high)) place (beside q)
unfolding beside
adds_beside nodes all high height place q aq = record {
  grows = (aq.grows.0, omega arith);
  found = counted;
  stopped = stops;
} where
  inner : (s : State) → Counted (known nodes height) s → Counted (unknown nodes) (entered unchanged s)
  inner s is = record { limited = is.limited; shallow = is.shallow; nodes = is.nodes; few = is.few; high = tt }

  counted : (s s' : State) → Counted (known nodes height) s → around unchanged unchanged max q s ≡ Found tt s' → Counted (known all (max height high)) s' × (s'.depth ≡ s.depth) × (s'.rest ≡ s.rest)
  counted s s' is e =
      let b = around_found unchanged unchanged max q s tt s' e in
      let F = aq.found (entered unchanged s) b.0 (inner s is) b.1 in
      let here : Counted (known all (max height high)) (left unchanged max s.height b.0) = record {
        limited = F.0.limited;
        shallow = F.0.shallow;
        nodes = F.0.nodes;
        few = F.0.few;
        high = (omega (arith, is.high.0, F.0.high.0), omega (arith, is.high.1), omega (arith, F.1, is.high.2, F.0.high.2));
      } in
      (subst (Counted (known all (max height high))) b.2 here, ap (λ (v : State). v.depth) (sym b.2) ∙ F.1, ap (λ (v : State). v.rest) (sym b.2) ∙ F.2)

  stops : (s : State) (e : ParseFault) (n : ℕ) (s' : State) → Counted (known nodes height) s → around unchanged unchanged max q s ≡ Failed e s' → limit_at e ≡ Some n
      → (place ≡ n) × (s.rest ≡ s'.rest) × Beyond e s.depth (known all (max height high))
  stops s e n s' is failed limit =
      let H = aq.stopped (entered unchanged s) e n s' (inner s is) (around_failed unchanged unchanged max q s e s' failed) limit in
      (H.0, H.1, beyond_more e s.depth (known all high) (known all (max height high)) (omega arith, omega arith) H.2)
