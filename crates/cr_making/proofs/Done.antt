-- What the code does, put together as what is made.
use Rattle.std.proofs.Common.{◌≡◌, ℕ, zero, suc, ◌+◌, add-one, subst, List, [], ◌∷◌, ◌++◌, length, reverse, refl, sym, ap, ◌∙◌, append_assoc}
use Rattle.std.proofs.lemmas.List.{append-nil}
use Rattle.std.specs.Prelude.{Result, OnOk, true, false}
use Rattle.cr_base.specs.declared.memory.NoMemory.{NoMemory}
use Rattle.cr_core.specs.declared.form.Form.{Form}
use Rattle.cr_core.specs.declared.form.ScopeId.{ScopeId}
use Rattle.cr_core.specs.declared.row.Event.{Event}
use Rattle.cr_core.specs.declared.row.Event.TheVariants.{Open, Close}
use Rattle.cr_core.specs.Core.{Core, none, node, one, ◌⊕◌, stream}
use Rattle.cr_making.specs.Naming.{State, Given, state_of, entered, entered_apart, left, settled}
use Rattle.cr_making.specs.Making.{Making, gives, placed, nothing, ◌▸◌, flipped, wrapped, leaf, using, scoped, apart, in_prelude, all, Ahead, nest}
use Rattle.cr_making.specs.Made.{closes, begun, Begins, Nests, Makes, Puts, Steps, Leaves, Turns, Enters, Rejoins, rejoined_to}
use Rattle.cr_making.specs.declared.maker.Maker.{Maker}
use Rattle.cr_making.specs.declared.naming.Apart.{Apart}
use Rattle.cr_making.specs.declared.naming.Opened.{Opened}

pub stream-join : (a b : Core) → stream (a ⊕ b) ≡ stream a ++ stream b
stream-join none b = refl
stream-join (node f at ps rest) b =
    ap (λ (es : List Event). Open f at ∷ (stream ps ++ (Close ∷ es))) (stream-join rest b)
    ∙ ap (λ (es : List Event). Open f at ∷ es) (sym (append_assoc (stream ps) (Close ∷ stream rest) (stream b)))

pub nothing_made : (s : Maker) → Makes nothing s s
unfolding nothing
nothing_made s = record { events = sym (append-nil s.events.items); state = refl }

-- a making goes on from an equal state
pub later_events : (k : Making) (s t : State) (es new : List Event) → s ≡ t → new ≡ es ++ stream (k s).value → new ≡ es ++ stream (k t).value
later_events k s t es new e h = h ∙ ap (λ (x : State). es ++ stream (k x).value) e

pub later_state : (k : Making) (s t u : State) → s ≡ t → u ≡ (k s).after → u ≡ (k t).after
later_state k s t u e h = h ∙ ap (λ (x : State). (k x).after) e

pub join_made : {m k : Making} {s0 s1 s2 : Maker} → Makes m s0 s1 → Makes k s1 s2 → Makes (m ▸ k) s0 s2
unfolding ◌▸◌
join_made {m} {k} {s0} {s1} {s2} a b =
    let first = m (state_of s0.naming) in
    let second = later_events k _ first.after s1.events.items s2.events.items a.state b.events in
    record {
      events = second
          ∙ ap (λ (es : List Event). es ++ stream (k first.after).value) a.events
          ∙ append_assoc s0.events.items (stream first.value) (stream (k first.after).value)
          ∙ ap (λ (es : List Event). s0.events.items ++ es) (sym (stream-join first.value (k first.after).value));
      state = later_state k _ first.after _ a.state b.state;
    }

pub wrap_made : {m : Making} {f : Form} {at : ℕ} {s0 s1 s2 s3 : Maker} → Begins f at s0 s1 → Makes m s1 s2 → Puts (Close ∷ []) s2 s3 → Makes (wrapped f at m) s0 s3
unfolding wrapped
wrap_made {m} {f} {at} {s0} {s1} {s2} {s3} o a c =
    let before = state_of s0.naming in
    let inside = m before in
    let middle = later_events m _ before s1.events.items s2.events.items o.state a.events in
    record {
      events = c.events
          ∙ ap (λ (es : List Event). es ++ Close ∷ []) (middle ∙ ap (λ (es : List Event). es ++ stream inside.value) o.events)
          ∙ append_assoc (s0.events.items ++ Open f (placed before at) ∷ []) (stream inside.value) (Close ∷ [])
          ∙ append_assoc s0.events.items (Open f (placed before at) ∷ []) (stream inside.value ++ Close ∷ []);
      state = c.state ∙ later_state m _ before _ o.state a.state;
    }

pub leaf_made : {f : Form} {at : ℕ} {s0 s1 s2 : Maker} → Begins f at s0 s1 → Puts (Close ∷ []) s1 s2 → Makes (leaf f at) s0 s2
leaf_made {f} {at} {s0} {s1} {s2} o c = wrap_made o (nothing_made s1) c

pub using_made : {A : Type 0} {step : State → Given A} {v : A} {s0 s1 s2 : Maker} (k : A → Making) → Steps step s0 v s1 → Makes (k v) s1 s2 → Makes (using step k) s0 s2
unfolding using
using_made {A} {step} {v} {s0} {s1} {s2} k a b =
    let given = step (state_of s0.naming) in
    record {
      events = b.events
          ∙ ap (λ (x : State). s1.events.items ++ stream (k v x).value) a.after
          ∙ ap (λ (x : A). s1.events.items ++ stream (k x given.after).value) a.is
          ∙ ap (λ (es : List Event). es ++ stream (k given.value given.after).value) a.events;
      state = b.state ∙ ap (λ (x : State). (k v x).after) a.after ∙ ap (λ (x : A). (k x given.after).after) a.is;
    }

from_using_events : {A : Type 0} {s0 s2 : Maker} (step : State → Given A) (k : A → Making) → Makes (using step k) s0 s2 → let given = step (state_of s0.naming) in s2.events.items ≡ s0.events.items ++ stream (k given.value given.after).value
unfolding using
from_using_events step k h = h.events

from_using_state : {A : Type 0} {s0 s2 : Maker} (step : State → Given A) (k : A → Making) → Makes (using step k) s0 s2 → let given = step (state_of s0.naming) in state_of s2.naming ≡ (k given.value given.after).after
unfolding using
from_using_state step k h = h.state

-- ---- closings

pub closes-suc : (n : ℕ) → closes (suc n) ≡ closes n ++ Close ∷ []
closes-suc zero = refl
closes-suc (suc n) = ap (λ (es : List Event). Close ∷ es) (closes-suc n)

closes-more : (n : ℕ) → closes (n + 1) ≡ closes n ++ Close ∷ []
closes-more n = ap closes (add-one n) ∙ closes-suc n

pub closed_none : (s : Maker) → Puts (closes 0) s s
closed_none s = record { events = sym (append-nil s.events.items); state = refl }

pub closed_more : (n : ℕ) {s0 s1 s2 : Maker} → Puts (closes n) s0 s1 → Puts (Close ∷ []) s1 s2 → Puts (closes (n + 1)) s0 s2
closed_more n {s0} {s1} {s2} a b = record {
  events = b.events ∙ ap (λ (es : List Event). es ++ Close ∷ []) a.events ∙ append_assoc s0.events.items (closes n) (Close ∷ []) ∙ ap (λ (es : List Event). s0.events.items ++ es) (sym (closes-more n));
  state = b.state ∙ a.state;
}

-- ---- all, one after the other

⊕-none : (a : Core) → a ⊕ none ≡ a
⊕-none none = refl
⊕-none (node f at ps rest) = ap (node f at ps) (⊕-none rest)

⊕-assoc : (a b c : Core) → (a ⊕ b) ⊕ c ≡ a ⊕ (b ⊕ c)
⊕-assoc none b c = refl
⊕-assoc (node f at ps rest) b c = ap (node f at ps) (⊕-assoc rest b c)

-- laws of makings: they are functions, so equal where they give the same in each state
pub ▸-none : (m : Making) → m ▸ nothing ≡ m
unfolding ◌▸◌ nothing
▸-none m = λ i s. gives (⊕-none (m s).value i) (m s).after

▸-none_left : (m : Making) → nothing ▸ m ≡ m
unfolding ◌▸◌ nothing
▸-none_left m = refl

pub ▸-assoc : (m k l : Making) → (m ▸ k) ▸ l ≡ m ▸ (k ▸ l)
unfolding ◌▸◌
▸-assoc m k l = λ i s. let a = m s in let b = k a.after in let c = l b.after in gives (⊕-assoc a.value b.value c.value i) c.after

all-more : (ms : List Making) (m : Making) → all (ms ++ m ∷ []) ≡ all ms ▸ m
all-more [] m = ▸-none m ∙ sym (▸-none_left m)
all-more (k ∷ ms) m = ap (λ (x : Making). k ▸ x) (all-more ms m) ∙ sym (▸-assoc k (all ms) m)

pub all_more : (ms : List Making) (m : Making) {s0 s1 s2 : Maker} → Makes (all ms) s0 s1 → Makes m s1 s2 → Makes (all (ms ++ m ∷ [])) s0 s2
all_more ms m {s0} {s1} {s2} a b = subst (λ (k : Making). Makes k s0 s2) (sym (all-more ms m)) (join_made a b)

-- ---- scopes, and the text of the prelude

pub scoped_made : {v : ScopeId} {s0 s1 s2 s3 : Maker} (k : ScopeId → Making) → Steps entered s0 v s1 → Makes (k v) s1 s2 → Leaves s2 s3 → Makes (scoped k) s0 s3
unfolding scoped
scoped_made {v} {s0} {s1} {s2} {s3} k a b c =
    let inner = using_made {step = entered} k a b in
    record {
      events = c.events ∙ from_using_events entered k inner;
      state = c.state ∙ ap left (from_using_state entered k inner);
    }

pub apart_made : {s0 s1 s2 s3 : Maker} (a : Apart) (k : ScopeId → Making) → Enters s0 a s1 → Makes (k a.number) s1 s2 → Rejoins a s2 s3 → Makes (apart k) s0 s3
unfolding apart
apart_made {s0} {s1} {s2} {s3} a k e m j =
    let given = entered_apart (state_of s0.naming) in
    let walk = later_events (k a.number) _ given.after s1.events.items s2.events.items e.naming.after m.events in
    let ends = later_state (k a.number) _ given.after _ e.naming.after m.state in
    record {
      events = j.events
          ∙ walk
          ∙ ap (λ (n : ScopeId). s1.events.items ++ stream (k n given.after).value) e.naming.number
          ∙ ap (λ (es : List Event). es ++ stream (k given.value given.after).value) e.events;
      state = j.state
          ∙ ap (rejoined_to a) (ends ∙ ap (λ (n : ScopeId). (k n given.after).after) e.naming.number)
          ∙ ap (λ (o : Opened). let b = (k given.value given.after).after in record b { scopes = settled b.inner b.scopes; inner = o; around = reverse a.around.items }) e.naming.inner
          ∙ ap (λ (os : List Opened). let b = (k given.value given.after).after in record b { scopes = settled b.inner b.scopes; inner = s0.naming.inner; around = reverse os }) e.naming.around;
    }

pub prelude_made : {m : Making} {s0 s1 s2 s3 : Maker} → Turns true s0 s1 → Makes m s1 s2 → Turns false s2 s3 → Makes (in_prelude m) s0 s3
unfolding in_prelude
prelude_made {m} {s0} {s1} {s2} {s3} t a b =
    let there = record (state_of s0.naming) { prelude = true } in
    record {
      events = b.events
          ∙ later_events m _ there s1.events.items s2.events.items t.state a.events
          ∙ ap (λ (es : List Event). es ++ stream (m there).value) t.events;
      state = b.state ∙ ap (λ (s : State). record s { prelude = false }) (later_state m _ there _ t.state a.state);
    }

-- the events set aside, the first in an empty place, the second behind those set aside, and then the first
pub flipped_made : (m k : Making) (s0 s1 s2 s3 s4 s5 : Maker) → s1.events.items ≡ [] → s1.naming ≡ s0.naming → Makes m s1 s2 → s3.events.items ≡ s0.events.items → s3.naming ≡ s2.naming → Makes k s3 s4 → Puts s2.events.items s4 s5 → Makes (flipped m k) s0 s5
unfolding flipped
flipped_made m k s0 s1 s2 s3 s4 s5 e1 n1 a e3 n3 b c =
    let first = m (state_of s0.naming) in
    let at1 : state_of s1.naming ≡ state_of s0.naming = ap state_of n1 in
    let ms : state_of s2.naming ≡ first.after = later_state m _ (state_of s0.naming) _ at1 a.state in
    let me : s2.events.items ≡ stream first.value = later_events m _ (state_of s0.naming) s1.events.items s2.events.items at1 a.events ∙ ap (λ (es : List Event). es ++ stream first.value) e1 in
    let at3 : state_of s3.naming ≡ first.after = ap state_of n3 ∙ ms in
    let second = k first.after in
    let ke : s4.events.items ≡ s0.events.items ++ stream second.value = later_events k _ first.after s3.events.items s4.events.items at3 b.events ∙ ap (λ (es : List Event). es ++ stream second.value) e3 in
    record {
      events = c.events
          ∙ ap (λ (es : List Event). es ++ s2.events.items) ke
          ∙ ap (λ (es : List Event). (s0.events.items ++ stream second.value) ++ es) me
          ∙ append_assoc s0.events.items (stream second.value) (stream first.value)
          ∙ ap (λ (es : List Event). s0.events.items ++ es) (sym (stream-join second.value first.value));
      state = c.state ∙ later_state k _ first.after _ at3 b.state;
    }

-- ---- nodes that nest to the right

pub nests_none : {f : Form} (s : Maker) → Nests f [] s s
nests_none s = record { events = sym (append-nil s.events.items); state = refl }

begun-more : (f : Form) (ms : List Ahead) (m : Ahead) (s : State)
    → ((begun f (ms ++ m ∷ []) s).value ≡ (begun f ms s).value ++ (Open f (placed (begun f ms s).after m.at) ∷ stream (m.made (begun f ms s).after).value)) × ((begun f (ms ++ m ∷ []) s).after ≡ (m.made (begun f ms s).after).after)
begun-more f [] m s = (ap (λ (es : List Event). Open f (placed s m.at) ∷ es) (append-nil (stream (m.made s).value)), refl)
begun-more f (k ∷ ms) m s =
    let a = k.made s in
    let b = begun f ms a.after in
    let more = begun-more f ms m a.after in (
      ap (λ (es : List Event). Open f (placed s k.at) ∷ (stream a.value ++ es)) more.0
          ∙ ap (λ (es : List Event). Open f (placed s k.at) ∷ es) (sym (append_assoc (stream a.value) b.value (Open f (placed b.after m.at) ∷ stream (m.made b.after).value))),
      more.1,
    )

pub nests_more : {f : Form} {s0 s1 s2 s3 : Maker} (ms : List Ahead) (m : Ahead) → Nests f ms s0 s1 → Begins f m.at s1 s2 → Makes m.made s2 s3 → Nests f (ms ++ m ∷ []) s0 s3
nests_more {f} {s0} {s1} {s2} {s3} ms m a o b =
    let more = begun-more f ms m (state_of s0.naming) in
    let before = begun f ms (state_of s0.naming) in
    let there : state_of s2.naming ≡ before.after = o.state ∙ a.state in
    let opened : List Event → State → List Event = λ es s. es ++ Open f (placed s m.at) ∷ [] in
    record {
      events = later_events m.made _ before.after s2.events.items s3.events.items there b.events
          ∙ ap (λ (es : List Event). es ++ stream (m.made before.after).value) (o.events ∙ ap (λ (es : List Event). opened es (state_of s1.naming)) a.events ∙ ap (opened (s0.events.items ++ before.value)) a.state)
          ∙ append_assoc (s0.events.items ++ before.value) (Open f (placed before.after m.at) ∷ []) (stream (m.made before.after).value)
          ∙ append_assoc s0.events.items before.value (Open f (placed before.after m.at) ∷ stream (m.made before.after).value)
          ∙ ap (λ (es : List Event). s0.events.items ++ es) (sym more.0);
      state = later_state m.made _ before.after _ there b.state ∙ sym more.1;
    }

nested : (f : Form) (ms : List Ahead) (last : Making) (s : State)
    → (stream (nest f ms last s).value ≡ (begun f ms s).value ++ (stream (last (begun f ms s).after).value ++ closes (length ms))) × ((nest f ms last s).after ≡ (last (begun f ms s).after).after)
unfolding wrapped ◌▸◌
nested f [] last s = (sym (append-nil (stream (last s).value)), refl)
nested f (m ∷ ms) last s =
    let a = m.made s in
    let inner = nested f ms last a.after in
    let b = begun f ms a.after in
    let tail = stream (last b.after).value in
    let end = closes (length ms) in
    let o = Open f (placed s m.at) in (
      ap (λ (es : List Event). o ∷ (es ++ Close ∷ [])) (stream-join a.value (nest f ms last a.after).value)
          ∙ ap (λ (es : List Event). o ∷ ((stream a.value ++ es) ++ Close ∷ [])) inner.0
          ∙ ap (λ (es : List Event). o ∷ es) (regroup (stream a.value) b.value tail end)
          ∙ ap (λ (es : List Event). o ∷ ((stream a.value ++ b.value) ++ (tail ++ es))) (sym (closes-suc (length ms))),
      inner.1,
    )
  where
    regroup : (x y z w : List Event) → (x ++ (y ++ (z ++ w))) ++ Close ∷ [] ≡ (x ++ y) ++ (z ++ (w ++ Close ∷ []))
    regroup x y z w = simp append_assoc

pub nest_made : {f : Form} {last : Making} {s0 s1 s2 s3 : Maker} (ms : List Ahead) → Nests f ms s0 s1 → Makes last s1 s2 → Puts (closes (length ms)) s2 s3 → Makes (nest f ms last) s0 s3
nest_made {f} {last} {s0} {s1} {s2} {s3} ms a b c =
    let whole = nested f ms last (state_of s0.naming) in
    let before = begun f ms (state_of s0.naming) in
    record {
      events = c.events
          ∙ ap (λ (es : List Event). es ++ closes (length ms)) (later_events last _ before.after s1.events.items s2.events.items a.state b.events ∙ ap (λ (es : List Event). es ++ stream (last before.after).value) a.events)
          ∙ append_assoc (s0.events.items ++ before.value) (stream (last before.after).value) (closes (length ms))
          ∙ append_assoc s0.events.items before.value (stream (last before.after).value ++ closes (length ms))
          ∙ ap (λ (es : List Event). s0.events.items ++ es) (sym whole.0);
      state = c.state ∙ later_state last _ before.after _ a.state b.state ∙ sym whole.1;
    }

-- ---- the same of what is equal

pub makes_as : {m k : Making} (r : Result (Unit {0}) NoMemory) (s0 s1 : Maker) → m ≡ k → OnOk r (Makes m s0 s1) → OnOk r (Makes k s0 s1)
makes_as {m} {k} r s0 s1 e h = subst (λ (x : Making). OnOk r (Makes x s0 s1)) e h

pub made_as : {m k : Making} {s0 s1 : Maker} → m ≡ k → Makes m s0 s1 → Makes k s0 s1
made_as {m} {k} {s0} {s1} e h = subst (λ (x : Making). Makes x s0 s1) e h

pub leaf_as : {f g : Form} {s0 s1 : Maker} (at : ℕ) → f ≡ g → Makes (leaf f at) s0 s1 → Makes (leaf g at) s0 s1
leaf_as {f} {g} {s0} {s1} at e h = subst (λ (x : Form). Makes (leaf x at) s0 s1) e h

pub begins_as : {f g : Form} {at : ℕ} {s0 s1 : Maker} → f ≡ g → Begins f at s0 s1 → Begins g at s0 s1
begins_as {f} {g} {at} {s0} {s1} e h = subst (λ (x : Form). Begins x at s0 s1) e h

pub puts_as : {es fs : List Event} {s0 s1 : Maker} → es ≡ fs → Puts es s0 s1 → Puts fs s0 s1
puts_as {es} {fs} {s0} {s1} e h = subst (λ (x : List Event). Puts x s0 s1) e h
