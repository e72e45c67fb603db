-- Nodes that nest to the left.
use Rattle.std.proofs.Common.{◌≡◌, ℕ, zero, suc, ◌+◌, ◌<◌, ◌≤◌, min, add-one, true, false, List, [], ◌∷◌, ◌++◌, length, get_or, take, refl, sym, ap, ◌∙◌, append_assoc, subst, arith}
use Rattle.std.proofs.lemmas.List.{append-nil, take_more}
use Rattle.cr_base.specs.declared.ids.NameId.{NameId}
use Rattle.cr_grammar.specs.declared.tree.Tree.{Tree}
use Rattle.cr_core.specs.declared.form.Form.{Form}
use Rattle.cr_core.specs.declared.form.Form.TheVariants as f
use Rattle.cr_core.specs.declared.row.Event.{Event}
use Rattle.cr_core.specs.declared.row.Event.TheVariants.{Open, Close}
use Rattle.cr_core.specs.Core.{stream}
use Rattle.cr_making.specs.declared.maker.Maker.{Maker}
use Rattle.cr_making.specs.Naming.{State, state_of}
use Rattle.cr_making.specs.Making.{Making, placed, wrapped, ◌▸◌, nest_left}
use Rattle.cr_making.specs.Made.{Makes, Puts, Begins}
use Rattle.cr_rewrite.specs.Left.{twice, times, followed, Opens, Follows}
use Rattle.cr_making.specs.Table.{part, parts}
use Rattle.cr_making.specs.Terms as t
use Rattle.cr_making.proofs.Done.{stream-join, later_events, later_state}

times-last : (n : ℕ) (e : Event) (es : List Event) → times n e ++ e ∷ es ≡ e ∷ (times n e ++ es)
times-last zero e es = refl
times-last (suc n) e es = ap (λ (xs : List Event). e ∷ xs) (times-last n e es)

-- the walk round such a nest, and the state behind it
left_walk : (f : Form) (at : ℕ) (first : Making) (ms : List Making) (s : State)
    → (stream (nest_left f at first ms s).value ≡ times (length ms) (Open f (placed s at)) ++ (stream (first s).value ++ (followed ms (first s).after).value))
    × ((nest_left f at first ms s).after ≡ (followed ms (first s).after).after)
unfolding wrapped ◌▸◌
left_walk f at first [] s = (sym (append-nil (stream (first s).value)), refl)
left_walk f at first (m ∷ ms) s =
    let a = first s in
    let b = m a.after in
    let o = Open f (placed s at) in
    let tail = (followed ms b.after).value in
    let deeper = left_walk f at (wrapped f at (first ▸ m)) ms s in (
      deeper.0
          ∙ ap (λ (es : List Event). times (length ms) o ++ (o ∷ ((es ++ Close ∷ []) ++ tail))) (stream-join a.value b.value)
          ∙ times-last (length ms) o (((stream a.value ++ stream b.value) ++ Close ∷ []) ++ tail)
          ∙ ap (λ (es : List Event). o ∷ (times (length ms) o ++ es)) (regroup (stream a.value) (stream b.value) tail),
      deeper.1,
    )
  where
    regroup : (x y z : List Event) → ((x ++ y) ++ Close ∷ []) ++ z ≡ x ++ (y ++ (Close ∷ z))
    regroup x y z = simp append_assoc

pub left_made : {f : Form} {at : ℕ} {first : Making} {s0 s1 s2 s3 : Maker} (ms : List Making) → Opens (length ms) f at s0 s1 → Makes first s1 s2 → Follows ms s2 s3 → Makes (nest_left f at first ms) s0 s3
left_made {f} {at} {first} {s0} {s1} {s2} {s3} ms o a b =
    let s = state_of s0.naming in
    let walk = left_walk f at first ms s in
    let opened = times (length ms) (Open f (placed s at)) in
    let there = first s in
    let behind : state_of s2.naming ≡ there.after = later_state first _ s _ o.state a.state in
    record {
      events = b.events
          ∙ ap (λ (x : State). s2.events.items ++ (followed ms x).value) behind
          ∙ ap (λ (es : List Event). es ++ (followed ms there.after).value) (later_events first _ s s1.events.items s2.events.items o.state a.events ∙ ap (λ (es : List Event). es ++ stream there.value) o.events)
          ∙ append_assoc (s0.events.items ++ opened) (stream there.value) (followed ms there.after).value
          ∙ append_assoc s0.events.items opened (stream there.value ++ (followed ms there.after).value)
          ∙ ap (λ (es : List Event). s0.events.items ++ es) (sym walk.0);
      state = b.state ∙ ap (λ (x : State). (followed ms x).after) behind ∙ sym walk.1;
    }

-- ---- loops, as far as they have come

pub opens_none : {f : Form} {at : ℕ} (s : Maker) → Opens 0 f at s s
opens_none s = record { events = sym (append-nil s.events.items); state = refl }

twice-more : (n : ℕ) → twice (n + 1) ≡ suc (suc (twice n))
twice-more n = ap twice (add-one n)

pub opens_more : {f : Form} {at : ℕ} {s0 s1 s2 s3 : Maker} (n : ℕ) → Opens (twice n) f at s0 s1 → Begins f at s1 s2 → Begins f at s2 s3 → Opens (twice (n + 1)) f at s0 s3
opens_more {f} {at} {s0} {s1} {s2} {s3} n a b c =
    let s = state_of s0.naming in
    let o : State → Event = λ x. Open f (placed x at) in
    record {
      events = c.events
          ∙ ap (λ (es : List Event). es ++ o (state_of s2.naming) ∷ []) (b.events ∙ ap (λ (es : List Event). es ++ o (state_of s1.naming) ∷ []) a.events)
          ∙ ap (λ (x : State). ((s0.events.items ++ times (twice n) (o s)) ++ o (state_of s1.naming) ∷ []) ++ o x ∷ []) (b.state ∙ a.state)
          ∙ ap (λ (x : State). ((s0.events.items ++ times (twice n) (o s)) ++ o x ∷ []) ++ o s ∷ []) a.state
          ∙ append_assoc (s0.events.items ++ times (twice n) (o s)) (o s ∷ []) (o s ∷ [])
          ∙ append_assoc s0.events.items (times (twice n) (o s)) (o s ∷ o s ∷ [])
          ∙ ap (λ (es : List Event). s0.events.items ++ es) (times-last (twice n) (o s) (o s ∷ []) ∙ ap (λ (es : List Event). o s ∷ es) (times-last (twice n) (o s) []) ∙ ap (λ (es : List Event). o s ∷ o s ∷ es) (append-nil (times (twice n) (o s))))
          ∙ ap (λ (k : ℕ). s0.events.items ++ times k (o s)) (sym (twice-more n));
      state = c.state ∙ b.state ∙ a.state;
    }

pub follows_none : (s : Maker) → Follows [] s s
follows_none s = record { events = sym (append-nil s.events.items); state = refl }

followed-more : (ms : List Making) (m : Making) (s : State)
    → ((followed (ms ++ m ∷ []) s).value ≡ (followed ms s).value ++ (stream (m (followed ms s).after).value ++ Close ∷ [])) × ((followed (ms ++ m ∷ []) s).after ≡ (m (followed ms s).after).after)
followed-more [] m s = (refl, refl)
followed-more (k ∷ ms) m s =
    let a = k s in
    let b = followed ms a.after in
    let more = followed-more ms m a.after in (
      ap (λ (es : List Event). stream a.value ++ (Close ∷ es)) more.0 ∙ sym (append_assoc (stream a.value) (Close ∷ b.value) (stream (m b.after).value ++ Close ∷ [])),
      more.1,
    )

pub follows_more : {s0 s1 s2 s3 : Maker} (ms : List Making) (m : Making) → Follows ms s0 s1 → Makes m s1 s2 → Puts (Close ∷ []) s2 s3 → Follows (ms ++ m ∷ []) s0 s3
follows_more {s0} {s1} {s2} {s3} ms m a b c =
    let before = followed ms (state_of s0.naming) in
    let more = followed-more ms m (state_of s0.naming) in
    record {
      events = c.events
          ∙ ap (λ (es : List Event). es ++ Close ∷ []) (later_events m _ before.after s1.events.items s2.events.items a.state b.events ∙ ap (λ (es : List Event). es ++ stream (m before.after).value) a.events)
          ∙ append_assoc (s0.events.items ++ before.value) (stream (m before.after).value) (Close ∷ [])
          ∙ append_assoc s0.events.items before.value (stream (m before.after).value ++ Close ∷ [])
          ∙ ap (λ (es : List Event). s0.events.items ++ es) (sym more.0);
      state = c.state ∙ later_state m _ before.after _ a.state b.state ∙ sym more.1;
    }

-- ---- the parts of a text

insertions_push : (at : ℕ) (to_s : NameId) (ts : List (List ℕ)) (es : List Tree) (x : List ℕ) (e : Tree) → length ts ≡ length es
    → t.insertions_with at to_s (ts ++ x ∷ []) (parts (es ++ e ∷ [])) ≡ (t.insertions_with at to_s ts (parts es) ++ t.insertion at to_s (part e) ∷ []) ++ t.text at x ∷ []
insertions_push at to_s [] [] x e same = refl
insertions_push at to_s [] (y ∷ es) x e same = absurd (omega arith)
insertions_push at to_s (u ∷ ts) [] x e same = absurd (omega arith)
insertions_push at to_s (u ∷ ts) (y ∷ es) x e same =
    ap (λ (ms : List Making). t.insertion at to_s (part y) ∷ t.text at u ∷ ms) (insertions_push at to_s ts es x e (omega arith))

lengths : (ts : List (List ℕ)) (es : List Tree) (i : ℕ) → i ≤ length ts → i ≤ length es → length (take i ts) ≡ length (take i es)
lengths ts es zero a b = refl
lengths [] es (suc i) a b = absurd (omega arith)
lengths (x ∷ ts) [] (suc i) a b = absurd (omega arith)
lengths (x ∷ ts) (e ∷ es) (suc i) a b = ap suc (lengths ts es i (omega arith) (omega arith))

insertions_more : (at : ℕ) (to_s : NameId) (ts : List (List ℕ)) (es : List Tree) (i : ℕ) (x : List ℕ) (e : Tree) → i < length ts → i < length es → x ≡ get_or ts i x → e ≡ get_or es i e
    → t.insertions_with at to_s (take (i + 1) ts) (parts (take (i + 1) es)) ≡ (t.insertions_with at to_s (take i ts) (parts (take i es)) ++ t.insertion at to_s (part e) ∷ []) ++ t.text at x ∷ []
insertions_more at to_s ts es i x e lt le xs is =
    ap (λ (us : List (List ℕ)). t.insertions_with at to_s us (parts (take (i + 1) es))) (take_more ts i x lt ∙ ap (λ (y : List ℕ). take i ts ++ y ∷ []) (sym xs))
    ∙ ap (λ (us : List Tree). t.insertions_with at to_s (take i ts ++ x ∷ []) (parts us)) (take_more es i e le ∙ ap (λ (y : Tree). take i es ++ y ∷ []) (sym is))
    ∙ insertions_push at to_s (take i ts) (take i es) x e (lengths ts es i (omega arith) (omega arith))

pub insert_more : (at : ℕ) (to_s : NameId) (ts : List (List ℕ)) (es : List Tree) (i : ℕ) (x : List ℕ) (e : Tree) {s0 s1 s2 s3 s4 s5 : Maker} → i < length ts → i < length es → x ≡ get_or ts i x → e ≡ get_or es i e
    → Follows (t.insertions_with at to_s (take i ts) (parts (take i es))) s0 s1
    → Makes (t.insertion at to_s (part e)) s1 s2 → Puts (Close ∷ []) s2 s3 → Makes (t.text at x) s3 s4 → Puts (Close ∷ []) s4 s5
    → Follows (t.insertions_with at to_s (take (i + 1) ts) (parts (take (i + 1) es))) s0 s5
insert_more at to_s ts es i x e {s0} {s1} {s2} {s3} {s4} {s5} lt le xs is a b c d g =
    let before = t.insertions_with at to_s (take i ts) (parts (take i es)) in
    subst (λ (ms : List Making). Follows ms s0 s5) (sym (insertions_more at to_s ts es i x e lt le xs is))
    (follows_more (before ++ t.insertion at to_s (part e) ∷ []) (t.text at x) (follows_more before (t.insertion at to_s (part e)) a b c) d g)

-- as many insertions as there are texts behind the first, or the other way round
count_of : (at : ℕ) (to_s : NameId) (ts : List (List ℕ)) (es : List Tree) (n : ℕ) → n ≡ min (length ts) (length es) → t.insertions_with at to_s (take n ts) (parts (take n es)) ≡ t.insertions_with at to_s ts (parts es)
count_of at to_s [] [] zero len = refl
count_of at to_s [] (e ∷ es) zero len = refl
count_of at to_s [] es (suc n) len = absurd (omega arith)
count_of at to_s (x ∷ ts) [] zero len = refl
count_of at to_s (x ∷ ts) [] (suc n) len = absurd (omega arith)
count_of at to_s (x ∷ ts) (e ∷ es) zero len = absurd (omega arith)
count_of at to_s (x ∷ ts) (e ∷ es) (suc n) len = ap (λ (ms : List Making). t.insertion at to_s (part e) ∷ t.text at x ∷ ms) (count_of at to_s ts es n (omega arith))

length_of : (at : ℕ) (to_s : NameId) (ts : List (List ℕ)) (es : List Tree) (n : ℕ) → n ≡ min (length ts) (length es) → length (t.insertions_with at to_s ts (parts es)) ≡ twice n
length_of at to_s [] [] zero len = refl
length_of at to_s [] (e ∷ es) zero len = refl
length_of at to_s [] es (suc n) len = absurd (omega arith)
length_of at to_s (x ∷ ts) [] zero len = refl
length_of at to_s (x ∷ ts) [] (suc n) len = absurd (omega arith)
length_of at to_s (x ∷ ts) (e ∷ es) zero len = absurd (omega arith)
length_of at to_s (x ∷ ts) (e ∷ es) (suc n) len = ap (λ (k : ℕ). suc (suc k)) (length_of at to_s ts es n (omega arith))

pub joined : (at n : ℕ) (plus to_s : NameId) (texts : List (List ℕ)) (x : List ℕ) (ts : List (List ℕ)) (es : List Tree) {s0 s1 s2 s3 : Maker} → texts ≡ x ∷ ts → n ≡ min (length ts) (length es)
    → Opens (twice n) (f.Call plus true false) at s0 s1 → Makes (t.text at x) s1 s2 → Follows (t.insertions_with at to_s (take n ts) (parts (take n es))) s2 s3
    → Makes (t.joined_text at plus to_s texts (parts es)) s0 s3
joined at n plus to_s texts x ts es {s0} {s1} {s2} {s3} is len o a b =
    let ms = t.insertions_with at to_s ts (parts es) in
    let all_behind = subst (λ (ks : List Making). Follows ks s2 s3) (count_of at to_s ts es n len) b in
    let all_opened = subst (λ (k : ℕ). Opens k (f.Call plus true false) at s0 s1) (sym (length_of at to_s ts es n len)) o in
    subst (λ (us : List (List ℕ)). Makes (t.joined_text at plus to_s us (parts es)) s0 s3) (sym is) (left_made ms all_opened a all_behind)
