-- Loops over trees, as far as they have come.
use Rattle.std.specs.Prelude.{◌↔◌, IsTrue, if◌then◌else◌}
use Rattle.std.proofs.Common.{◌≡◌, ℕ, zero, suc, ◌+◌, ◌-◌, ◌<◌, ◌≤◌, Bool, true, false, List, [], ◌∷◌, ◌++◌, length, get_or, take, map, subst, refl, sym, ap, ◌∙◌, arith, length-append, length-take, append_assoc}
use Rattle.std.proofs.lemmas.List.{take_more, take_all, length-map, append-nil}
use Rattle.cr_grammar.specs.declared.tree.Tree.{Tree}
use Rattle.cr_core.specs.declared.form.Form.{Form}
use Rattle.cr_core.specs.declared.form.Form.TheVariants.{Nil, Seq}
use Rattle.cr_core.specs.declared.row.Event.{Event}
use Rattle.cr_core.specs.declared.row.Event.TheVariants.{Open}
use Rattle.cr_core.specs.Core.{stream}
use Rattle.cr_making.specs.declared.maker.Maker.{Maker}
use Rattle.cr_making.specs.declared.view.View.{View}
use Rattle.cr_making.specs.Naming.{State, state_of}
use Rattle.cr_making.specs.Making.{Making, placed, ◌▸◌, wrapped, leaf, all, Ahead, ahead, nest, sequence}
use Rattle.cr_making.specs.Made.{Nests, Makes, Puts, Begins, begun, closes}
use Rattle.cr_making.specs.Part.{Part, each, line, is_empty}
use Rattle.cr_making.specs.View.{viewed, said, said_line, said_lines, IsUntilLast}
use Rattle.cr_making.specs.Table.{part, parts}
use Rattle.cr_making.proofs.Done.{all_more, nests_none, nests_more, nest_made}

-- ---- all, one after the other

map_push : (h : Part → Making) (xs : List Tree) (x : Tree) → map h (parts (xs ++ x ∷ [])) ≡ map h (parts xs) ++ h (part x) ∷ []
map_push h [] x = refl
map_push h (y ∷ xs) x = ap (λ (ms : List Making). h (part y) ∷ ms) (map_push h xs x)

pub map_more : (h : Part → Making) (xs : List Tree) (i : ℕ) (x : Tree) → i < length xs → x ≡ get_or xs i x → map h (parts (take (i + 1) xs)) ≡ map h (parts (take i xs)) ++ h (part x) ∷ []
map_more h xs i x lt is =
    ap (λ (ts : List Tree). map h (parts ts)) (take_more xs i x lt)
    ∙ ap (λ (t : Tree). map h (parts (take i xs ++ t ∷ []))) (sym is)
    ∙ map_push h (take i xs) x

pub each_more : (h : Part → Making) (xs : List Tree) (i : ℕ) (x : Tree) (s0 s1 s2 : Maker) → i < length xs → x ≡ get_or xs i x → Makes (each h (parts (take i xs))) s0 s1 → Makes (h (part x)) s1 s2 → Makes (each h (parts (take (i + 1) xs))) s0 s2
each_more h xs i x s0 s1 s2 lt is a b = subst (λ (ms : List Making). Makes (all ms) s0 s2) (sym (map_more h xs i x lt is)) (all_more (map h (parts (take i xs))) (h (part x)) a b)

pub each_done : (h : Part → Making) (xs ys : List Tree) (i : ℕ) (s0 s1 : Maker) → xs ≡ ys → length xs ≤ i → Makes (each h (parts (take i xs))) s0 s1 → Makes (each h (parts ys)) s0 s1
each_done h xs ys i s0 s1 is le a = subst (λ (ts : List Tree). Makes (each h (parts ts)) s0 s1) (take_all i xs le ∙ is) a

pub empty_is : (xs : List Tree) (b : Bool) → (IsTrue b ↔ (xs ≡ [])) → b ≡ is_empty (parts xs)
empty_is [] b h = h.1 refl
empty_is (x ∷ xs) true h = let e : (x ∷ xs) ≡ [] = h.0 refl in absurd cc
empty_is (x ∷ xs) false h = refl

-- ---- those of which something holds

line_append : (b : Bool) (m : Making) (ms ks : List Making) → line b m (ms ++ ks) ≡ line b m ms ++ ks
line_append true m ms ks = refl
line_append false m ms ks = refl

lines_push : (view : View) (xs : List Tree) (x : Tree) → said_lines view (parts (xs ++ x ∷ [])) ≡ said_lines view (parts xs) ++ said_line view (part x)
lines_push view [] x = refl
lines_push view (y ∷ xs) x =
    ap (line (said view (part y)) (viewed view (part y))) (lines_push view xs x)
    ∙ line_append (said view (part y)) (viewed view (part y)) (said_lines view (parts xs)) (said_line view (part x))

lines_more : (view : View) (xs : List Tree) (i : ℕ) (x : Tree) → i < length xs → x ≡ get_or xs i x → said_lines view (parts (take (i + 1) xs)) ≡ said_lines view (parts (take i xs)) ++ said_line view (part x)
lines_more view xs i x lt is =
    ap (λ (ts : List Tree). said_lines view (parts ts)) (take_more xs i x lt)
    ∙ ap (λ (t : Tree). said_lines view (parts (take i xs ++ t ∷ []))) (sym is)
    ∙ lines_push view (take i xs) x

-- ---- one ahead of another

begun-append : (f : Form) (ms ks : List Ahead) (s : State)
    → ((begun f (ms ++ ks) s).value ≡ (begun f ms s).value ++ (begun f ks (begun f ms s).after).value) × ((begun f (ms ++ ks) s).after ≡ (begun f ks (begun f ms s).after).after)
begun-append f [] ks s = (refl, refl)
begun-append f (m ∷ ms) ks s =
    let a = m.made s in
    let b = begun f ms a.after in
    let more = begun-append f ms ks a.after in (
      ap (λ (es : List Event). first ∷ (stream a.value ++ es)) more.0
          ∙ ap (λ (es : List Event). first ∷ es) (sym (append_assoc (stream a.value) b.value (begun f ks b.after).value)),
      more.1,
    )
  where
    first : Event
    first = Open f (placed s m.at)

pub nests_append : {f : Form} {s0 s1 s2 : Maker} (ms ks : List Ahead) → Nests f ms s0 s1 → Nests f ks s1 s2 → Nests f (ms ++ ks) s0 s2
nests_append {f} {s0} {s1} {s2} ms ks a b =
    let before = begun f ms (state_of s0.naming) in
    let both = begun-append f ms ks (state_of s0.naming) in
    record {
      events = b.events
          ∙ ap (λ (es : List Event). es ++ (begun f ks (state_of s1.naming)).value) a.events
          ∙ ap (λ (s : State). (s0.events.items ++ before.value) ++ (begun f ks s).value) a.state
          ∙ append_assoc s0.events.items before.value (begun f ks before.after).value
          ∙ ap (λ (es : List Event). s0.events.items ++ es) (sym both.0);
      state = b.state ∙ ap (λ (s : State). (begun f ks s).after) a.state ∙ sym both.1;
    }

map_append : (h : Making → Ahead) (ms ks : List Making) → map h (ms ++ ks) ≡ map h ms ++ map h ks
map_append h [] ks = refl
map_append h (m ∷ ms) ks = ap (λ (ks : List Ahead). h m ∷ ks) (map_append h ms ks)

pub front_by : (h : Making → Ahead) (view : View) (xs : List Tree) (i : ℕ) (x : Tree) (s0 s1 s2 : Maker) → i < length xs → x ≡ get_or xs i x
    → Nests Seq (map h (said_lines view (parts (take i xs)))) s0 s1 → Nests Seq (map h (said_line view (part x))) s1 s2
    → Nests Seq (map h (said_lines view (parts (take (i + 1) xs)))) s0 s2
front_by h view xs i x s0 s1 s2 lt is a b =
    let ms = said_lines view (parts (take i xs)) in
    let k = said_line view (part x) in
    subst (λ (ks : List Ahead). Nests Seq ks s0 s2) (sym (ap (map h) (lines_more view xs i x lt is) ∙ map_append h ms k))
    (nests_append (map h ms) (map h k) a b)

pub front_more : (view : View) (at : ℕ) (xs : List Tree) (i : ℕ) (x : Tree) (s0 s1 s2 : Maker) → i < length xs → x ≡ get_or xs i x
    → Nests Seq (map (ahead at) (said_lines view (parts (take i xs)))) s0 s1 → Nests Seq (map (ahead at) (said_line view (part x))) s1 s2
    → Nests Seq (map (ahead at) (said_lines view (parts (take (i + 1) xs)))) s0 s2
front_more view at xs i x s0 s1 s2 lt is a b = front_by (ahead at) view xs i x s0 s1 s2 lt is a b

pub count_more : (view : View) (xs : List Tree) (i : ℕ) (x : Tree) (n k : ℕ) → i < length xs → x ≡ get_or xs i x → n ≡ length (said_lines view (parts (take i xs))) → k ≡ length (said_line view (part x)) → n + k ≡ length (said_lines view (parts (take (i + 1) xs)))
count_more view xs i x n k lt is en ek =
    let e = ap (λ (ms : List Making). length ms) (lines_more view xs i x lt is) in
    omega (arith, e, length-append (said_lines view (parts (take i xs))) (said_line view (part x)))

length_line : (b : Bool) (m : Making) (ms : List Making) (n : ℕ) → length ms ≤ n → length (line b m ms) ≤ n + 1
length_line true m ms n h = omega arith
length_line false m ms n h = omega arith

-- no more follow one another than there are
pub few_lines : (view : View) (xs : List Tree) → length (said_lines view (parts xs)) ≤ length xs
few_lines view [] = omega arith
few_lines view (x ∷ xs) = let h = length_line (said view (part x)) (viewed view (part x)) (said_lines view (parts xs)) (length xs) (few_lines view xs) in omega arith

one_line : (b : Bool) (m : Making) → length (line b m []) ≤ 1
one_line true m = omega arith
one_line false m = omega arith

-- so many nodes have begun at most
pub front_fits : (view : View) (list : List Tree) (i n k : ℕ) (x : Tree) → n ≡ length (said_lines view (parts (take i list))) → k ≡ length (said_line view (part x)) → n + k ≤ i + 1
front_fits view list i n k x en ek =
    let few = few_lines view (take i list) in
    let short = length-take i list in
    let one = one_line (said view (part x)) (viewed view (part x)) in
    omega arith

pub one_ahead : (view : View) (at : ℕ) (x : Tree) {s0 s1 s2 : Maker} → said view (part x) ≡ true → Begins Seq at s0 s1 → Makes (viewed view (part x)) s1 s2 → Nests Seq (map (ahead at) (said_line view (part x))) s0 s2
one_ahead view at x {s0} {s1} {s2} is o a =
    subst (λ (b : Bool). Nests Seq (map (ahead at) (line b (viewed view (part x)) [])) s0 s2) (sym is)
    (nests_more [] (ahead at (viewed view (part x))) (nests_none s0) o a)

pub none_ahead : (view : View) (at : ℕ) (x : Tree) (s : Maker) → said view (part x) ≡ false → Nests Seq (map (ahead at) (said_line view (part x))) s s
none_ahead view at x s is = subst (λ (b : Bool). Nests Seq (map (ahead at) (line b (viewed view (part x)) [])) s s) (sym is) (nests_none s)

-- ---- sequences

sequence_more : (at : ℕ) (k : Making) (ms : List Making) (m : Making) → sequence at (k ∷ (ms ++ m ∷ [])) ≡ wrapped Seq at (k ▸ sequence at (ms ++ m ∷ []))
sequence_more at k [] m = refl
sequence_more at k (x ∷ ms) m = refl

pub sequence_nest : (at : ℕ) (ms : List Making) (m : Making) → sequence at (ms ++ m ∷ []) ≡ nest Seq (map (ahead at) ms) m
sequence_nest at [] m = refl
sequence_nest at (k ∷ ms) m = sequence_more at k ms m ∙ ap (λ (x : Making). wrapped Seq at (k ▸ x)) (sequence_nest at ms m)

pub sequence_made : (at n : ℕ) (ms : List Making) (m : Making) {s0 s1 s2 s3 : Maker} → n ≡ length ms → Nests Seq (map (ahead at) ms) s0 s1 → Makes m s1 s2 → Puts (closes n) s2 s3 → Makes (sequence at (ms ++ m ∷ [])) s0 s3
sequence_made at n ms m {s0} {s1} {s2} {s3} len a b c =
    let ends = subst (λ (k : ℕ). Puts (closes k) s2 s3) (len ∙ sym (length-map ms (ahead at))) c in
    subst (λ (x : Making). Makes x s0 s3) (sym (sequence_nest at ms m)) (nest_made (map (ahead at) ms) a b ends)

pub sequence_done : (view : View) (at count n : ℕ) (list front : List Tree) (last : Tree) (s0 s1 s2 s3 : Maker) → IsUntilLast view list count → take count list ≡ front ++ last ∷ []
    → n ≡ length (said_lines view (parts front)) → Nests Seq (map (ahead at) (said_lines view (parts front))) s0 s1 → Makes (viewed view (part last)) s1 s2 → Puts (closes n) s2 s3
    → Makes (sequence at (said_lines view (parts list))) s0 s3
sequence_done view at count n list front last s0 s1 s2 s3 u is len a b c =
    let cut : take count list ≡ front ++ last ∷ [] = is in
    let found : said_line view (part last) ≡ viewed view (part last) ∷ [] = ap (λ (t : Bool). line t (viewed view (part last)) []) (u.last front last cut) in
    let whole : said_lines view (parts list) ≡ said_lines view (parts front) ++ viewed view (part last) ∷ [] =
    sym u.all ∙ ap (λ (ts : List Tree). said_lines view (parts ts)) cut ∙ lines_push view front last ∙ ap (λ (ms : List Making). said_lines view (parts front) ++ ms) found in
    subst (λ (ms : List Making). Makes (sequence at ms) s0 s3) (sym whole) (sequence_made at n (said_lines view (parts front)) (viewed view (part last)) len a b c)

empty_take : (view : View) (list : List Tree) → length list ≡ 0 → said_lines view (parts list) ≡ []
empty_take view [] e = refl
empty_take view (x ∷ xs) e = absurd (omega arith)

pub sequence_empty : (view : View) (at count : ℕ) (list : List Tree) (s0 s1 : Maker) → IsUntilLast view list count → length (take count list) ≡ 0 → Makes (leaf Nil at) s0 s1 → Makes (sequence at (said_lines view (parts list))) s0 s1
sequence_empty view at count list s0 s1 u none a =
    subst (λ (ms : List Making). Makes (sequence at ms) s0 s1) (sym (sym u.all ∙ empty_take view (take count list) none)) a

-- ---- up to the last

-- the same of those so far
pub record IsUntil (view : View) (list : List Tree) (i count : ℕ) : Type 0 where
  pub within : count ≤ i
  pub all : said_lines view (parts (take count list)) ≡ said_lines view (parts (take i list))
  pub last : (front : List Tree) (t : Tree) → take count list ≡ front ++ t ∷ [] → said view (part t) ≡ true

nothing_pushed : (front : List Tree) (t : Tree) → [] ≡ front ++ t ∷ [] → ⊥
nothing_pushed [] t e = absurd cc
nothing_pushed (x ∷ front) t e = absurd cc

pub until_none : (view : View) (list : List Tree) → IsUntil view list 0 0
until_none view list = record { within = omega arith; all = refl; last = λ front t e. absurd (nothing_pushed front t e) }

-- the last of a list is one alone
same_last : (xs ys : List Tree) (x y : Tree) → xs ++ x ∷ [] ≡ ys ++ y ∷ [] → x ≡ y
same_last [] [] x y e = cc
same_last [] (b ∷ []) x y e = absurd cc
same_last [] (b ∷ c ∷ ys) x y e = absurd cc
same_last (a ∷ []) [] x y e = absurd cc
same_last (a ∷ c ∷ xs) [] x y e = absurd cc
same_last (a ∷ xs) (b ∷ ys) x y e = same_last xs ys x y cc

until_said : (view : View) (list : List Tree) (i : ℕ) (x : Tree) → i < length list → x ≡ get_or list i x → said view (part x) ≡ true → IsUntil view list (i + 1) (i + 1)
until_said view list i x lt is holds = record {
  within = omega arith;
  all = refl;
  last = λ front t e.
      let cut : take (i + 1) list ≡ take i list ++ x ∷ [] = take_more list i x lt ∙ ap (λ (z : Tree). take i list ++ z ∷ []) (sym is) in
      ap (λ (z : Tree). said view (part z)) (same_last front (take i list) t x (sym e ∙ cut)) ∙ holds;
}

until_passed : (view : View) (list : List Tree) (i count : ℕ) (x : Tree) → i < length list → x ≡ get_or list i x → said view (part x) ≡ false → IsUntil view list i count → IsUntil view list (i + 1) count
until_passed view list i count x lt is fails u = record {
  within = omega (arith, u.within);
  all = u.all
      ∙ sym (append-nil (said_lines view (parts (take i list))))
      ∙ ap (λ (b : Bool). said_lines view (parts (take i list)) ++ line b (viewed view (part x)) []) (sym fails)
      ∙ sym (lines_more view list i x lt is);
  last = u.last;
}

until_by : (view : View) (list : List Tree) (i count : ℕ) (x : Tree) (t : Bool) → t ≡ said view (part x) → i < length list → x ≡ get_or list i x → IsUntil view list i count → IsUntil view list (i + 1) (if t then i + 1 else count)
until_by view list i count x true e lt is u = until_said view list i x lt is (sym e)
until_by view list i count x false e lt is u = until_passed view list i count x lt is (sym e) u

pub until_more : (view : View) (list : List Tree) (i count new : ℕ) (x : Tree) (t : Bool) → t ≡ said view (part x) → new ≡ (if t then i + 1 else count) → i < length list → x ≡ get_or list i x → IsUntil view list i count → IsUntil view list (i + 1) new
until_more view list i count new x t e is_new lt is u = subst (IsUntil view list (i + 1)) (sym is_new) (until_by view list i count x t e lt is u)

pub until_done : (view : View) (list : List Tree) (i count : ℕ) → length list ≤ i → i ≤ length list → IsUntil view list i count → IsUntilLast view list count
until_done view list i count le ge u = record {
  within = omega (arith, u.within);
  all = u.all ∙ ap (λ (ts : List Tree). said_lines view (parts ts)) (take_all i list le);
  last = u.last;
}

-- ---- nests whose places differ

ahead_push : (h : Part → Ahead) (xs : List Tree) (x : Tree) → map h (parts (xs ++ x ∷ [])) ≡ map h (parts xs) ++ h (part x) ∷ []
ahead_push h [] x = refl
ahead_push h (y ∷ xs) x = ap (λ (ms : List Ahead). h (part y) ∷ ms) (ahead_push h xs x)

pub others_more : (f : Form) (h : Part → Ahead) (xs : List Tree) (i : ℕ) (x : Tree) (s0 s1 s2 s3 : Maker) → i < length xs → x ≡ get_or xs i x
    → Nests f (map h (parts (take i xs))) s0 s1 → Begins f (h (part x)).at s1 s2 → Makes (h (part x)).made s2 s3 → Nests f (map h (parts (take (i + 1) xs))) s0 s3
others_more f h xs i x s0 s1 s2 s3 lt is a o b =
    let more : map h (parts (take (i + 1) xs)) ≡ map h (parts (take i xs)) ++ h (part x) ∷ [] =
    ap (λ (ts : List Tree). map h (parts ts)) (take_more xs i x lt)
    ∙ ap (λ (t : Tree). map h (parts (take i xs ++ t ∷ []))) (sym is)
    ∙ ahead_push h (take i xs) x in
    subst (λ (ms : List Ahead). Nests f ms s0 s3) (sym more) (nests_more (map h (parts (take i xs))) (h (part x)) a o b)

pub others_done : (f : Form) (h : Part → Ahead) (i n : ℕ) (list others : List Tree) (last : Making) (s0 s1 s2 s3 : Maker) → list ≡ others → length list ≤ i → n ≡ length list
    → Nests f (map h (parts (take i list))) s0 s1 → Makes last s1 s2 → Puts (closes n) s2 s3 → Makes (nest f (map h (parts others)) last) s0 s3
others_done f h i n list others last s0 s1 s2 s3 is le len a b c =
    let whole = subst (λ (ts : List Tree). Nests f (map h (parts ts)) s0 s1) (take_all i list le) a in
    let ends = subst (λ (k : ℕ). Puts (closes k) s2 s3) (len ∙ sym (length-map (parts list) h ∙ length-map list part)) c in
    subst (λ (ts : List Tree). Makes (nest f (map h (parts ts)) last) s0 s3) is (nest_made (map h (parts list)) whole b ends)

pub begins_at : {f : Form} {at place : ℕ} {s0 s1 : Maker} → at ≡ place → Begins f at s0 s1 → Begins f place s0 s1
begins_at {f} {at} {place} {s0} {s1} e h = subst (λ (n : ℕ). Begins f n s0 s1) e h

-- ---- what goes ahead of a sequence

nest_append : (f : Form) (ms ks : List Ahead) (last : Making) → nest f (ms ++ ks) last ≡ nest f ms (nest f ks last)
nest_append f [] ks last = refl
nest_append f (m ∷ ms) ks last = ap (λ (x : Making). wrapped f m.at (m.made ▸ x)) (nest_append f ms ks last)

-- a list that is not empty has a last one
sequence_ahead : (at : ℕ) (ms : List Making) (k : Making) (ks : List Making) → sequence at (ms ++ k ∷ ks) ≡ nest Seq (map (ahead at) ms) (sequence at (k ∷ ks))
sequence_ahead at [] k ks = refl
sequence_ahead at (m ∷ []) k ks = refl
sequence_ahead at (m ∷ n ∷ ms) k ks = ap (λ (x : Making). wrapped Seq at (m ▸ x)) (sequence_ahead at (n ∷ ms) k ks)

pub ahead_made : (at n : ℕ) (ms ks : List Making) {s0 s1 s2 s3 : Maker} → (ks ≡ [] → ⊥) → n ≡ length ms → Nests Seq (map (ahead at) ms) s0 s1 → Makes (sequence at ks) s1 s2 → Puts (closes n) s2 s3 → Makes (sequence at (ms ++ ks)) s0 s3
ahead_made at n ms [] some len a b c = absurd (some refl)
ahead_made at n ms (k ∷ ks) {s0} {s1} {s2} {s3} some len a b c =
    let ends = subst (λ (j : ℕ). Puts (closes j) s2 s3) (len ∙ sym (length-map ms (ahead at))) c in
    subst (λ (x : Making). Makes x s0 s3) (sym (sequence_ahead at ms k ks)) (nest_made (map (ahead at) ms) a b ends)

pub none_behind : (at : ℕ) (ms ks : List Making) {s0 s1 : Maker} → ks ≡ [] → Makes (sequence at ms) s0 s1 → Makes (sequence at (ms ++ ks)) s0 s1
none_behind at ms ks {s0} {s1} e a = subst (λ (xs : List Making). Makes (sequence at xs) s0 s1) (sym (ap (λ (xs : List Making). ms ++ xs) e ∙ append-nil ms)) a

pub until_zero : (view : View) (list : List Tree) (count : ℕ) → IsUntilLast view list count → count ≡ 0 → said_lines view (parts list) ≡ []
until_zero view list count u e = sym u.all ∙ ap (λ (k : ℕ). said_lines view (parts (take k list))) e

snoc_form : (list : List Tree) (k : ℕ) → suc k ≤ length list → (front : List Tree) × (t : Tree) × (take (suc k) list ≡ front ++ t ∷ [])
snoc_form [] k h = absurd (omega arith)
snoc_form (x ∷ xs) zero h = ([], x, refl)
snoc_form (x ∷ xs) (suc k) h = let r = snoc_form xs k (omega arith) in (x ∷ r.0, r.1, ap (λ (ts : List Tree). x ∷ ts) r.2)

not_empty : (ms : List Making) (m : Making) → ms ++ m ∷ [] ≡ [] → ⊥
not_empty [] m e = absurd cc
not_empty (x ∷ ms) m e = absurd cc

some_said : (view : View) (list : List Tree) (k : ℕ) → IsUntilLast view list (suc k) → said_lines view (parts list) ≡ [] → ⊥
some_said view list k u none =
    let r = snoc_form list k (omega (arith, u.within)) in
    let found : said_line view (part r.1) ≡ viewed view (part r.1) ∷ [] = ap (λ (t : Bool). line t (viewed view (part r.1)) []) (u.last r.0 r.1 r.2) in
    not_empty (said_lines view (parts r.0)) (viewed view (part r.1))
    (ap (λ (ms : List Making). said_lines view (parts r.0) ++ ms) (sym found) ∙ sym (lines_push view r.0 r.1) ∙ sym (ap (λ (ts : List Tree). said_lines view (parts ts)) r.2) ∙ u.all ∙ none)

pub until_some : (view : View) (list : List Tree) (count : ℕ) → IsUntilLast view list count → (count ≡ 0 → ⊥) → said_lines view (parts list) ≡ [] → ⊥
until_some view list zero u some = absurd (some refl)
until_some view list (suc k) u some = some_said view list k u
