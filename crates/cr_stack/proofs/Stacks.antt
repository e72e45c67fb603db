-- Stacks of which one layer or the part inside them changed.
use Rattle.std.proofs.Common.{◌≡◌, ◌+◌, ◌≤◌, List, [], ◌∷◌, ◌++◌, length, Option, Some, None, refl, sym, ap, ◌∙◌, subst, ◌-◌, arith, length-append}
use Rattle.std.specs.Prelude.{slice_get}
use Rattle.cr_base.specs.declared.ids.NodeId.{NodeId}
use Rattle.cr_value.specs.declared.value.Value.{Value}
use Rattle.cr_core.specs.declared.row.Row.{Row}
use Rattle.cr_meaning.specs.World.{World}
use Rattle.cr_meaning.specs.Term.{Term, Val, Turn, Frame, Body, tree}
use Rattle.cr_meaning.specs.Redex.{redex, put}
use Rattle.cr_stack.specs.declared.around.Around.{Around}
use Rattle.cr_stack.specs.declared.around.Around.TheVariants as a
use Rattle.cr_stack.specs.declared.around.Now.{Now}
use Rattle.cr_stack.specs.declared.around.Now.TheVariants as now
use Rattle.cr_stack.specs.Layers.{Layers, filled, plug, now_of, term, frame_of, frame_count}
use Rattle.cr_stack.specs.Neat.{IsNeatAround, IsNeatNow, AreNeat, IsNeat}
use Rattle.cr_stack.specs.Steps.{innermost, IsEnd, IsEndOrNone, EndsAt, IsReduced, Puts, Closes, given_by, finished}
use Rattle.cr_stack.specs.declared.around.Redex.{Redex}
use Rattle.cr_stack.specs.declared.around.Redex.TheVariants as r
use Rattle.cr_stack.specs.Shown.{IsShown, StandsThere, IsWhole, ShowsValue}
use Rattle.std.proofs.lemmas.Option.{same_Some}
use Rattle.cr_stack.proofs.Plugs.{reduced_is, sees_plug, puts_plug, plug_append, put_there, neat_front, neat_back, neat_append}

-- ---- another part inside the layers

pub puts_new : (old new : Layers) (t : World → Term) (m : Now) → new.around ≡ old.around → new.focus ≡ m → ((P : World) → now_of P m ≡ t P) → IsReduced old.focus → Puts old t new
puts_new old new t m e f g r =
    record {
      is = λ P h.
          ap (λ ks. plug P ks (now_of P new.focus)) e
          ∙ ap (λ n. plug P old.around (now_of P n)) f
          ∙ ap (plug P old.around) (g P)
          ∙ put_there P old.around old.focus (t P) h.around h.focus r;
    }

pub neat_new : (old new : Layers) (m : Now) → new.around ≡ old.around → new.focus ≡ m → (rows : List Row) → IsNeatNow rows m → IsNeat rows old → IsNeat rows new
neat_new old new m e f rows n h = record { around = subst (AreNeat rows) (sym e) h.around; focus = subst (IsNeatNow rows) (sym f) n }

-- ---- a layer more

pub puts_pushed : (old new : Layers) (t : World → Term) (k : Around) (m : Now) → new.around ≡ old.around ++ k ∷ [] → new.focus ≡ m → ((P : World) → filled P k (now_of P m) ≡ t P) → IsReduced old.focus → Puts old t new
puts_pushed old new t k m e f g r =
    record {
      is = λ P h.
          ap (λ ks. plug P ks (now_of P new.focus)) e
          ∙ ap (λ n. plug P (old.around ++ k ∷ []) (now_of P n)) f
          ∙ plug_append P old.around (k ∷ []) (now_of P m)
          ∙ ap (plug P old.around) (g P)
          ∙ put_there P old.around old.focus (t P) h.around h.focus r;
    }

pub neat_pushed : (old new : Layers) (k : Around) (m : Now) → new.around ≡ old.around ++ k ∷ [] → new.focus ≡ m → (rows : List Row) → IsNeatAround rows k → IsNeatNow rows m → IsNeat rows old → IsNeat rows new
neat_pushed old new k m e f rows nk nm h =
    record { around = subst (AreNeat rows) (sym e) (neat_append rows old.around (k ∷ []) h.around (nk, tt)); focus = subst (IsNeatNow rows) (sym f) nm }

-- ---- calls in progress

pub frame_count_append : (ks ls : List Around) → frame_count (ks ++ ls) ≡ frame_count ks + frame_count ls
frame_count_append [] ls = omega arith
frame_count_append (k ∷ ks) ls = omega (arith, frame_count_append ks ls)

frame_of_few : (k : Around) → frame_of k ≤ 1
frame_of_few (a.Part n vs) = omega arith
frame_of_few (a.Choice n vss vs) = omega arith
frame_of_few (a.Turn n) = omega arith
frame_of_few (a.Frame gives) = omega arith
frame_of_few a.Body = omega arith

pub frame_count_few : (ks : List Around) → frame_count ks ≤ length ks
frame_count_few [] = omega arith
frame_count_few (k ∷ ks) = omega (arith, frame_of_few k, frame_count_few ks)

-- ---- the innermost layer

at_end : (ks : List Around) (k : Around) → slice_get (ks ++ k ∷ []) (length ks) ≡ Some k
at_end [] k = refl
at_end (j ∷ ks) k = at_end ks k

last_apart_by : (k : Around) (ks : List Around) → (ls : List Around) × (l : Around) × (k ∷ ks ≡ ls ++ l ∷ [])
last_apart_by k [] = ([], k, refl)
last_apart_by k (j ∷ ks) = let d = last_apart_by j ks in (k ∷ d.0, d.1, ap (λ l. k ∷ l) d.2)

pub innermost_is : (ks : List Around) (k : Around) → innermost (ks ++ k ∷ []) ≡ Some k
innermost_is ks k = let e : length (ks ++ k ∷ []) - 1 ≡ length ks = omega (arith, length-append ks (k ∷ [])) in ap (slice_get (ks ++ k ∷ [])) e ∙ at_end ks k

none_there : (ks : List Around) → innermost ks ≡ None → ks ≡ []
none_there [] e = refl
none_there (k ∷ ks) e = let d = last_apart_by k ks in absurd (absent (ap innermost d.2 ∙ innermost_is d.0 d.1) e)
  where
    absent : {k : Around} {o : Option Around} → o ≡ Some k → o ≡ None → ⊥
    absent p q = absurd (cc)

pub last_apart : (ks : List Around) (k : Around) → innermost ks ≡ Some k → (ls : List Around) × (ks ≡ ls ++ k ∷ [])
last_apart [] k e = absurd (cc)
last_apart (j ∷ ks) k e =
    let d = last_apart_by j ks in
    let s : d.1 ≡ k = same_Some d.1 k (sym (ap innermost d.2 ∙ innermost_is d.0 d.1) ∙ e) in
    (d.0, d.2 ∙ ap (λ x. d.0 ++ x ∷ []) s)

-- a layer that is no node and no choice
pub ends_here : (ks ls : List Around) (k : Around) → ks ≡ ls ++ k ∷ [] → ((n : NodeId) (vs : List Value) → k ≡ a.Part n vs → ⊥) → ((n : NodeId) (vss : List (List Value)) (vs : List Value) → k ≡ a.Choice n vss vs → ⊥) → IsEndOrNone (innermost ks)
ends_here ks ls k e no_part no_choice = subst IsEndOrNone (sym (ap innermost e ∙ innermost_is ls k)) (by k no_part no_choice)
  where
    by : (k : Around) → ((n : NodeId) (vs : List Value) → k ≡ a.Part n vs → ⊥) → ((n : NodeId) (vss : List (List Value)) (vs : List Value) → k ≡ a.Choice n vss vs → ⊥) → IsEndOrNone (Some k)
    by (a.Part n vs) no_part no_choice = absurd (no_part n vs refl)
    by (a.Choice n vss vs) no_part no_choice = absurd (no_choice n vss vs refl)
    by (a.Turn n) no_part no_choice = tt
    by (a.Frame gives) no_part no_choice = tt
    by a.Body no_part no_choice = tt

pub last_neat : (rows : List Row) (ks ls : List Around) (k l : Around) → ks ≡ ls ++ k ∷ [] → k ≡ l → AreNeat rows ks → IsNeatAround rows l
last_neat rows ks ls k l e is h = subst (IsNeatAround rows) is (neat_back rows ls (k ∷ []) (subst (AreNeat rows) e h)).0

-- a layer that a value ends, with what it gives
closed_by : (P : World) (k : Around) (v : Value) → IsEnd (Some k) → (it : Term) × (redex (filled P k (Val v)) ≡ Some it) × (put (Val (given_by it)) (filled P k (Val v)) ≡ now_of P (finished k (now.Value v)))
closed_by P (a.Part n vs) v h = absurd h
closed_by P (a.Choice n vss vs) v h = absurd h
closed_by P (a.Turn n) v h = (Turn (tree P n) (Val v), refl, refl)
closed_by P (a.Frame None) v h = (Frame None (Val v), refl, refl)
closed_by P (a.Frame (Some object)) v h = (Frame (Some object) (Val v), refl, refl)
closed_by P a.Body v h = (Body (Val v), refl, refl)

value_there : (ks : List Around) (n : Now) → EndsAt ks n → (v : Value) × (n ≡ now.Value v) × IsEnd (innermost ks)
value_there ks (now.Node n) h = absurd h
value_there ks (now.Value v) h = (v, refl, h)
value_there ks (now.Ready n vs) h = absurd h
value_there ks (now.Choice n vss) h = absurd h
value_there ks (now.Sent channel item) h = absurd h

pub closes : (old new : Layers) (k : Around) → old.around ≡ new.around ++ k ∷ [] → new.focus ≡ finished k old.focus → EndsAt old.around old.focus → (P : World) → IsNeat P.rows old → Closes P old new
closes old new k e f ends P h =
    let v = value_there old.around old.focus ends in
    let last : IsEnd (Some k) = subst IsEnd (ap innermost e ∙ innermost_is new.around k) v.2 in
    let c = closed_by P k v.0 last in
    let front : AreNeat P.rows new.around = neat_front P.rows new.around (k ∷ []) (subst (AreNeat P.rows) e h.around) in
    let whole : term P old ≡ plug P new.around (filled P k (Val v.0)) =
    ap (λ ks. plug P ks (now_of P old.focus)) e ∙ ap (λ n. plug P (new.around ++ k ∷ []) (now_of P n)) v.1 ∙ plug_append P new.around (k ∷ []) (Val v.0) in
    record {
      it = c.0;
      is = ap redex whole ∙ sees_plug P new.around (filled P k (Val v.0)) c.0 front c.1;
      closed =
          ap (λ n. plug P new.around (now_of P n)) (f ∙ ap (finished k) v.1)
          ∙ ap (plug P new.around) (sym c.2)
          ∙ sym (puts_plug P (Val (given_by c.0)) new.around (filled P k (Val v.0)) c.0 front c.1)
          ∙ ap (put (Val (given_by c.0))) (sym whole);
    }

pub finished_neat : (rows : List Row) (k : Around) (n : Now) → IsNeatNow rows n → IsNeatNow rows (finished k n)
finished_neat rows (a.Part n vs) m h = h
finished_neat rows (a.Choice n vss vs) m h = h
finished_neat rows (a.Turn n) m h = tt
finished_neat rows (a.Frame None) m h = h
finished_neat rows (a.Frame (Some object)) m h = tt
finished_neat rows a.Body m h = h

pub neat_closed : (old new : Layers) (k : Around) → old.around ≡ new.around ++ k ∷ [] → new.focus ≡ finished k old.focus → (rows : List Row) → IsNeat rows old → IsNeat rows new
neat_closed old new k e f rows h =
    record {
      around = neat_front rows new.around (k ∷ []) (subst (AreNeat rows) e h.around);
      focus = subst (IsNeatNow rows) (sym f) (finished_neat rows k old.focus h.focus);
    }

pub not_none : (old : Layers) → EndsAt old.around old.focus → old.around ≡ [] → ⊥
not_none old ends e = let v = value_there old.around old.focus ends in subst IsEnd (ap innermost e) v.2

-- ---- what is shown

pub shows_value : (s : Layers) (v : Value) (shown : Redex) → s.focus ≡ now.Value v → ShowsValue (innermost s.around) v shown → (P : World) → IsNeat P.rows s → IsShown P shown (term P s)
shows_value s v shown e h P n = by (innermost s.around) refl shown h
  where
    inside : term P s ≡ plug P s.around (Val v)
    inside = ap (λ m. plug P s.around (now_of P m)) e

    ends : (k : Around) (it : Term) → innermost s.around ≡ Some k → redex (filled P k (Val v)) ≡ Some it → redex (term P s) ≡ Some it
    ends k it i q =
        let d = last_apart s.around k i in
        ap redex (inside ∙ ap (λ ks. plug P ks (Val v)) d.1 ∙ plug_append P d.0 (k ∷ []) (Val v))
        ∙ sees_plug P d.0 (filled P k (Val v)) it (neat_front P.rows d.0 (k ∷ []) (subst (AreNeat P.rows) d.1 n.around)) q

    by : (o : Option Around) → innermost s.around ≡ o → (shown : Redex) → ShowsValue o v shown → IsShown P shown (term P s)
    by None i (r.Finished w) h = inside ∙ ap (λ ks. plug P ks (Val v)) (none_there s.around i) ∙ ap Val (sym h)
    by (Some (a.Turn n)) i r.Turn h = (tree P n, v, ends (a.Turn n) (Turn (tree P n) (Val v)) i refl)
    by (Some (a.Frame gives)) i r.Frame h = (gives, v, ends (a.Frame gives) (Frame gives (Val v)) i refl)
    by (Some a.Body) i r.Body h = (v, ends a.Body (Body (Val v)) i refl)
    by other i shown h = absurd h

pub shows_node : (s : Layers) (n : Now) → s.focus ≡ n → IsReduced n → (P : World) → IsNeat P.rows s → redex (term P s) ≡ Some (now_of P n)
shows_node s n e r P h =
    let m : IsNeatNow P.rows n = subst (IsNeatNow P.rows) e h.focus in
    ap (λ x. redex (plug P s.around (now_of P x))) e ∙ sees_plug P s.around (now_of P n) (now_of P n) h.around (reduced_is P n m r).is

pub value_stands : (s : Layers) (v : Value) (shown : Redex) → s.focus ≡ now.Value v → ShowsValue (innermost s.around) v shown → StandsThere shown s
value_stands s v shown e h = by (innermost s.around) refl shown h
  where
    ends : (o : Option Around) → innermost s.around ≡ o → IsEnd o → EndsAt s.around s.focus
    ends o i h = subst (EndsAt s.around) (sym e) (subst IsEnd (sym i) h)

    by : (o : Option Around) → innermost s.around ≡ o → (shown : Redex) → ShowsValue o v shown → StandsThere shown s
    by None i (r.Finished w) h = tt
    by (Some (a.Turn n)) i r.Turn h = ends (Some (a.Turn n)) i tt
    by (Some (a.Frame gives)) i r.Frame h = ends (Some (a.Frame gives)) i tt
    by (Some a.Body) i r.Body h = ends (Some a.Body) i tt
    by other i shown h = absurd h

pub value_whole : (rows : List Row) (o : Option Around) (v : Value) (shown : Redex) → ShowsValue o v shown → IsWhole rows shown
value_whole rows None v (r.Finished w) h = tt
value_whole rows (Some (a.Turn n)) v r.Turn h = tt
value_whole rows (Some (a.Frame gives)) v r.Frame h = tt
value_whole rows (Some a.Body) v r.Body h = tt
value_whole rows other v shown h = absurd h

pub reduced_stands : (s : Layers) (n : Now) → s.focus ≡ n → IsReduced n → IsReduced s.focus
reduced_stands s n e h = subst IsReduced (sym e) h

pub reduced_neat : (s : Layers) (n : Now) → s.focus ≡ n → (rows : List Row) → IsNeat rows s → IsNeatNow rows n
reduced_neat s n e rows h = subst (IsNeatNow rows) e h.focus
