-- A jump in the code is the definition's.
use Rattle.std.proofs.Common.{◌≡◌, inl, inr, ℕ, zero, suc, ◌+◌, ◌<◌, Bool, true, false, List, [], ◌∷◌, ◌++◌, length, take, drop, get_or, Some, None, refl, sym, ap, ◌∙◌, subst, arith, length-append}
use Rattle.std.proofs.Math.Seq.{get_or-append_seam}
use Rattle.cr_value.specs.declared.value.Value.{Value}
use Rattle.cr_core.specs.declared.row.Row.{Row}
use Rattle.cr_meaning.specs.World.{World}
use Rattle.cr_meaning.specs.Term.{Term, tree}
use Rattle.cr_meaning.specs.Redex as m
use Rattle.cr_stack.specs.declared.around.Around.{Around}
use Rattle.cr_stack.specs.declared.around.Around.TheVariants as a
use Rattle.cr_stack.specs.declared.around.Now.{Now}
use Rattle.cr_stack.specs.declared.around.Now.TheVariants as now
use Rattle.cr_stack.specs.declared.jumping.Exit.{Exit}
use Rattle.cr_stack.specs.declared.jumping.Exit.TheVariants as x
use Rattle.cr_stack.specs.declared.jumping.Jumped.{Jumped}
use Rattle.cr_stack.specs.declared.jumping.Jumped.TheVariants as j
use Rattle.cr_stack.specs.declared.jumping.Fate.{Fate}
use Rattle.cr_stack.specs.declared.jumping.Fate.TheVariants as f
use Rattle.cr_stack.specs.Layers.{Layers, filled, plug, now_of, term, frame_of, frame_count}
use Rattle.cr_stack.specs.Neat.{IsNeatAround, IsNeatNow, AreNeat, IsNeat}
use Rattle.cr_stack.specs.Steps.{IsReduced, finished}
use Rattle.cr_stack.specs.Jumps.{exit_of, JumpsTo, lets_through, AllLet, Stopped, fate, given, Lands, Comes, left_frames, returns}
use Rattle.cr_stack.proofs.Plugs.{at_layer, jumps_filled, sees_plug, plug_append, reduced_is, neat_front, neat_back, neat_append}
use Rattle.cr_stack.proofs.Stacks.{frame_count_append, finished_neat}

-- ---- the search

pub stopped_at : (ks : List Around) (e : Exit) (at : ℕ) (k : Around) → at < length ks → k ≡ get_or ks at k → lets_through k e ≡ false → AllLet e (drop (at + 1) ks) → Stopped ks e at
stopped_at ks e at k lt is stops rest =
    let s : at + 1 ≡ suc at = omega arith in by ks at lt is (subst (λ n. AllLet e (drop n ks)) s rest)
  where
    by : (ks : List Around) (at : ℕ) → at < length ks → k ≡ get_or ks at k → AllLet e (drop (suc at) ks) → Stopped ks e at
    by [] at lt is rest = absurd (omega arith)
    by (l ∷ ks) zero lt is rest = record { below = []; it = l; above = ks; split = refl; place = refl; stops = subst (λ i. lets_through i e ≡ false) is stops; rest = rest }
    by (l ∷ ks) (suc at) lt is rest =
        let s = by ks at (omega arith) is rest in
        record { below = l ∷ s.below; it = s.it; above = s.above; split = ap (λ r. l ∷ r) s.split; place = let p = s.place in omega (arith, p); stops = s.stops; rest = s.rest }

pub let_more : (ks : List Around) (e : Exit) (at : ℕ) (k : Around) → at < length ks → k ≡ get_or ks at k → lets_through k e ≡ true → AllLet e (drop (at + 1) ks) → AllLet e (drop at ks)
let_more ks e at k lt is lets rest =
    let s : at + 1 ≡ suc at = omega arith in by ks at lt is (subst (λ n. AllLet e (drop n ks)) s rest)
  where
    by : (ks : List Around) (at : ℕ) → at < length ks → k ≡ get_or ks at k → AllLet e (drop (suc at) ks) → AllLet e (drop at ks)
    by [] at lt is rest = absurd (omega arith)
    by (l ∷ ks) zero lt is rest = (subst (λ i. lets_through i e ≡ true) is lets, rest)
    by (l ∷ ks) (suc at) lt is rest = by ks at (omega arith) is rest

pub let_end : (ks : List Around) (e : Exit) → AllLet e (drop (length ks) ks)
let_end [] e = tt
let_end (k ∷ ks) e = let_end ks e

-- ---- the cut

take_it : (b c : List Around) (k : Around) → take (suc (length b)) (b ++ k ∷ c) ≡ b ++ k ∷ []
take_it [] c k = refl
take_it (l ∷ b) c k = ap (λ r. l ∷ r) (take_it b c k)

pub cut_is : (ks : List Around) (e : Exit) (at : ℕ) (s : Stopped ks e at) → take (at + 1) ks ≡ s.below ++ s.it ∷ []
cut_is ks e at s =
    let p = s.place in
    let n : at + 1 ≡ suc (length s.below) = omega (arith, p) in
    ap (λ l. take (at + 1) l) s.split ∙ ap (λ n. take n (s.below ++ s.it ∷ s.above)) n ∙ take_it s.below s.above s.it

pub it_is : (ks : List Around) (e : Exit) (at : ℕ) (s : Stopped ks e at) (k : Around) → k ≡ get_or ks at k → k ≡ s.it
it_is ks e at s k is =
    is ∙ ap (λ l. get_or l at k) s.split ∙ ap (λ n. get_or (s.below ++ s.it ∷ s.above) n k) (sym s.place) ∙ get_or-append_seam s.below s.it s.above k

pub stopped_within : (ks : List Around) (e : Exit) (at : ℕ) → Stopped ks e at → at < length ks
stopped_within ks e at s = let p = s.place in let q = ap length s.split in omega (arith, p, q, length-append s.below (s.it ∷ s.above))

-- lists that end alike
snoc : (b c : List Around) (k l : Around) → b ++ k ∷ [] ≡ c ++ l ∷ [] → (b ≡ c) × (k ≡ l)
snoc [] [] k l e = let s : k ≡ l = cc in (refl, s)
snoc [] (z ∷ c) k l e = let q = ap length e in absurd (omega (arith, q, length-append c (l ∷ [])))
snoc (z ∷ b) [] k l e = let q = ap length e in absurd (omega (arith, q, length-append b (k ∷ [])))
snoc (z ∷ b) (w ∷ c) k l e =
    let h : z ≡ w = cc in
    let t : b ++ k ∷ [] ≡ c ++ l ∷ [] = cc in
    let r = snoc b c k l t in
    (ap (λ r. z ∷ r) r.0 ∙ ap (λ x. x ∷ c) h, r.1)

-- the same of equal layers
pub stopped_same : (ks ls : List Around) (e d : Exit) (at : ℕ) → ks ≡ ls → e ≡ d → Stopped ks e at → Stopped ls d at
stopped_same ks ls e d at p q s = subst (λ l. Stopped l d at) p (subst (λ x. Stopped ks x at) q s)

-- what the code does where one stops it
pub stops_with : (ks ds ls : List Around) (n m : Now) (e : Exit) (at : ℕ) (k : Around) (told : Jumped) (o : Fate) → ds ≡ ks → Stopped ds e at → k ≡ get_or ks at k → o ≡ fate k e → ((s : Stopped ks e at) → Lands ks n e s.below s.it o ls m told) → Comes ks n e ls m told
stops_with ks ds ls n m e at k told o same s is fate_is make =
    let s' = stopped_same ds ks e e at same refl s in
    inr (record {
      at = at;
      stopped = s';
      lands = subst (λ f. Lands ks n e s'.below s'.it f ls m told) (fate_is ∙ ap (λ i. fate i e) (it_is ks e at s' k is)) (make s');
    })

pub gives_up : (ks ts ls : List Around) (n m : Now) (e : Exit) (at : ℕ) (k : Around) (v : Value) (leaves : Bool) → ts ≡ take (at + 1) ks → ts ≡ ls ++ k ∷ [] → m ≡ finished k (now.Value v) → v ≡ given e → (s : Stopped ks e at) → Lands ks n e s.below s.it (f.Gives leaves) ls m (j.Ends leaves)
gives_up ks ts ls n m e at k v leaves cut split is value s =
    let q = snoc ls s.below k s.it (sym split ∙ cut ∙ cut_is ks e at s) in
    (q.0, is ∙ ap (λ i. finished i (now.Value v)) q.1 ∙ ap (λ w. finished s.it (now.Value w)) value, refl)

pub some_left : (ks ts : List Around) (e : Exit) (at : ℕ) → ts ≡ take (at + 1) ks → Stopped ks e at → 0 < length ts
some_left ks ts e at cut s = let q = ap length (cut ∙ cut_is ks e at s) in omega (arith, q, length-append s.below (s.it ∷ []))

-- ---- what layers make of it

module _ (P : World) where
  passes_one : (k : Around) (e : Exit) → lets_through k e ≡ true → at_layer P (exit_of e) k m.Outwards ≡ m.Outwards
  passes_one (a.Part n vs) e h = refl
  passes_one (a.Choice n vss vs) e h = refl
  passes_one (a.Turn n) x.Again h = absurd (cc)
  passes_one (a.Turn n) x.Break h = absurd (cc)
  passes_one (a.Turn n) (x.Next v) h = absurd (cc)
  passes_one (a.Turn n) (x.Return v) h = refl
  passes_one (a.Frame gives) e h = absurd (cc)
  passes_one a.Body e h = absurd (cc)

  -- through layers that all let it
  through : (e : Exit) (ks : List Around) (t u : Term) → AreNeat P.rows ks → AllLet e ks → m.redex t ≡ Some u → m.jump (exit_of e) t ≡ m.Outwards → m.jump (exit_of e) (plug P ks t) ≡ m.Outwards
  through e [] t u h all r o = o
  through e (k ∷ ks) t u h all r o =
      jumps_filled P (exit_of e) k (plug P ks t) u h.0 (sees_plug P ks t u h.1 r)
      ∙ ap (at_layer P (exit_of e) k) (through e ks t u h.1 all.1 r o)
      ∙ passes_one k e all.0

  ends_one : (k : Around) (e : m.Exit) (leaves : Bool) (t : Term) → at_layer P e k (m.Ends leaves t) ≡ m.Ends leaves (filled P k t)
  ends_one (a.Part n vs) e leaves t = refl
  ends_one (a.Choice n vss vs) e leaves t = refl
  ends_one (a.Turn n) e leaves t = refl
  ends_one (a.Frame gives) e leaves t = refl
  ends_one a.Body e leaves t = refl

  bars_one : (k : Around) (e : m.Exit) → at_layer P e k m.Barred ≡ m.Barred
  bars_one (a.Part n vs) e = refl
  bars_one (a.Choice n vss vs) e = refl
  bars_one (a.Turn n) e = refl
  bars_one (a.Frame gives) e = refl
  bars_one a.Body e = refl

  -- below where it ended
  ended : (e : m.Exit) (ks : List Around) (t u w : Term) (leaves : Bool) → AreNeat P.rows ks → m.redex t ≡ Some u → m.jump e t ≡ m.Ends leaves w → m.jump e (plug P ks t) ≡ m.Ends leaves (plug P ks w)
  ended e [] t u w leaves h r o = o
  ended e (k ∷ ks) t u w leaves h r o =
      jumps_filled P e k (plug P ks t) u h.0 (sees_plug P ks t u h.1 r)
      ∙ ap (at_layer P e k) (ended e ks t u w leaves h.1 r o)
      ∙ ends_one k e leaves (plug P ks w)

  barred : (e : m.Exit) (ks : List Around) (t u : Term) → AreNeat P.rows ks → m.redex t ≡ Some u → m.jump e t ≡ m.Barred → m.jump e (plug P ks t) ≡ m.Barred
  barred e [] t u h r o = o
  barred e (k ∷ ks) t u h r o =
      jumps_filled P e k (plug P ks t) u h.0 (sees_plug P ks t u h.1 r)
      ∙ ap (at_layer P e k) (barred e ks t u h.1 r o)
      ∙ bars_one k e

  -- what the layer that stops it makes of it
  abbrev AtFate : Around → Exit → Fate → Type 0
  AtFate k e f.Bars = at_layer P (exit_of e) k m.Outwards ≡ m.Barred
  AtFate k e (f.Begins n) = at_layer P (exit_of e) k m.Outwards ≡ m.Ends false (filled P k (tree P n))
  AtFate k e (f.Gives leaves) = at_layer P (exit_of e) k m.Outwards ≡ m.Ends leaves (now_of P (finished k (now.Value (given e))))

  at_fate : (k : Around) (e : Exit) → lets_through k e ≡ false → AtFate k e (fate k e)
  at_fate (a.Part n vs) e h = absurd (cc)
  at_fate (a.Choice n vss vs) e h = absurd (cc)
  at_fate (a.Turn n) x.Again h = refl
  at_fate (a.Turn n) x.Break h = refl
  at_fate (a.Turn n) (x.Next v) h = refl
  at_fate (a.Turn n) (x.Return v) h = absurd (cc)
  at_fate (a.Frame gives) x.Again h = refl
  at_fate (a.Frame gives) x.Break h = refl
  at_fate (a.Frame gives) (x.Next v) h = refl
  at_fate (a.Frame None) (x.Return v) h = refl
  at_fate (a.Frame (Some object)) (x.Return v) h = refl
  at_fate a.Body x.Again h = refl
  at_fate a.Body x.Break h = refl
  at_fate a.Body (x.Next v) h = refl
  at_fate a.Body (x.Return v) h = refl

  module _ (e : Exit) (old new : Layers) (h : IsNeat P.rows old) (reduced : IsReduced old.focus) where
    red : m.redex (now_of P old.focus) ≡ Some (now_of P old.focus)
    red = (reduced_is P old.focus h.focus reduced).is

    out : m.jump (exit_of e) (now_of P old.focus) ≡ m.Outwards
    out = (reduced_is P old.focus h.focus reduced).jump_is (exit_of e)

    landed : (below above : List Around) (k : Around) (told : Jumped) (o : Fate) → old.around ≡ below ++ k ∷ above → AllLet e above → AtFate k e o → Lands old.around old.focus e below k o new.around new.focus told → JumpsTo P e old told new
    landed below above k told o split all made lands = by o made lands
      where
        neat : AreNeat P.rows (below ++ k ∷ above)
        neat = subst (AreNeat P.rows) split h.around

        back : AreNeat P.rows (k ∷ above)
        back = neat_back P.rows below (k ∷ above) neat

        whole : term P old ≡ plug P below (filled P k (plug P above (now_of P old.focus)))
        whole = ap (λ l. plug P l (now_of P old.focus)) split ∙ plug_append P below (k ∷ above) (now_of P old.focus)

        sees : m.redex (filled P k (plug P above (now_of P old.focus))) ≡ Some (now_of P old.focus)
        sees = sees_plug P (k ∷ above) (now_of P old.focus) (now_of P old.focus) back red

        here : m.jump (exit_of e) (filled P k (plug P above (now_of P old.focus))) ≡ at_layer P (exit_of e) k m.Outwards
        here =
            jumps_filled P (exit_of e) k (plug P above (now_of P old.focus)) (now_of P old.focus) back.0 (sees_plug P above (now_of P old.focus) (now_of P old.focus) back.1 red)
            ∙ ap (at_layer P (exit_of e) k) (through e above (now_of P old.focus) (now_of P old.focus) back.1 all red out)

        front : AreNeat P.rows below
        front = neat_front P.rows below (k ∷ above) neat

        by : (o : Fate) → AtFate k e o → Lands old.around old.focus e below k o new.around new.focus told → JumpsTo P e old told new
        by f.Bars made lands =
            subst (λ t. JumpsTo P e old t new) (sym lands.2)
            (ap (m.jump (exit_of e)) whole ∙ barred (exit_of e) below (filled P k (plug P above (now_of P old.focus))) (now_of P old.focus) front sees (here ∙ made), lands.0, lands.1)
        by (f.Begins n) made lands =
            subst (λ t. JumpsTo P e old t new) (sym lands.2)
            (ap (m.jump (exit_of e)) whole
            ∙ ended (exit_of e) below (filled P k (plug P above (now_of P old.focus))) (now_of P old.focus) (filled P k (tree P n)) false front sees (here ∙ made)
            ∙ ap (m.Ends false)
            (sym (plug_append P below (k ∷ []) (tree P n))
            ∙ ap (λ l. plug P l (tree P n)) (sym lands.0)
            ∙ ap (λ n. plug P new.around (now_of P n)) (sym lands.1)))
        by (f.Gives leaves) made lands =
            subst (λ t. JumpsTo P e old t new) (sym lands.2)
            (ap (m.jump (exit_of e)) whole
            ∙ ended (exit_of e) below (filled P k (plug P above (now_of P old.focus))) (now_of P old.focus) (now_of P (finished k (now.Value (given e)))) leaves front sees (here ∙ made)
            ∙ ap (m.Ends leaves)
            (ap (λ l. plug P l (now_of P (finished k (now.Value (given e))))) (sym lands.0)
            ∙ ap (λ n. plug P new.around (now_of P n)) (sym lands.1)))

    pub comes : (told : Jumped) → Comes old.around old.focus e new.around new.focus told → JumpsTo P e old told new
    comes told (inl p) =
        subst (λ t. JumpsTo P e old t new) (sym p.told_is)
        (through e old.around (now_of P old.focus) (now_of P old.focus) h.around p.all red out, p.around, p.focus)
    comes told (inr s) =
        landed s.stopped.below s.stopped.above s.stopped.it told (fate s.stopped.it e) s.stopped.split s.stopped.rest (at_fate s.stopped.it e s.stopped.stops) s.lands

-- ---- what is neat stays neat

abbrev FateNeat : List Row → Fate → Type 0
FateNeat rows f.Bars = Unit {0}
FateNeat rows (f.Begins n) = IsNeatNow rows (now.Node n)
FateNeat rows (f.Gives leaves) = Unit {0}

fate_neat : (rows : List Row) (k : Around) (e : Exit) → lets_through k e ≡ false → IsNeatAround rows k → FateNeat rows (fate k e)
fate_neat rows (a.Part n vs) e stops h = absurd (cc)
fate_neat rows (a.Choice n vss vs) e stops h = absurd (cc)
fate_neat rows (a.Turn n) x.Again stops h = h
fate_neat rows (a.Turn n) x.Break stops h = tt
fate_neat rows (a.Turn n) (x.Next v) stops h = h
fate_neat rows (a.Turn n) (x.Return v) stops h = absurd (cc)
fate_neat rows (a.Frame gives) x.Again stops h = tt
fate_neat rows (a.Frame gives) x.Break stops h = tt
fate_neat rows (a.Frame gives) (x.Next v) stops h = tt
fate_neat rows (a.Frame gives) (x.Return v) stops h = tt
fate_neat rows a.Body x.Again stops h = tt
fate_neat rows a.Body x.Break stops h = tt
fate_neat rows a.Body (x.Next v) stops h = tt
fate_neat rows a.Body (x.Return v) stops h = tt

same_neat : (rows : List Row) (old new : Layers) → new.around ≡ old.around → new.focus ≡ old.focus → IsNeat rows old → IsNeat rows new
same_neat rows old new e f h = record { around = subst (AreNeat rows) (sym e) h.around; focus = subst (IsNeatNow rows) (sym f) h.focus }

landed_neat : (rows : List Row) (e : Exit) (old new : Layers) (below above : List Around) (k : Around) (told : Jumped) (o : Fate) → old.around ≡ below ++ k ∷ above → FateNeat rows o → Lands old.around old.focus e below k o new.around new.focus told → IsNeat rows old → IsNeat rows new
landed_neat rows e old new below above k told f.Bars split nf lands h = same_neat rows old new lands.0 lands.1 h
landed_neat rows e old new below above k told (f.Begins n) split nf lands h =
    let all = subst (AreNeat rows) split h.around in
    record {
      around = subst (AreNeat rows) (sym lands.0) (neat_append rows below (k ∷ []) (neat_front rows below (k ∷ above) all) ((neat_back rows below (k ∷ above) all).0, tt));
      focus = subst (IsNeatNow rows) (sym lands.1) nf;
    }
landed_neat rows e old new below above k told (f.Gives leaves) split nf lands h =
    record {
      around = subst (AreNeat rows) (sym lands.0) (neat_front rows below (k ∷ above) (subst (AreNeat rows) split h.around));
      focus = subst (IsNeatNow rows) (sym lands.1) (finished_neat rows k (now.Value (given e)) tt);
    }

pub comes_neat : (rows : List Row) (e : Exit) (old new : Layers) (told : Jumped) → Comes old.around old.focus e new.around new.focus told → IsNeat rows old → IsNeat rows new
comes_neat rows e old new told (inl p) h = same_neat rows old new p.around p.focus h
comes_neat rows e old new told (inr s) h =
    let it : IsNeatAround rows s.stopped.it = (neat_back rows s.stopped.below (s.stopped.it ∷ s.stopped.above) (subst (AreNeat rows) s.stopped.split h.around)).0 in
    landed_neat rows e old new s.stopped.below s.stopped.above s.stopped.it told (fate s.stopped.it e) s.stopped.split (fate_neat rows s.stopped.it e s.stopped.stops it) s.lands h

-- ---- calls in progress

let_one : (e : Exit) (k : Around) → lets_through k e ≡ true → frame_of k ≡ 0
let_one e (a.Part n vs) h = refl
let_one e (a.Choice n vss vs) h = refl
let_one e (a.Turn n) h = refl
let_one e (a.Frame gives) h = absurd (cc)
let_one e a.Body h = refl

let_count : (e : Exit) (ks : List Around) → AllLet e ks → frame_count ks ≡ 0
let_count e [] h = refl
let_count e (k ∷ ks) h = omega (arith, let_one e k h.0, let_count e ks h.1)

left_outwards : (b : Bool) → left_frames b j.Outwards ≡ 0
left_outwards true = refl
left_outwards false = refl

left_barred : (b : Bool) → left_frames b j.Barred ≡ 0
left_barred true = refl
left_barred false = refl

abbrev FateCount : Around → Exit → Fate → Type 0
FateCount k e f.Bars = Unit {0}
FateCount k e (f.Begins n) = returns e ≡ false
FateCount k e (f.Gives leaves) = left_frames (returns e) (j.Ends leaves) ≡ frame_of k

fate_count : (k : Around) (e : Exit) → lets_through k e ≡ false → FateCount k e (fate k e)
fate_count (a.Part n vs) e stops = absurd (cc)
fate_count (a.Choice n vss vs) e stops = absurd (cc)
fate_count (a.Turn n) x.Again stops = refl
fate_count (a.Turn n) x.Break stops = refl
fate_count (a.Turn n) (x.Next v) stops = refl
fate_count (a.Turn n) (x.Return v) stops = absurd (cc)
fate_count (a.Frame gives) x.Again stops = tt
fate_count (a.Frame gives) x.Break stops = tt
fate_count (a.Frame gives) (x.Next v) stops = tt
fate_count (a.Frame gives) (x.Return v) stops = refl
fate_count a.Body x.Again stops = tt
fate_count a.Body x.Break stops = tt
fate_count a.Body (x.Next v) stops = refl
fate_count a.Body (x.Return v) stops = tt

landed_count : (e : Exit) (ks ls below above : List Around) (n m : Now) (k : Around) (told : Jumped) (o : Fate) → ks ≡ below ++ k ∷ above → AllLet e above → FateCount k e o → Lands ks n e below k o ls m told → frame_count ls + left_frames (returns e) told ≡ frame_count ks
landed_count e ks ls below above n m k told f.Bars split all c lands =
    let q = ap frame_count lands.0 in
    let z : left_frames (returns e) told ≡ 0 = ap (left_frames (returns e)) lands.2 ∙ left_barred (returns e) in
    omega (arith, q, z)
landed_count e ks ls below above n m k told (f.Begins node) split all c lands =
    let q = ap frame_count lands.0 ∙ frame_count_append below (k ∷ []) in
    let p = ap frame_count split ∙ frame_count_append below (k ∷ above) in
    let w = let_count e above all in
    let z : left_frames (returns e) told ≡ 0 = ap (left_frames (returns e)) lands.2 ∙ ap (λ b. left_frames b (j.Ends false)) c in
    omega (arith, q, p, w, z)
landed_count e ks ls below above n m k told (f.Gives leaves) split all c lands =
    let q = ap frame_count lands.0 in
    let p = ap frame_count split ∙ frame_count_append below (k ∷ above) in
    let w = let_count e above all in
    let z : left_frames (returns e) told ≡ frame_of k = ap (left_frames (returns e)) lands.2 ∙ c in
    omega (arith, q, p, w, z)

pub comes_count : (e : Exit) (ks ls : List Around) (n m : Now) (told : Jumped) → Comes ks n e ls m told → frame_count ls + left_frames (returns e) told ≡ frame_count ks
comes_count e ks ls n m told (inl p) =
    let q = ap frame_count p.around in
    let z : left_frames (returns e) told ≡ 0 = ap (left_frames (returns e)) p.told_is ∙ left_outwards (returns e) in
    omega (arith, q, z)
comes_count e ks ls n m told (inr s) =
    landed_count e ks ls s.stopped.below s.stopped.above n m s.stopped.it told (fate s.stopped.it e) s.stopped.split s.stopped.rest (fate_count s.stopped.it e s.stopped.stops) s.lands
