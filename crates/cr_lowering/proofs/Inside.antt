-- Scopes that begin and end, and parameters.
use Rattle.std.specs.Prelude.{slice_get, slice_set}
use Rattle.std.proofs.Common.{◌≡◌, ℕ, zero, suc, ◌+◌, ◌<◌, ◌≤◌, ◌≢◌, ◌⊎◌, inl, inr, Bool, List, [], ◌∷◌, ◌++◌, length, map, Option, Some, None, refl, sym, ap, ◌∙◌, subst, arith, length-append}
use Rattle.std.proofs.Math.ListN.{length-set}
use Rattle.std.proofs.lemmas.Bool.{cases_lt}
use Rattle.cr_base.specs.declared.ids.NameId.{NameId}
use Rattle.cr_core.specs.declared.form.Form.{Form}
use Rattle.cr_core.specs.declared.form.Form.TheVariants as f
use Rattle.cr_core.specs.declared.form.ScopeId.{ScopeId}
use Rattle.cr_core.specs.declared.row.Place.{Place}
use Rattle.cr_core.specs.Core.{Core, one}
use Rattle.cr_core.specs.Arena.{Opening, Opens, opening}
use Rattle.cr_core.specs.Shape as sh
use Rattle.cr_core.specs.Shape.{Role, role, Portion, portions, Are, Fits, where_told}
use Rattle.cr_making.specs.declared.naming.Opened.{Opened}
use Rattle.cr_making.specs.Naming.{State, Given, fresh_scope, with_slots, settled, left_by, left}
use Rattle.cr_making.specs.Making.{Making, gives, nothing, ◌▸◌, wrapped, scoped, apart}
use Rattle.cr_lowering.proofs.Grows.{Slotted, Frame, frame, frames, AreWider, wider_refl, AreNamed, AreOpen, open_more, IsState, Extends, KnowsForm, knows_more, get_push}
use Rattle.cr_lowering.proofs.Fresh.{slots_at, frame_at, frames_in, sees_out, OpensWell, Known, known_more, OpensAll, all_opened, ParametersFrom, parameters_join, NoParameter, no_parameters, count, count_join}
use Rattle.cr_lowering.proofs.Told.{scope_in, ToldIn, InSome, InEnded, NamedSlot, none_bears, ended_push, OldOrTold}
use Rattle.cr_lowering.proofs.Good.{Does, Good, Always, always_keeps, good_as, good_none, good_many, good_join, HasName, knows_plain, knows_name}

-- ---- what is written at a place

get_set_other : {A : Type 0} (xs : List A) (i k : ℕ) (v : A) → k ≢ i → slice_get (slice_set xs i v) k ≡ slice_get xs k
get_set_other [] i k v apart = refl
get_set_other (x ∷ xs) zero zero v apart = absurd (apart refl)
get_set_other (x ∷ xs) zero (suc k) v apart = refl
get_set_other (x ∷ xs) (suc i) zero v apart = refl
get_set_other (x ∷ xs) (suc i) (suc k) v apart = get_set_other xs i k v (λ e. apart (ap suc e))

get_set_here : {A : Type 0} (xs : List A) (i : ℕ) (v : A) → i < length xs → slice_get (slice_set xs i v) i ≡ Some v
get_set_here [] i v lt = absurd (omega (arith, lt))
get_set_here (x ∷ xs) zero v lt = refl
get_set_here (x ∷ xs) (suc i) v lt = get_set_here xs i v (omega (arith, lt))

get_front : {A : Type 0} (xs : List A) (x : A) (k : ℕ) → k < length xs → slice_get (xs ++ x ∷ []) k ≡ slice_get xs k
get_front [] x k lt = absurd (omega (arith, lt))
get_front (y ∷ xs) x zero lt = refl
get_front (y ∷ xs) x (suc k) lt = get_front xs x k (omega (arith, lt))

get_there : {A : Type 0} (xs : List A) (i : ℕ) → i < length xs → (x : A) × (slice_get xs i ≡ Some x)
get_there [] i lt = absurd (omega (arith, lt))
get_there (x ∷ xs) zero lt = (x, refl)
get_there (x ∷ xs) (suc i) lt = get_there xs i (omega (arith, lt))

pub settled_length : (o : Opened) (ss : List Slotted) → length (settled o ss) ≡ length ss
settled_length o ss = by_option (slice_get ss o.number.0)
  where
    by_option : (x : Option Slotted) → length (with_slots o ss x) ≡ length ss
    by_option None = refl
    by_option (Some before) = length-set ss o.number.0 o.slots

pub settled_other : (o : Opened) (ss : List Slotted) (k : ℕ) → k ≢ o.number.0 → slice_get (settled o ss) k ≡ slice_get ss k
settled_other o ss k apart = by_option (slice_get ss o.number.0)
  where
    by_option : (x : Option Slotted) → slice_get (with_slots o ss x) k ≡ slice_get ss k
    by_option None = refl
    by_option (Some before) = get_set_other ss o.number.0 k o.slots apart

pub settled_here : (o : Opened) (ss : List Slotted) → o.number.0 < length ss → slice_get (settled o ss) o.number.0 ≡ Some o.slots
settled_here o ss lt =
    let r = get_there ss o.number.0 lt in
    ap (λ (x : Option Slotted). slice_get (with_slots o ss x) o.number.0) r.1 ∙ get_set_here ss o.number.0 o.slots lt

-- the slots that are settled bear names that are there
pub settled_named : (o : Opened) (ss : List Slotted) (n : ℕ) → o.number.0 < length ss → AreNamed n o.slots → ((k : ℕ) (xs : Slotted) → slice_get ss k ≡ Some xs → AreNamed n xs) → (k : ℕ) (xs : Slotted) → slice_get (settled o ss) k ≡ Some xs → AreNamed n xs
settled_named o ss n lt new old k xs is = by_place (cases_lt k o.number.0) (cases_lt o.number.0 k)
  where
    by_place : (k < o.number.0) ⊎ (o.number.0 ≤ k) → (o.number.0 < k) ⊎ (k ≤ o.number.0) → AreNamed n xs
    by_place (inl below) side = old k xs (sym (settled_other o ss k (λ e. absurd (omega (arith, below, e)))) ∙ is)
    by_place (inr above) (inl over) = old k xs (sym (settled_other o ss k (λ e. absurd (omega (arith, over, e)))) ∙ is)
    by_place (inr above) (inr under) =
        let same : k ≡ o.number.0 = omega (arith, above, under) in
        let both : Some xs ≡ Some o.slots = sym is ∙ ap (slice_get (settled o ss)) same ∙ settled_here o ss lt in
        let slots : o.slots ≡ xs = cc in
        subst (AreNamed n) slots new

-- a slot that is settled with a name bore it before
pub settled_older : (s : State) (k : ScopeId) (i : ℕ) → s.inner.number.0 < length s.scopes → InEnded (slice_get (settled s.inner s.scopes) k.0) i → NamedSlot s k i
settled_older s k i lt x = by_place (cases_lt k.0 s.inner.number.0) (cases_lt s.inner.number.0 k.0)
  where
    elsewhere : k.0 ≢ s.inner.number.0 → NamedSlot s k i
    elsewhere apart = inr (subst (λ (y : Option Slotted). InEnded y i) (settled_other s.inner s.scopes k.0 apart) x)

    by_place : (k.0 < s.inner.number.0) ⊎ (s.inner.number.0 ≤ k.0) → (s.inner.number.0 < k.0) ⊎ (k.0 ≤ s.inner.number.0) → NamedSlot s k i
    by_place (inl below) side = elsewhere (λ e. absurd (omega (arith, below, e)))
    by_place (inr above) (inl over) = elsewhere (λ e. absurd (omega (arith, over, e)))
    by_place (inr above) (inr under) =
        let same : s.inner.number.0 ≡ k.0 = omega (arith, above, under) in
        let is : s.inner.number ≡ k = ap (λ (n : ℕ). let id : ScopeId = record { 0 = n } in id) same in
        let slots : slice_get (settled s.inner s.scopes) k.0 ≡ Some s.inner.slots = ap (slice_get (settled s.inner s.scopes)) (sym same) ∙ settled_here s.inner s.scopes lt in
        inl (inl (is, subst (λ (y : Option Slotted). InEnded y i) slots x))

-- ---- a scope inside these, which it sees

abbrev entered_in : List Opened → State → State
entered_in os s = record s { scopes = s.scopes ++ [] ∷ []; inner = fresh_scope s; around = os }

abbrev ended_in : State → State → State
ended_in s t = record t { scopes = settled t.inner t.scopes; inner = s.inner; around = s.around }

none_named : (n : ℕ) → AreNamed n []
none_named n = record { named = λ i name is. absurd cc }

entered_state : (os : List Opened) (s : State) → AreOpen (length s.scopes) (length s.names) os → IsState s → IsState (entered_in os s)
entered_state os s out i = record {
  open_ = (omega (arith, length-append s.scopes (let fresh_slots : List Slotted = [] ∷ [] in fresh_slots)), omega arith, none_named (length s.names), out);
  closed = λ k xs is. by_place k xs is (cases_lt k (length s.scopes));
}
  where
    by_place : (k : ℕ) (xs : Slotted) → slice_get (s.scopes ++ [] ∷ []) k ≡ Some xs → (k < length s.scopes) ⊎ (length s.scopes ≤ k) → AreNamed (length s.names) xs
    by_place k xs is (inl lt) = i.closed k xs ((get_push s.scopes [] xs k is).0 lt)
    by_place k xs is (inr ge) = subst (AreNamed (length s.names)) ((get_push s.scopes [] xs k is).1 ge) (none_named (length s.names))

-- what such a form knows and opens
record OpensHere (form : Form) (os : List Opened) (s : State) : Type 0 where
  pub opens : opening form ≡ Opens (record { 0 = length s.scopes })
  pub knows : KnowsForm form s
  pub well : (ss : List Slotted) → length s.scopes < length ss → OpensWell (opening form) (sees_out form) ss (frames s)
  pub sees : (ss : List Slotted) → frames_in form ss (frames s) ≡ frame_at ss (record { 0 = length s.scopes }) ∷ map frame os
  pub around : (k : ScopeId) (i : ℕ) → InSome os k i → InSome (s.inner ∷ s.around) k i

-- what stands in the scope, whose slots are empty when it begins
pub record DoesBody (ps : List Portion) (s : State) (g : Given Core) : Type 0 where
  pub does : Does ps s g
  pub parameters : ParametersFrom 0 g.value

-- a slot that bears a name behind such a scope bore it before, or is told in the scope
scope_told : (form : Form) (at : Place) (os : List Opened) (s t : State) (c : Core) (k : ScopeId) (i : ℕ) → OpensHere form os s → t.inner.number.0 < length t.scopes → (NamedSlot t k i → OldOrTold (entered_in os s) c k i) → NamedSlot (ended_in s t) k i → OldOrTold s (one form at c) k i
scope_told form at os s t c k i here lt inside (inl x) = inl (inl x)
scope_told form at os s t c k i here lt inside (inr x) = by_age (inside (settled_older t k i lt x))
  where
    by_scope : NamedSlot (entered_in os s) k i → NamedSlot s k i
    by_scope (inl (inl y)) = absurd (none_bears i y.1)
    by_scope (inl (inr y)) = inl (here.around k i y)
    by_scope (inr y) = inr (ended_push s.scopes k.0 i y)

    by_age : OldOrTold (entered_in os s) c k i → OldOrTold s (one form at c) k i
    by_age (inl y) = inl (by_scope y)
    by_age (inr y) = inr (inr (inl (subst (λ (o : Opening). ToldIn (scope_in o s.inner.number) k i c) (sym here.opens) y)))

scope_does : (form : Form) (at : Place) (os : List Opened) (s : State) (g : Given Core) → OpensHere form os s → IsState s → DoesBody (portions form) (entered_in os s) g → Does (sh.one (role form) ∷ []) s (gives (one form at g.value) (ended_in s g.after))
scope_does form at os s g here i body =
    let d = body.does in
    let t = g.after in
    let low = length s.scopes in
    let id : ScopeId = record { 0 = low } in
    let new : length (s.scopes ++ [] ∷ []) ≡ suc low = omega (arith, length-append s.scopes (let fresh_slots : List Slotted = [] ∷ [] in fresh_slots)) in
    let u = ended_in s t in
    let number : t.inner.number.0 ≡ low = ap (λ (k : ScopeId). k.0) d.extends.number in
    let many : length u.scopes ≡ length t.scopes = settled_length t.inner t.scopes in
    let longer : suc low ≤ length t.scopes = omega (arith, d.extends.scopes, new) in
    let extends : Extends s u = record {
      names = d.extends.names;
      texts = d.extends.texts;
      scopes = omega (arith, many, longer);
      kept = λ k lt.
          settled_other t.inner t.scopes k (λ e. absurd (omega (arith, e, number, lt)))
          ∙ d.extends.kept k (omega (arith, lt, new))
          ∙ get_front s.scopes [] k lt;
      number = refl;
      slots = omega arith;
      around = refl;
    } in
    let settled_slots : slice_get u.scopes low ≡ Some t.inner.slots = ap (slice_get u.scopes) (sym number) ∙ settled_here t.inner t.scopes (omega (arith, number, longer)) in
    let wider : AreWider (frames t) (frame_at u.scopes id ∷ map frame os) = (
      sym d.extends.number,
      (let same = ap (λ (x : Option Slotted). length (slots_at x)) settled_slots in omega arith),
      subst (λ (ps : List Opened). AreWider (map frame ps) (map frame os)) (sym d.extends.around) (wider_refl (map frame os)),
    ) in
    let inside : Known (length t.names) (length t.texts) u.scopes (frame_at u.scopes id ∷ map frame os) g.value =
    known_more (length t.names) (length t.names) (length t.texts) (length t.texts) t.scopes u.scopes (frames t) (frame_at u.scopes id ∷ map frame os) g.value
    (omega arith) (omega arith) (omega (arith, many))
    (λ k o. let r = d.opens.within k o in settled_other t.inner t.scopes k.0 (λ e. absurd (omega (arith, e, number, r.0, new))))
    wider d.known in
    record {
      extends = extends;
      state = record {
        open_ = open_more low (length u.scopes) (length s.names) (length t.names) (s.inner ∷ s.around) extends.scopes d.extends.names i.open_;
        closed = settled_named t.inner t.scopes (length t.names) (omega (arith, number, longer)) d.state.open_.2 d.state.closed;
      };
      known = (
        knows_more form s u extends here.knows,
        here.well u.scopes (omega (arith, many, longer)),
        subst (λ (fs : List Frame). Known (length t.names) (length t.texts) u.scopes fs g.value) (sym (here.sees u.scopes)) inside,
        tt,
      );
      opens = all_opened low (length u.scopes) form at g.value (omega (arith, many, longer)) here.opens
          (subst (λ (n : ℕ). OpensAll (suc low) n g.value) (sym many) (subst (λ (n : ℕ). OpensAll n (length t.scopes) g.value) new d.opens));
      shaped = (d.fits, d.shaped, tt);
      placed = (body.parameters, d.placed, tt);
      fits = (refl, tt);
      told = λ k j n. scope_told form at os s t g.value k j here (omega (arith, number, longer)) (d.told k j) n;
    }

-- ---- parameters

-- they are the next slots of the innermost scope
pub record DoesParameters (s : State) (g : Given Core) : Type 0 where
  pub does : Does (sh.many sh.Parameter ∷ []) s g
  pub from : ParametersFrom (length s.inner.slots) g.value
  pub many : length g.after.inner.slots ≡ length s.inner.slots + count g.value

pub record GoodParameters (m : Making) : Type 0 where
  pub does : (s : State) → IsState s → DoesParameters s (m s)

pub no_parameters_made : GoodParameters nothing
unfolding nothing
no_parameters_made = record { does = λ s i. record { does = (good_none Always sh.Parameter).does s i tt; from = tt; many = omega arith } }

pub parameters_joined : (m k : Making) → GoodParameters m → GoodParameters k → GoodParameters (m ▸ k)
unfolding ◌▸◌
parameters_joined m k x y = record {
  does = λ s i.
      let a = m s in
      let d = x.does s i in
      let b = k a.after in
      let e = y.does a.after d.does.state in
      let first : Good Always (sh.many sh.Parameter ∷ []) m = record { does = λ t j w. (x.does t j).does } in
      let second : Good Always (sh.many sh.Parameter ∷ []) k = record { does = λ t j w. (y.does t j).does } in
      record {
        does = (good_many Always sh.Parameter m k always_keeps first second).does s i tt;
        from = parameters_join (length s.inner.slots) a.value b.value d.from (subst (λ (n : ℕ). ParametersFrom n b.value) d.many e.from);
        many = let both = count_join a.value b.value in omega (arith, d.many, e.many, both);
      };
}

pub parameters_good : (m : Making) → GoodParameters m → Good Always (sh.many sh.Parameter ∷ []) m
parameters_good m x = record { does = λ s i w. (x.does s i).does }

-- parameters, and then what has none
pub body_does : (ps : List Portion) (m k : Making) (s : State) → GoodParameters m → Good Always ps k → NoParameter ps → IsState s → length s.inner.slots ≡ 0 → DoesBody (sh.many sh.Parameter ∷ ps) s ((m ▸ k) s)
unfolding ◌▸◌
body_does ps m k s x y no_more i empty =
    let a = m s in
    let d = x.does s i in
    let b = k a.after in
    let e = y.does a.after d.does.state tt in
    record {
      does = (good_join Always (sh.many sh.Parameter ∷ []) ps m k always_keeps (parameters_good m x) y).does s i tt;
      parameters = parameters_join 0 a.value b.value (subst (λ (n : ℕ). ParametersFrom n a.value) empty d.from) (no_parameters (0 + count a.value) ps b.value no_more e.fits);
    }

no_front : (ps : List Portion) (ks : List Role) → Fits ps ks → Fits (sh.many sh.Parameter ∷ ps) ks
no_front ps ks x = ([], ks, refl, tt, x)

-- a body without parameters
pub plain_does : (ps : List Portion) (m : Making) (s : State) → Good Always ps m → NoParameter ps → IsState s → DoesBody (sh.many sh.Parameter ∷ ps) s (m s)
plain_does ps m s x no_more i = record {
  does = (good_as Always ps (sh.many sh.Parameter ∷ ps) m (no_front ps) x).does s i tt;
  parameters = no_parameters 0 ps (m s).value no_more (x.does s i tt).fits;
}

-- ---- methods and blocks

def_here : (id : NameId) (result written : Bool) (s : State) → id.0 < length s.names → OpensHere (f.Def id (record { 0 = length s.scopes }) result written) [] s
def_here id result written s known = record {
  opens = refl;
  knows = knows_name (f.Def id (record { 0 = length s.scopes }) result written) id s known refl refl refl refl;
  well = λ ss lt. (lt, tt);
  sees = λ ss. refl;
  around = λ k j x. absurd x;
}

block_here : (s : State) → IsState s → OpensHere (f.Block (record { 0 = length s.scopes })) (s.inner ∷ s.around) s
block_here s i = record {
  opens = refl;
  knows = knows_plain (f.Block (record { 0 = length s.scopes })) s refl refl refl refl;
  well = λ ss lt. (lt, i.open_.0);
  sees = λ ss. refl;
  around = λ k j x. x;
}

pub good_def : (W : State → Type 0) (id : NameId) (at : ℕ) (result written : Bool) (m : Making) → ((s : State) → W s → HasName id s) → ((s : State) → IsState s → length s.inner.slots ≡ 0 → DoesBody (sh.many sh.Parameter ∷ (where_told result sh.Union ++ sh.one sh.Term ∷ [])) s (m s)) → Good W (sh.one sh.Member ∷ []) (apart (λ (scope : ScopeId). wrapped (f.Def id scope result written) at m))
unfolding apart wrapped
good_def W id at result written m there body = record {
  does = λ s i w. scope_does (f.Def id (record { 0 = length s.scopes }) result written) _ [] s (m (entered_in [] s)) (def_here id result written s (there s w)) i (body (entered_in [] s) (entered_state [] s tt i) refl);
}

pub good_block : (at : ℕ) (m : Making) → ((s : State) → IsState s → length s.inner.slots ≡ 0 → DoesBody (sh.many sh.Parameter ∷ sh.one sh.Term ∷ []) s (m s)) → Good Always (sh.one sh.Block ∷ []) (scoped (λ (scope : ScopeId). wrapped (f.Block scope) at m))
unfolding scoped wrapped
good_block at m body = record {
  does = λ s i w.
      let os = s.inner ∷ s.around in
      let form = f.Block (record { 0 = length s.scopes }) in
      let out = open_more (length s.scopes) (length s.scopes) (length s.names) (length s.names) os (omega arith) (omega arith) i.open_ in
      let inside = body (entered_in os s) (entered_state os s out i) refl in
      let g = m (entered_in os s) in
      let place : Place = record { prelude = s.prelude; at = at } in
      let ends : ended_in s g.after ≡ left g.after = sym (ap (λ (xs : List Opened). left_by xs g.after) inside.does.extends.around) in
      subst (λ (t : State). Does (sh.one sh.Block ∷ []) s (gives (one form place g.value) t)) ends (scope_does form place os s g (block_here s i) i inside);
}
