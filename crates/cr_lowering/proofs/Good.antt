-- Ways to make core trees that are well formed.
use Rattle.std.specs.Prelude.{slice_get, IfSome, All}
use Rattle.std.proofs.Common.{◌≡◌, ℕ, zero, suc, ◌+◌, ◌<◌, ◌≤◌, ◌⊎◌, inl, inr, Bool, true, false, cond, List, [], ◌∷◌, ◌++◌, length, map, Option, Some, None, refl, sym, ap, ◌∙◌, subst, arith, length-append}
use Rattle.std.proofs.lemmas.Option.{IfSome_then}
use Rattle.cr_base.specs.declared.ids.NameId.{NameId}
use Rattle.cr_core.specs.declared.form.Form.{Form}
use Rattle.cr_core.specs.declared.form.Form.TheVariants as f
use Rattle.cr_core.specs.declared.form.Local.{Local}
use Rattle.cr_core.specs.declared.form.ScopeId.{ScopeId}
use Rattle.cr_core.specs.declared.form.TextId.{TextId}
use Rattle.cr_core.specs.Core.{Core, ◌⊕◌}
use Rattle.cr_core.specs.Arena.{opening}
use Rattle.cr_core.specs.Shape as sh
use Rattle.cr_core.specs.Shape.{Role, role, Portion, portions, Are, Fits}
use Rattle.cr_core.specs.Standing.{roles, Shaped}
use Rattle.cr_core.specs.Tree.{names_of, text_of, local_of}
use Rattle.cr_making.specs.declared.naming.Opened.{Opened}
use Rattle.cr_making.specs.declared.naming.Passed.{Passed}
use Rattle.cr_making.specs.Slots.{later, is_slot, slot_of}
use Rattle.cr_making.specs.Naming.{State, Given, named, literal, declared, declared_times, fresh, later_local, with_parameters, local_at, resolved_from, resolved, found, target_by, target, outermost_of, passed}
use Rattle.cr_making.specs.Making.{Making, gives, nothing, ◌▸◌, flipped, wrapped, leaf, using, in_prelude, all, Ahead, nest, nest_left, sequence}
use Rattle.cr_lowering.proofs.Grows.{Slotted, Frame, frame, frames, IsSeen, IsBelow, seen_wider, parameter_slot, AreOpen, IsState, Extends, extends_refl, extends_trans, frames_wider, KnowsForm, knows_more, place_known, named_extends, named_state, literal_extends, literal_state, declared_extends, declared_state}
use Rattle.cr_lowering.proofs.Fresh.{sees_out, Known, known_more, known_join, OpensAll, all_none, all_join, all_flipped, opens_none, opens_well_none, frames_none, all_node, Placed, placed_join, shaped_join, NoParameter, no_parameters, fits_join, fits_many, are_of, are_append, one_many, pairs_none, merge_pairs}
use Rattle.cr_lowering.proofs.Told.{ToldIn, NamedSlot, IsNew, declared_older, nameless_older, times_older, OldOrTold, told_later, told_join, told_flipped, told_node, told_naming}

-- what is made there is well formed, and goes on from the state
pub record Does (ps : List Portion) (s : State) (g : Given Core) : Type 0 where
  pub extends : Extends s g.after
  pub state : IsState g.after
  pub known : Known (length g.after.names) (length g.after.texts) g.after.scopes (frames g.after) g.value
  pub opens : OpensAll (length s.scopes) (length g.after.scopes) g.value
  pub shaped : Shaped g.value
  pub placed : Placed g.value
  pub fits : Fits ps (roles g.value)
  pub told : (k : ScopeId) (i : ℕ) → NamedSlot g.after k i → OldOrTold s g.value k i

-- in every state in which this holds
pub record Good (W : State → Type 0) (ps : List Portion) (m : Making) : Type 0 where
  pub does : (s : State) → IsState s → W s → Does ps s (m s)

abbrev pub Keeps : (State → Type 0) → Type 0
Keeps W = (s t : State) → Extends s t → W s → W t

abbrev pub Always : State → Type 0
Always s = Unit {0}

pub always_keeps : Keeps Always
always_keeps s t e w = tt

-- what is good always is good where more holds
pub good_where : (W : State → Type 0) (ps : List Portion) (m : Making) → Good Always ps m → Good W ps m
good_where W ps m x = record { does = λ s i w. x.does s i tt }

pub good_as : (W : State → Type 0) (ps qs : List Portion) (m : Making) → ((ks : List Role) → Fits ps ks → Fits qs ks) → Good W ps m → Good W qs m
good_as W ps qs m h x = record {
  does = λ s i w.
      let d = x.does s i w in
      record { extends = d.extends; state = d.state; known = d.known; opens = d.opens; shaped = d.shaped; placed = d.placed; fits = h (roles (m s).value) d.fits; told = d.told };
}

does_later : (ps : List Portion) (s t : State) (g : Given Core) → Extends s t → length t.scopes ≡ length s.scopes → ((k : ScopeId) (i : ℕ) → NamedSlot g.after k i → OldOrTold s g.value k i) → Does ps t g → Does ps s g
does_later ps s t g e same told d = record {
  extends = extends_trans s t g.after e d.extends;
  state = d.state;
  known = d.known;
  opens = subst (λ (n : ℕ). OpensAll n (length g.after.scopes) g.value) same d.opens;
  shaped = d.shaped;
  placed = d.placed;
  fits = d.fits;
  told = told;
}

-- ---- one after the other

pub good_nothing : (W : State → Type 0) → Good W [] nothing
unfolding nothing
good_nothing W = record { does = λ s i w. record { extends = extends_refl s; state = i; known = tt; opens = all_none (length s.scopes); shaped = tt; placed = tt; fits = tt; told = λ k j x. inl x } }

-- what the first makes is known behind the second
first_known : (ps qs : List Portion) (s : State) (a b : Given Core) → Does ps s a → Does qs a.after b → Known (length b.after.names) (length b.after.texts) b.after.scopes (frames b.after) a.value
first_known ps qs s a b x y =
    known_more (length a.after.names) (length b.after.names) (length a.after.texts) (length b.after.texts) a.after.scopes b.after.scopes (frames a.after) (frames b.after) a.value
    y.extends.names y.extends.texts y.extends.scopes
    (λ k o. let r = x.opens.within k o in y.extends.kept k.0 r.1)
    (frames_wider a.after b.after y.extends) x.known

does_join : (ps qs : List Portion) (s : State) (a b : Given Core) → Does ps s a → Does qs a.after b → Does (ps ++ qs) s (gives (a.value ⊕ b.value) b.after)
does_join ps qs s a b x y = record {
  extends = extends_trans s a.after b.after x.extends y.extends;
  state = y.state;
  known = known_join (length b.after.names) (length b.after.texts) b.after.scopes (frames b.after) a.value b.value (first_known ps qs s a b x y) y.known;
  opens = all_join (length s.scopes) (length a.after.scopes) (length b.after.scopes) a.value b.value x.extends.scopes y.extends.scopes x.opens y.opens;
  shaped = shaped_join a.value b.value x.shaped y.shaped;
  placed = placed_join a.value b.value x.placed y.placed;
  fits = fits_join ps qs a.value b.value x.fits y.fits;
  told = λ k i n. told_join s a.after a.value b.value k i x.extends.number (x.told k i) (y.told k i n);
}

pub good_join : (W : State → Type 0) (ps qs : List Portion) (m k : Making) → Keeps W → Good W ps m → Good W qs k → Good W (ps ++ qs) (m ▸ k)
unfolding ◌▸◌
good_join W ps qs m k keeps x y = record {
  does = λ s i w.
      let d = x.does s i w in
      does_join ps qs s (m s) (k (m s).after) d (y.does (m s).after d.state (keeps s (m s).after d.extends w));
}

pub good_flipped : (W : State → Type 0) (ps qs : List Portion) (m k : Making) → Keeps W → Good W ps m → Good W qs k → Good W (qs ++ ps) (flipped m k)
unfolding flipped
good_flipped W ps qs m k keeps x y = record {
  does = λ s i w.
      let a = m s in
      let d = x.does s i w in
      let b = k a.after in
      let e = y.does a.after d.state (keeps s a.after d.extends w) in
      record {
        extends = extends_trans s a.after b.after d.extends e.extends;
        state = e.state;
        known = known_join (length b.after.names) (length b.after.texts) b.after.scopes (frames b.after) b.value a.value e.known (first_known ps qs s a b d e);
        opens = all_flipped (length s.scopes) (length a.after.scopes) (length b.after.scopes) a.value b.value d.extends.scopes e.extends.scopes d.opens e.opens;
        shaped = shaped_join b.value a.value e.shaped d.shaped;
        placed = placed_join b.value a.value e.placed d.placed;
        fits = fits_join qs ps b.value a.value e.fits d.fits;
        told = λ q j n. told_flipped s a.after a.value b.value q j d.extends.number (d.told q j) (e.told q j n);
      };
}

-- ---- nodes

pub good_wrapped : (W : State → Type 0) (form : Form) (at : ℕ) (m : Making) → ((s : State) → W s → KnowsForm form s) → opens_none (opening form) → NoParameter (portions form) → Good W (portions form) m → Good W (sh.one (role form) ∷ []) (wrapped form at m)
unfolding wrapped
good_wrapped W form at m knows no_scope no_one x = record {
  does = λ s i w.
      let a = m s in
      let d = x.does s i w in
      let t = a.after in
      record {
        extends = d.extends;
        state = d.state;
        known = (
          knows_more form s t d.extends (knows s w),
          opens_well_none (opening form) (sees_out form) t.scopes (frames t) no_scope,
          subst (λ (fs : List Frame). Known (length t.names) (length t.texts) t.scopes fs a.value) (sym (frames_none (opening form) (sees_out form) t.scopes (frames t) no_scope)) d.known,
          tt,
        );
        opens = all_node (length s.scopes) (length t.scopes) form _ a.value no_scope d.opens;
        shaped = (d.fits, d.shaped, tt);
        placed = (no_parameters 0 (portions form) a.value no_one d.fits, d.placed, tt);
        fits = (refl, tt);
        told = λ q j n. told_node form (record { prelude = s.prelude; at = at }) a.value s q j no_scope (d.told q j n);
      };
}

pub good_leaf : (W : State → Type 0) (form : Form) (at : ℕ) → ((s : State) → W s → KnowsForm form s) → opens_none (opening form) → portions form ≡ [] → Good W (sh.one (role form) ∷ []) (leaf form at)
good_leaf W form at knows no_scope no_parts =
    good_wrapped W form at nothing knows no_scope (subst NoParameter (sym no_parts) tt) (subst (λ (ps : List Portion). Good W ps nothing) (sym no_parts) (good_nothing W))

-- ---- what forms name

no_names : (n : ℕ) (ids : List NameId) → ids ≡ [] → All (λ (id : NameId). id.0 < n) ids
no_names n ids e k d lt = let none_there = ap (λ (l : List NameId). length l) e in absurd (omega (arith, lt, none_there))

one_name : (n : ℕ) (id : NameId) → id.0 < n → All (λ (x : NameId). x.0 < n) (id ∷ [])
one_name n id h zero d lt = h
one_name n id h (suc k) d lt = absurd (omega (arith, lt))

two_names : (n : ℕ) (id other : NameId) → id.0 < n → other.0 < n → All (λ (x : NameId). x.0 < n) (id ∷ other ∷ [])
two_names n id other h g zero d lt = h
two_names n id other h g (suc zero) d lt = g
two_names n id other h g (suc (suc k)) d lt = absurd (omega (arith, lt))

pub knows_by : (form : Form) (s : State) → All (λ (id : NameId). id.0 < length s.names) (names_of form) → text_of form ≡ None → local_of form ≡ None → parameter_slot form ≡ None → KnowsForm form s
knows_by form s ids no_text no_local no_slot = record {
  names = ids;
  text = subst (λ (o : Option TextId). IfSome o (λ (t : TextId). t.0 < length s.texts)) (sym no_text) tt;
  local = subst (λ (o : Option Local). IfSome o (IsSeen (frames s))) (sym no_local) tt;
  parameter = subst (λ (o : Option ℕ). IfSome o (IsBelow (frames s))) (sym no_slot) tt;
}

-- a form that names nothing
pub knows_plain : (form : Form) (s : State) → names_of form ≡ [] → text_of form ≡ None → local_of form ≡ None → parameter_slot form ≡ None → KnowsForm form s
knows_plain form s no_name no_text no_local no_slot = knows_by form s (no_names (length s.names) (names_of form) no_name) no_text no_local no_slot

-- a form that names this alone
pub knows_name : (form : Form) (id : NameId) (s : State) → id.0 < length s.names → names_of form ≡ id ∷ [] → text_of form ≡ None → local_of form ≡ None → parameter_slot form ≡ None → KnowsForm form s
knows_name form id s there is no_text no_local no_slot =
    knows_by form s (subst (All (λ (x : NameId). x.0 < length s.names)) (sym is) (one_name (length s.names) id there)) no_text no_local no_slot

pub knows_names : (form : Form) (id other : NameId) (s : State) → id.0 < length s.names → other.0 < length s.names → names_of form ≡ id ∷ other ∷ [] → text_of form ≡ None → local_of form ≡ None → parameter_slot form ≡ None → KnowsForm form s
knows_names form id other s there here is no_text no_local no_slot =
    knows_by form s (subst (All (λ (x : NameId). x.0 < length s.names)) (sym is) (two_names (length s.names) id other there here)) no_text no_local no_slot

-- a form that names a local alone
pub knows_local : (form : Form) (l : Local) (s : State) → IsSeen (frames s) l → names_of form ≡ [] → text_of form ≡ None → local_of form ≡ Some l → parameter_slot form ≡ None → KnowsForm form s
knows_local form l s seen no_name no_text is no_slot = record {
  names = no_names (length s.names) (names_of form) no_name;
  text = subst (λ (o : Option TextId). IfSome o (λ (t : TextId). t.0 < length s.texts)) (sym no_text) tt;
  local = subst (λ (o : Option Local). IfSome o (IsSeen (frames s))) (sym is) seen;
  parameter = subst (λ (o : Option ℕ). IfSome o (IsBelow (frames s))) (sym no_slot) tt;
}

pub knows_text : (id : TextId) (s : State) → id.0 < length s.texts → KnowsForm (f.Text id) s
knows_text id s there = record { names = no_names (length s.names) [] refl; text = there; local = tt; parameter = tt }

-- ---- steps

-- a step goes on from the state and gives what this holds of, and names no slot
pub record StepDoes {A : Type 0} (V : A → State → Type 0) (s : State) (g : Given A) : Type 0 where
  pub extends : Extends s g.after
  pub state : IsState g.after
  pub same : length g.after.scopes ≡ length s.scopes
  pub gives_ : V g.value g.after
  pub older : (k : ScopeId) (i : ℕ) → NamedSlot g.after k i → NamedSlot s k i

pub good_using : {A : Type 0} (W : State → Type 0) (V : A → State → Type 0) (ps : List Portion) (step : State → Given A) (k : A → Making) → Keeps W → ((s : State) → IsState s → W s → StepDoes V s (step s)) → ((x : A) → Good (λ (s : State). W s × V x s) ps (k x)) → Good W ps (using step k)
unfolding using
good_using W V ps step k keeps steps x = record {
  does = λ s i w.
      let d = steps s i w in
      let g = step s in
      let e = (x g.value).does g.after d.state (keeps s g.after d.extends w, d.gives_) in
      let c = k g.value g.after in
      does_later ps s g.after c d.extends d.same (λ j n y. told_later s g.after c.value j n d.extends.number (d.older j n) (e.told j n y)) e;
}

-- a step that may name a slot: that of the local which it gives
pub record NamingDoes (V : Local → State → Type 0) (s : State) (g : Given Local) : Type 0 where
  pub extends : Extends s g.after
  pub state : IsState g.after
  pub same : length g.after.scopes ≡ length s.scopes
  pub gives_ : V g.value g.after
  pub older : (k : ScopeId) (i : ℕ) → NamedSlot g.after k i → NamedSlot s k i ⊎ ((g.value.scope ≡ k) × (g.value.slot ≡ i))

-- what follows tells that slot
pub good_naming : (W : State → Type 0) (V : Local → State → Type 0) (ps : List Portion) (step : State → Given Local) (k : Local → Making) → Keeps W → ((s : State) → IsState s → W s → NamingDoes V s (step s)) → ((x : Local) → Good (λ (s : State). W s × V x s) ps (k x)) → ((x : Local) (s : State) → V x s → ToldIn s.inner.number x.scope x.slot (k x s).value) → Good W ps (using step k)
unfolding using
good_naming W V ps step k keeps steps x tells = record {
  does = λ s i w.
      let d = steps s i w in
      let g = step s in
      let e = (x g.value).does g.after d.state (keeps s g.after d.extends w, d.gives_) in
      let c = k g.value g.after in
      does_later ps s g.after c d.extends d.same (λ j n y. told_naming s g.after g.value c.value j n d.extends.number (d.older j n) (tells g.value g.after d.gives_) (e.told j n y)) e;
}

abbrev pub HasName : NameId → State → Type 0
HasName id s = id.0 < length s.names

abbrev pub HasText : TextId → State → Type 0
HasText id s = id.0 < length s.texts

abbrev pub Sees : Local → State → Type 0
Sees l s = IsSeen (frames s) l

abbrev pub MaySee : Option Local → State → Type 0
MaySee x s = IfSome x (IsSeen (frames s))

-- the local and so many behind it are the innermost scope's
abbrev pub HasRun : ℕ → Local → State → Type 0
HasRun n l s = (l.up ≡ 0) × (l.scope ≡ s.inner.number) × (l.slot + n < length s.inner.slots)

pub keeps_both : (W V : State → Type 0) → Keeps W → Keeps V → Keeps (λ (s : State). W s × V s)
keeps_both W V x y s t e w = (x s t e w.0, y s t e w.1)

pub keeps_name : (id : NameId) → Keeps (HasName id)
keeps_name id s t e w = omega (arith, e.names, w)

pub keeps_local : (l : Local) → Keeps (Sees l)
keeps_local l s t e w = seen_wider (frames s) (frames t) l (frames_wider s t e) w

pub keeps_maybe : (x : Option Local) → Keeps (MaySee x)
keeps_maybe x s t e w = IfSome_then x w (λ (l : Local) seen. seen_wider (frames s) (frames t) l (frames_wider s t e) seen)

pub keeps_run : (n : ℕ) (l : Local) → Keeps (HasRun n l)
keeps_run n l s t e w = (w.0, w.1 ∙ sym e.number, omega (arith, e.slots, w.2))

pub named_does : (text : List ℕ) (s : State) → IsState s → StepDoes HasName s (named text s)
named_does text s i = record { extends = named_extends text s; state = named_state text s i; same = refl; gives_ = place_known s.names text; older = λ k j x. x }

pub literal_does : (text : List ℕ) (s : State) → IsState s → StepDoes HasText s (literal text s)
literal_does text s i = record { extends = literal_extends text s; state = literal_state text s i; same = refl; gives_ = place_known s.texts text; older = λ k j x. x }

declared_run : (name : Option NameId) (s : State) → HasRun 0 (declared name s).value (declared name s).after
declared_run name s = (refl, refl, omega (arith, length-append s.inner.slots (name ∷ [])))

-- a local without a name
pub declared_does : (s : State) → IsState s → StepDoes (HasRun 0) s (declared None s)
declared_does s i = record { extends = declared_extends None s; state = declared_state None s tt i; same = refl; gives_ = declared_run None s; older = nameless_older s }

-- a local with one
pub naming_does : (name : NameId) (s : State) → name.0 < length s.names → IsState s → NamingDoes (HasRun 0) s (declared (Some name) s)
naming_does name s known i = record {
  extends = declared_extends (Some name) s;
  state = declared_state (Some name) s known i;
  same = refl;
  gives_ = declared_run (Some name) s;
  older = λ k j x. by_age k j (declared_older (Some name) s k j x);
}
  where
    by_age : (k : ScopeId) (j : ℕ) → NamedSlot s k j ⊎ IsNew (Some name) s k j → NamedSlot s k j ⊎ ((s.inner.number ≡ k) × (length s.inner.slots ≡ j))
    by_age k j (inl x) = inl x
    by_age k j (inr x) = inr (x.number, x.place)

-- a local of such a run
pub run_seen : (n j : ℕ) (l : Local) (s : State) → j ≤ n → HasRun n l s → IsSeen (frames s) (later_local l j)
run_seen n j l s le w = record {
  seen = frame s.inner;
  stands = ap (slice_get (frames s)) w.0;
  number = sym w.1;
  slot = omega (arith, w.2);
}

pub first_seen : (n : ℕ) (l : Local) (s : State) → HasRun n l s → IsSeen (frames s) l
first_seen n l s w = record {
  seen = frame s.inner;
  stands = ap (slice_get (frames s)) w.0;
  number = sym w.1;
  slot = omega (arith, w.2);
}

record Declares (n : ℕ) (s t : State) : Type 0 where
  pub extends : Extends s t
  pub state : IsState t
  pub same : length t.scopes ≡ length s.scopes
  pub many : length t.inner.slots ≡ length s.inner.slots + n

times_does : (n : ℕ) (s : State) → IsState s → Declares n s (declared_times n s)
times_does zero s i = record { extends = extends_refl s; state = i; same = refl; many = omega arith }
times_does (suc n) s i =
    let d = declared_does s i in
    let r = times_does n (declared None s).after d.state in
    record {
      extends = extends_trans s (declared None s).after (declared_times n (declared None s).after) d.extends r.extends;
      state = r.state;
      same = r.same;
      many = let more = length-append s.inner.slots (None ∷ []) in omega (arith, r.many, more);
    }

pub fresh_does : (more : ℕ) (s : State) → IsState s → StepDoes (HasRun more) s (fresh more s)
fresh_does more s i =
    let d = declared_does s i in
    let r = times_does more (declared None s).after d.state in
    let longer = length-append s.inner.slots (None ∷ []) in
    record {
      extends = extends_trans s (declared None s).after (declared_times more (declared None s).after) d.extends r.extends;
      state = r.state;
      same = r.same;
      gives_ = (refl, sym r.extends.number, omega (arith, r.many, longer));
      older = λ k j x. nameless_older s k j (times_older more (declared None s).after k j x);
    }

pub with_parameters_does : (s : State) → IsState s → StepDoes (λ (n : ℕ) (t : State). Unit {0}) s (with_parameters s)
with_parameters_does s i = record {
  extends = record { names = omega arith; texts = omega arith; scopes = omega arith; kept = λ k lt. refl; number = refl; slots = omega arith; around = refl };
  state = record { open_ = (i.open_.0, omega arith, i.open_.2, i.open_.3); closed = i.closed };
  same = refl;
  gives_ = tt;
  older = λ k j x. x;
}

-- ---- which local a name stands for

slot_below : (k : ℕ) (name : NameId) (xs : Slotted) (n : ℕ) → slot_of k name xs ≡ Some n → n < k + length xs
slot_below k name [] n e = absurd cc
slot_below k name (x ∷ xs) n e = by_later (slot_of (k + 1) name xs) (slot_below (k + 1) name xs) refl (is_slot name x) e
  where
    by_here : (t : Bool) → cond t (Some k) None ≡ Some n → n < k + suc (length xs)
    by_here true is = let same : k ≡ n = cc in omega arith
    by_here false is = absurd cc

    by_later : (o : Option ℕ) → ((m : ℕ) → slot_of (k + 1) name xs ≡ Some m → m < k + 1 + length xs) → slot_of (k + 1) name xs ≡ o → (t : Bool) → later o (cond t (Some k) None) ≡ Some n → n < k + suc (length xs)
    by_later None below is t e = by_here t e
    by_later (Some m) below is t e = let same : m ≡ n = cc in let h = below m is in omega (arith, h)

-- a local that is found in these scopes
record IsFound (up : ℕ) (os : List Opened) (l : Local) : Type 0 where
  pub out : ℕ
  pub is : l.up ≡ up + out
  pub seen : Frame
  pub stands : slice_get (map frame os) out ≡ Some seen
  pub number : seen.number ≡ l.scope
  pub slot : l.slot < seen.count

found_from : (up : ℕ) (name : NameId) (os : List Opened) (l : Local) → resolved_from up name os ≡ Some l → IsFound up os l
found_from up name [] l e = absurd cc
found_from up name (o ∷ os) l e = by_slot (found_from (up + 1) name os l) (slot_of 0 name o.slots) refl e
  where
    by_slot : (resolved_from (up + 1) name os ≡ Some l → IsFound (up + 1) os l) → (x : Option ℕ) → slot_of 0 name o.slots ≡ x → later (local_at o.number up x) (resolved_from (up + 1) name os) ≡ Some l → IsFound up (o ∷ os) l
    by_slot further None is e =
        let r = further e in
        record { out = suc r.out; is = omega (arith, r.is); seen = r.seen; stands = r.stands; number = r.number; slot = r.slot }
    by_slot further (Some slot) is e =
        let here : record { scope = o.number; slot = slot; up = up } ≡ l = cc in
        record {
          out = 0;
          is = let same = ap (λ (x : Local). x.up) here in omega (arith, same);
          seen = frame o;
          stands = refl;
          number = ap (λ (x : Local). x.scope) here;
          slot = let same = ap (λ (x : Local). x.slot) here in let h = slot_below 0 name o.slots slot is in omega (arith, h, same);
        }

pub resolved_seen : (name : NameId) (s : State) (l : Local) → resolved name s ≡ Some l → IsSeen (frames s) l
resolved_seen name s l e =
    let r = found_from 0 name (s.inner ∷ s.around) l e in
    let out : l.up ≡ r.out = omega (arith, r.is) in
    record { seen = r.seen; stands = ap (slice_get (frames s)) out ∙ r.stands; number = r.number; slot = r.slot }

maybe_seen : (name : NameId) (s : State) (x : Option Local) → resolved name s ≡ x → MaySee x s
maybe_seen name s None e = tt
maybe_seen name s (Some l) e = resolved_seen name s l e

pub found_does : (name : NameId) (s : State) → IsState s → StepDoes MaySee s (found name s)
found_does name s i = record { extends = extends_refl s; state = i; same = refl; gives_ = maybe_seen name s (resolved name s) refl; older = λ k j x. x }

pub target_does : (name : NameId) (s : State) → name.0 < length s.names → IsState s → NamingDoes Sees s (target name s)
target_does name s known i = by_local (resolved name s) refl
  where
    by_local : (x : Option Local) → resolved name s ≡ x → NamingDoes Sees s (target_by name x s)
    by_local None e =
        let d = naming_does name s known i in
        record { extends = d.extends; state = d.state; same = refl; gives_ = first_seen 0 (declared (Some name) s).value (declared (Some name) s).after d.gives_; older = d.older }
    by_local (Some l) e = record { extends = extends_refl s; state = i; same = refl; gives_ = resolved_seen name s l e; older = λ k j x. inl x }

-- ---- the parameters of the running method

outermost_at : (o : Opened) (os : List Opened) → slice_get (map frame (o ∷ os)) (length os) ≡ Some (frame (outermost_of o os))
outermost_at o [] = refl
outermost_at o (p ∷ os) = outermost_at p os

outermost_few : (limit n : ℕ) (o : Opened) (os : List Opened) → AreOpen limit n (o ∷ os) → (outermost_of o os).parameters ≤ length (outermost_of o os).slots
outermost_few limit n o [] h = h.1
outermost_few limit n o (p ∷ os) h = outermost_few o.number.0 n p os h.3

-- so many locals from this one on
abbrev pub SeesRun : Local → ℕ → State → Type 0
SeesRun l n s = (j : ℕ) → j < n → IsSeen (frames s) (later_local l j)

pub keeps_seen_run : (l : Local) (n : ℕ) → Keeps (SeesRun l n)
keeps_seen_run l n s t e w j lt = seen_wider (frames s) (frames t) (later_local l j) (frames_wider s t e) (w j lt)

pub passed_does : (s : State) → IsState s → StepDoes (λ (p : Passed) (t : State). SeesRun p.first p.count t) s (passed s)
passed_does s i =
    let o = outermost_of s.inner s.around in
    let few = outermost_few (length s.scopes) (length s.names) s.inner s.around i.open_ in
    record {
      extends = extends_refl s;
      state = i;
      same = refl;
      gives_ = λ j lt. record { seen = frame o; stands = outermost_at s.inner s.around; number = refl; slot = omega (arith, lt, few) };
      older = λ k j x. x;
    }

-- ---- lists

abbrev pub Goods : (State → Type 0) → List Portion → List Making → Type 0
Goods W ps [] = Unit {0}
Goods W ps (m ∷ ms) = Good W ps m × Goods W ps ms

merge_many : (k : Role) (ks : List Role) → Fits (sh.many k ∷ sh.many k ∷ []) ks → Fits (sh.many k ∷ []) ks
merge_many k ks x = fits_many k ks (subst (Are k) (sym x.2) (are_append k x.0 x.1 x.3 (are_of k x.1 x.4)))

pub good_many : (W : State → Type 0) (k : Role) (m n : Making) → Keeps W → Good W (sh.many k ∷ []) m → Good W (sh.many k ∷ []) n → Good W (sh.many k ∷ []) (m ▸ n)
good_many W k m n keeps x y = good_as W (sh.many k ∷ sh.many k ∷ []) (sh.many k ∷ []) (m ▸ n) (merge_many k) (good_join W (sh.many k ∷ []) (sh.many k ∷ []) m n keeps x y)

none_many : (k : Role) (ks : List Role) → Fits [] ks → Fits (sh.many k ∷ []) ks
none_many k [] x = fits_many k [] tt
none_many k (j ∷ ks) x = absurd x

pub good_none : (W : State → Type 0) (k : Role) → Good W (sh.many k ∷ []) nothing
good_none W k = good_as W [] (sh.many k ∷ []) nothing (none_many k) (good_nothing W)

pub good_all : (W : State → Type 0) (k : Role) (ms : List Making) → Keeps W → Goods W (sh.many k ∷ []) ms → Good W (sh.many k ∷ []) (all ms)
good_all W k [] keeps h = good_none W k
good_all W k (m ∷ ms) keeps h = good_many W k m (all ms) keeps h.0 (good_all W k ms keeps h.1)

pub good_one_many : (W : State → Type 0) (k : Role) (m : Making) → Good W (sh.one k ∷ []) m → Good W (sh.many k ∷ []) m
good_one_many W k m x = good_as W (sh.one k ∷ []) (sh.many k ∷ []) m (one_many k) x

none_pairs : (k : Role) (ks : List Role) → Fits [] ks → Fits (sh.pairs k ∷ []) ks
none_pairs k [] x = pairs_none k
none_pairs k (j ∷ ks) x = absurd x

pub good_no_pairs : (W : State → Type 0) (k : Role) → Good W (sh.pairs k ∷ []) nothing
good_no_pairs W k = good_as W [] (sh.pairs k ∷ []) nothing (none_pairs k) (good_nothing W)

pub good_all_pairs : (W : State → Type 0) (k : Role) (ms : List Making) → Keeps W → Goods W (sh.pairs k ∷ []) ms → Good W (sh.pairs k ∷ []) (all ms)
good_all_pairs W k [] keeps h = good_no_pairs W k
good_all_pairs W k (m ∷ ms) keeps h =
    good_as W (sh.pairs k ∷ sh.pairs k ∷ []) (sh.pairs k ∷ []) (m ▸ all ms) (merge_pairs k) (good_join W (sh.pairs k ∷ []) (sh.pairs k ∷ []) m (all ms) keeps h.0 (good_all_pairs W k ms keeps h.1))

-- ---- nests and sequences

abbrev pub AheadGood : (State → Type 0) → List Portion → List Ahead → Type 0
AheadGood W ps [] = Unit {0}
AheadGood W ps (m ∷ ms) = Good W ps m.made × AheadGood W ps ms

abbrev pub Term : List Portion
Term = sh.one sh.Term ∷ []

knows_if : (W : State → Type 0) (s : State) → W s → KnowsForm f.If s
knows_if W s w = knows_plain f.If s refl refl refl refl

knows_seq : (W : State → Type 0) (s : State) → W s → KnowsForm f.Seq s
knows_seq W s w = knows_plain f.Seq s refl refl refl refl

pub good_if : (W : State → Type 0) (at : ℕ) (m : Making) → Good W (sh.one sh.Term ∷ sh.one sh.Term ∷ sh.one sh.Term ∷ []) m → Good W Term (wrapped f.If at m)
good_if W at m x = good_wrapped W f.If at m (knows_if W) tt (refl, (refl, (refl, tt))) x

pub good_seq : (W : State → Type 0) (at : ℕ) (m k : Making) → Keeps W → Good W Term m → Good W Term k → Good W Term (wrapped f.Seq at (m ▸ k))
good_seq W at m k keeps x y = good_wrapped W f.Seq at (m ▸ k) (knows_seq W) tt (refl, (refl, tt)) (good_join W Term Term m k keeps x y)

pub good_nest_if : (W : State → Type 0) (ms : List Ahead) (last : Making) → Keeps W → AheadGood W (sh.one sh.Term ∷ sh.one sh.Term ∷ []) ms → Good W Term last → Good W Term (nest f.If ms last)
good_nest_if W [] last keeps h x = x
good_nest_if W (m ∷ ms) last keeps h x =
    good_if W m.at (m.made ▸ nest f.If ms last) (good_join W (sh.one sh.Term ∷ sh.one sh.Term ∷ []) Term m.made (nest f.If ms last) keeps h.0 (good_nest_if W ms last keeps h.1 x))

pub good_nest_seq : (W : State → Type 0) (ms : List Ahead) (last : Making) → Keeps W → AheadGood W Term ms → Good W Term last → Good W Term (nest f.Seq ms last)
good_nest_seq W [] last keeps h x = x
good_nest_seq W (m ∷ ms) last keeps h x = good_seq W m.at m.made (nest f.Seq ms last) keeps h.0 (good_nest_seq W ms last keeps h.1 x)

pub good_nil : (W : State → Type 0) (at : ℕ) → Good W Term (leaf f.Nil at)
good_nil W at = good_leaf W f.Nil at (λ s w. knows_plain f.Nil s refl refl refl refl) tt refl

pub good_sequence : (W : State → Type 0) (at : ℕ) (ms : List Making) → Keeps W → Goods W Term ms → Good W Term (sequence at ms)
good_sequence W at [] keeps h = good_nil W at
good_sequence W at (m ∷ []) keeps h = h.0
good_sequence W at (m ∷ n ∷ ms) keeps h = good_seq W at m (sequence at (n ∷ ms)) keeps h.0 (good_sequence W at (n ∷ ms) keeps h.1)

-- a call with a receiver and an argument
pub term_many : (ks : List Role) → Fits (sh.one sh.Term ∷ sh.one sh.Term ∷ []) ks → Fits (sh.one sh.Term ∷ sh.many sh.Term ∷ []) ks
term_many [] x = absurd x
term_many (j ∷ ks) x = (x.0, one_many sh.Term ks x.1)

pub term_alone : (ks : List Role) → Fits (sh.one sh.Term ∷ []) ks → Fits (sh.one sh.Term ∷ sh.many sh.Term ∷ []) ks
term_alone [] x = absurd x
term_alone (j ∷ []) x = (x.0, fits_many sh.Term [] tt)
term_alone (j ∷ i ∷ ks) x = absurd x.1

pub knows_call : (W : State → Type 0) (id : NameId) (receiver blocked : Bool) → ((s : State) → W s → HasName id s) → (s : State) → W s → KnowsForm (f.Call id receiver blocked) s
knows_call W id receiver blocked there s w = knows_name (f.Call id receiver blocked) id s (there s w) refl refl refl refl

pub good_send : (W : State → Type 0) (id : NameId) (at : ℕ) (m : Making) → ((s : State) → W s → HasName id s) → Good W (sh.one sh.Term ∷ sh.many sh.Term ∷ []) m → Good W Term (wrapped (f.Call id true false) at m)
good_send W id at m there x = good_wrapped W (f.Call id true false) at m (knows_call W id true false there) tt (refl, (refl, tt)) x

pub good_nest_left : (W : State → Type 0) (id : NameId) (at : ℕ) (first : Making) (ms : List Making) → Keeps W → ((s : State) → W s → HasName id s) → Good W Term first → Goods W Term ms → Good W Term (nest_left (f.Call id true false) at first ms)
good_nest_left W id at first [] keeps there x h = x
good_nest_left W id at first (m ∷ ms) keeps there x h =
    good_nest_left W id at (wrapped (f.Call id true false) at (first ▸ m)) ms keeps there
    (good_send W id at (first ▸ m) there (good_as W (sh.one sh.Term ∷ sh.one sh.Term ∷ []) (sh.one sh.Term ∷ sh.many sh.Term ∷ []) (first ▸ m) term_many (good_join W Term Term first m keeps x h.0)))
    h.1

-- ---- the text of the prelude

pub good_prelude : (ps : List Portion) (m : Making) → Good Always ps m → Good Always ps (in_prelude m)
unfolding in_prelude
good_prelude ps m x = record {
  does = λ s i w.
      let there : State = record s { prelude = true } in
      let d = x.does there (record { open_ = i.open_; closed = i.closed }) tt in
      let e = d.extends in
      record {
        extends = record { names = e.names; texts = e.texts; scopes = e.scopes; kept = e.kept; number = e.number; slots = e.slots; around = e.around };
        state = record { open_ = d.state.open_; closed = d.state.closed };
        known = d.known;
        opens = d.opens;
        shaped = d.shaped;
        placed = d.placed;
        fits = d.fits;
        told = d.told;
      };
}
