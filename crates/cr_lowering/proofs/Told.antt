-- Locals that bear a name, and nodes that assign them or are their parameters.
use Rattle.std.specs.Prelude.{slice_get}
use Rattle.std.proofs.Common.{◌≡◌, ℕ, zero, suc, ◌+◌, ◌⊎◌, inl, inr, List, [], ◌∷◌, ◌++◌, length, Option, Some, None, refl, ap, subst}
use Rattle.std.proofs.lemmas.Option.{same_Some}
use Rattle.cr_base.specs.declared.ids.NameId.{NameId}
use Rattle.cr_core.specs.declared.form.Form.{Form}
use Rattle.cr_core.specs.declared.form.Local.{Local}
use Rattle.cr_core.specs.declared.form.ScopeId.{ScopeId}
use Rattle.cr_core.specs.declared.row.Place.{Place}
use Rattle.cr_core.specs.declared.row.Row.{Row}
use Rattle.cr_core.specs.declared.row.Within.{Within}
use Rattle.cr_core.specs.Core.{Core, none, node, one, size, ◌⊕◌}
use Rattle.cr_core.specs.Arena.{Opening, Opens, Turns, Plain, opening, inside_opening, inside, starts}
use Rattle.cr_core.specs.Standing.{Stands}
use Rattle.cr_making.specs.declared.naming.Opened.{Opened}
use Rattle.cr_making.specs.Naming.{State, declared, declared_times}
use Rattle.cr_lowering.specs.Laws.{Tells, IsTold}
use Rattle.cr_lowering.proofs.Grows.{Slotted}
use Rattle.cr_lowering.proofs.Fresh.{opens_none}

-- ---- nodes that tell a slot

-- the scope in which the parts of a node stand
abbrev pub scope_in : Opening → ScopeId → ScopeId
scope_in (Opens k) w = k
scope_in Turns w = w
scope_in Plain w = w

-- among these trees, which stand in the scope w, some node assigns the slot or is its parameter
abbrev pub ToldIn : ScopeId → ScopeId → ℕ → Core → Type 0
ToldIn w k i none = ⊥
ToldIn w k i (node form at ps rest) = Tells form w k i ⊎ (ToldIn (scope_in (opening form) w) k i ps ⊎ ToldIn w k i rest)

pub told_left : (w k : ScopeId) (i : ℕ) (a b : Core) → ToldIn w k i a → ToldIn w k i (a ⊕ b)
told_left w k i none b o = absurd o
told_left w k i (node form at ps rest) b (inl e) = inl e
told_left w k i (node form at ps rest) b (inr (inl o)) = inr (inl o)
told_left w k i (node form at ps rest) b (inr (inr o)) = inr (inr (told_left w k i rest b o))

pub told_right : (w k : ScopeId) (i : ℕ) (a b : Core) → ToldIn w k i b → ToldIn w k i (a ⊕ b)
told_right w k i none b o = o
told_right w k i (node form at ps rest) b o = inr (inr (told_right w k i rest b o))

scope_same : (o : Opening) (w : ScopeId) → opens_none o → w ≡ scope_in o w
scope_same (Opens k) w no_scope = absurd no_scope
scope_same Turns w no_scope = refl
scope_same Plain w no_scope = refl

scope_inside : (o : Opening) (n : ℕ) (w : Within) → scope_in o w.scope ≡ (inside_opening o n w).scope
scope_inside (Opens k) n w = refl
scope_inside Turns n w = refl
scope_inside Plain n w = refl

-- such a node has its row
pub teller_of : (rs : List Row) (w : Within) (n : ℕ) (c : Core) (k : ScopeId) (i : ℕ) → Stands rs w n c → ToldIn w.scope k i c → IsTold rs k i
teller_of rs w n none k i h o = absurd o
teller_of rs w n (node form at ps rest) k i h (inl e) = record { number = n; row = record { form = form; place = at; within = w; parts = starts (suc n) ps }; stands = h.0; tells = e }
teller_of rs w n (node form at ps rest) k i h (inr (inl o)) = teller_of rs (inside form n w) (suc n) ps k i h.1 (subst (λ (x : ScopeId). ToldIn x k i ps) (scope_inside (opening form) n w) o)
teller_of rs w n (node form at ps rest) k i h (inr (inr o)) = teller_of rs w (suc (n + size ps)) rest k i h.2 o

-- ---- slots that bear a name so far

pub record BearsName (xs : Slotted) (i : ℕ) : Type 0 where
  pub name : NameId
  pub bears : slice_get xs i ≡ Some (Some name)

abbrev pub InOpen : Opened → ScopeId → ℕ → Type 0
InOpen o k i = (o.number ≡ k) × BearsName o.slots i

abbrev pub InSome : List Opened → ScopeId → ℕ → Type 0
InSome [] k i = ⊥
InSome (o ∷ os) k i = InOpen o k i ⊎ InSome os k i

abbrev pub InEnded : Option Slotted → ℕ → Type 0
InEnded None i = ⊥
InEnded (Some xs) i = BearsName xs i

-- slot i of scope k bears a name, where the scope is open or has ended
abbrev pub NamedSlot : State → ScopeId → ℕ → Type 0
NamedSlot s k i = InSome (s.inner ∷ s.around) k i ⊎ InEnded (slice_get s.scopes k.0) i

pub none_bears : (i : ℕ) → BearsName [] i → ⊥
none_bears i x = by_name x.name x.bears
  where
    by_name : (name : NameId) → slice_get (let empty : Slotted = [] in empty) i ≡ Some (Some name) → ⊥
    by_name name e = absurd cc

pub ended_push : (ss : List Slotted) (n i : ℕ) → InEnded (slice_get (ss ++ [] ∷ []) n) i → InEnded (slice_get ss n) i
ended_push [] zero i x = absurd (none_bears i x)
ended_push [] (suc n) i x = absurd x
ended_push (y ∷ ss) zero i x = x
ended_push (y ∷ ss) (suc n) i x = ended_push ss n i x

-- the slot is the last one, behind these, and bears this name
record IsLast (name : Option NameId) (xs : Slotted) (i : ℕ) : Type 0 where
  place : length xs ≡ i
  borne : NameId
  is : name ≡ Some borne

bears_push : (name : Option NameId) (xs : Slotted) (i : ℕ) → BearsName (xs ++ name ∷ []) i → BearsName xs i ⊎ IsLast name xs i
bears_push name [] zero h = inr (record { place = refl; borne = h.name; is = same_Some name (Some h.name) h.bears })
bears_push name [] (suc i) h = absurd (none_bears i (record { name = h.name; bears = h.bears }))
bears_push name (y ∷ xs) zero h = inl (record { name = h.name; bears = h.bears })
bears_push name (y ∷ xs) (suc i) h = behind (bears_push name xs i (record { name = h.name; bears = h.bears }))
  where
    behind : BearsName xs i ⊎ IsLast name xs i → BearsName (y ∷ xs) (suc i) ⊎ IsLast name (y ∷ xs) (suc i)
    behind (inl x) = inl (record { name = x.name; bears = x.bears })
    behind (inr x) = inr (record { place = ap suc x.place; borne = x.borne; is = x.is })

-- the slot is the one that is declared next, with this name
pub record IsNew (name : Option NameId) (s : State) (k : ScopeId) (i : ℕ) : Type 0 where
  pub number : s.inner.number ≡ k
  pub place : length s.inner.slots ≡ i
  pub borne : NameId
  pub is : name ≡ Some borne

pub declared_older : (name : Option NameId) (s : State) (k : ScopeId) (i : ℕ) → NamedSlot (declared name s).after k i → NamedSlot s k i ⊎ IsNew name s k i
declared_older name s k i (inl (inl x)) = by_slot (bears_push name s.inner.slots i x.1)
  where
    by_slot : BearsName s.inner.slots i ⊎ IsLast name s.inner.slots i → NamedSlot s k i ⊎ IsNew name s k i
    by_slot (inl y) = inl (inl (inl (x.0, y)))
    by_slot (inr y) = inr (record { number = x.0; place = y.place; borne = y.borne; is = y.is })
declared_older name s k i (inl (inr x)) = inl (inl (inr x))
declared_older name s k i (inr x) = inl (inr x)

no_name : (n : NameId) → (let nameless : Option NameId = None in nameless) ≡ Some n → ⊥
no_name n e = absurd cc

pub nameless_older : (s : State) (k : ScopeId) (i : ℕ) → NamedSlot (declared None s).after k i → NamedSlot s k i
nameless_older s k i x = by_age (declared_older None s k i x)
  where
    by_age : NamedSlot s k i ⊎ IsNew None s k i → NamedSlot s k i
    by_age (inl y) = y
    by_age (inr y) = absurd (no_name y.borne y.is)

pub times_older : (n : ℕ) (s : State) (k : ScopeId) (i : ℕ) → NamedSlot (declared_times n s) k i → NamedSlot s k i
times_older zero s k i x = x
times_older (suc n) s k i x = nameless_older s k i (times_older n (declared None s).after k i x)

-- ---- each slot that has got a name is told

-- the slot bore its name before, or is told
abbrev pub OldOrTold : State → Core → ScopeId → ℕ → Type 0
OldOrTold s c k i = NamedSlot s k i ⊎ ToldIn s.inner.number k i c

told_there : (s t : State) (c : Core) (k : ScopeId) (i : ℕ) → t.inner.number ≡ s.inner.number → ToldIn t.inner.number k i c → ToldIn s.inner.number k i c
told_there s t c k i same x = subst (λ (w : ScopeId). ToldIn w k i c) same x

pub told_later : (s t : State) (c : Core) (k : ScopeId) (i : ℕ) → t.inner.number ≡ s.inner.number → (NamedSlot t k i → NamedSlot s k i) → OldOrTold t c k i → OldOrTold s c k i
told_later s t c k i same older (inl x) = inl (older x)
told_later s t c k i same older (inr x) = inr (told_there s t c k i same x)

pub told_join : (s t : State) (a b : Core) (k : ScopeId) (i : ℕ) → t.inner.number ≡ s.inner.number → (NamedSlot t k i → OldOrTold s a k i) → OldOrTold t b k i → OldOrTold s (a ⊕ b) k i
told_join s t a b k i same first (inr x) = inr (told_right s.inner.number k i a b (told_there s t b k i same x))
told_join s t a b k i same first (inl x) = by_age (first x)
  where
    by_age : OldOrTold s a k i → OldOrTold s (a ⊕ b) k i
    by_age (inl y) = inl y
    by_age (inr y) = inr (told_left s.inner.number k i a b y)

pub told_flipped : (s t : State) (a b : Core) (k : ScopeId) (i : ℕ) → t.inner.number ≡ s.inner.number → (NamedSlot t k i → OldOrTold s a k i) → OldOrTold t b k i → OldOrTold s (b ⊕ a) k i
told_flipped s t a b k i same first (inr x) = inr (told_left s.inner.number k i b a (told_there s t b k i same x))
told_flipped s t a b k i same first (inl x) = by_age (first x)
  where
    by_age : OldOrTold s a k i → OldOrTold s (b ⊕ a) k i
    by_age (inl y) = inl y
    by_age (inr y) = inr (told_right s.inner.number k i b a y)

pub told_node : (form : Form) (at : Place) (c : Core) (s : State) (k : ScopeId) (i : ℕ) → opens_none (opening form) → OldOrTold s c k i → OldOrTold s (one form at c) k i
told_node form at c s k i no_scope (inl x) = inl x
told_node form at c s k i no_scope (inr x) = inr (inr (inl (subst (λ (w : ScopeId). ToldIn w k i c) (scope_same (opening form) s.inner.number no_scope) x)))

-- the slot that a step has named is told behind it
pub told_naming : (s t : State) (l : Local) (c : Core) (k : ScopeId) (i : ℕ) → t.inner.number ≡ s.inner.number → (NamedSlot t k i → NamedSlot s k i ⊎ ((l.scope ≡ k) × (l.slot ≡ i))) → ToldIn t.inner.number l.scope l.slot c → OldOrTold t c k i → OldOrTold s c k i
told_naming s t l c k i same older here (inr x) = inr (told_there s t c k i same x)
told_naming s t l c k i same older here (inl x) = by_age (older x)
  where
    by_age : NamedSlot s k i ⊎ ((l.scope ≡ k) × (l.slot ≡ i)) → OldOrTold s c k i
    by_age (inl y) = inl y
    by_age (inr y) = inr (told_there s t c k i same (subst (λ (n : ℕ). ToldIn t.inner.number k n c) y.1 (subst (λ (q : ScopeId). ToldIn t.inner.number q l.slot c) y.0 here)))
