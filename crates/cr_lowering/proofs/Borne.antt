-- A name that is found as a local is that of a slot of a scope that is open.
use Rattle.std.specs.Prelude.{slice_get, nat_eq}
use Rattle.std.proofs.Common.{◌≡◌, ◌≢◌, ℕ, suc, ◌+◌, ◌⊎◌, inl, inr, Bool, true, false, cond, List, [], ◌∷◌, Option, Some, None, refl, sym, ap, ◌∙◌, arith}
use Rattle.std.proofs.lemmas.Bool.Decides.{eqb_tells}
use Rattle.cr_base.specs.declared.ids.NameId.{NameId}
use Rattle.cr_core.specs.declared.form.Local.{Local}
use Rattle.cr_making.specs.declared.naming.Opened.{Opened}
use Rattle.cr_making.specs.Slots.{later, is_slot, slot_of}
use Rattle.cr_making.specs.Naming.{State, local_at, resolved_from, resolved}
use Rattle.cr_lowering.specs.Laws.{IsDeclared}
use Rattle.cr_lowering.proofs.Grows.{Slotted}

is_name : (name : NameId) (x : Option NameId) → is_slot name x ≡ true → x ≡ Some name
is_name name None e = absurd cc
is_name name (Some other) e = by_test (eqb_tells other.0 name.0)
  where
    by_test : ((nat_eq other.0 name.0 ≡ true) × (other.0 ≡ name.0)) ⊎ ((nat_eq other.0 name.0 ≡ false) × (other.0 ≢ name.0)) → Some other ≡ Some name
    by_test (inl h) = ap (λ (n : ℕ). Some (record { 0 = n })) h.1
    by_test (inr h) = let both : false ≡ true = sym h.0 ∙ e in absurd cc

-- the slot with this number bears the name, where the first has the number k
record Bears (k : ℕ) (name : NameId) (xs : Slotted) (n : ℕ) : Type 0 where
  at : ℕ
  is : n ≡ k + at
  bears : slice_get xs at ≡ Some (Some name)

slot_bears : (k : ℕ) (name : NameId) (xs : Slotted) (n : ℕ) → slot_of k name xs ≡ Some n → Bears k name xs n
slot_bears k name [] n e = absurd cc
slot_bears k name (x ∷ xs) n e = by_later (slot_of (k + 1) name xs) (slot_bears (k + 1) name xs) refl (is_slot name x) refl e
  where
    by_here : (t : Bool) → is_slot name x ≡ t → cond t (Some k) None ≡ Some n → Bears k name (x ∷ xs) n
    by_here true is e = let same : k ≡ n = cc in record { at = 0; is = omega arith; bears = ap (λ (y : Option NameId). Some y) (is_name name x is) }
    by_here false is e = absurd cc

    by_later : (o : Option ℕ) → ((m : ℕ) → slot_of (k + 1) name xs ≡ Some m → Bears (k + 1) name xs m) → slot_of (k + 1) name xs ≡ o → (t : Bool) → is_slot name x ≡ t → later o (cond t (Some k) None) ≡ Some n → Bears k name (x ∷ xs) n
    by_later None further is t test e = by_here t test e
    by_later (Some m) further is t test e =
        let same : m ≡ n = cc in
        let r = further m is in
        let number = r.is in
        record { at = suc r.at; is = omega arith; bears = r.bears }

-- the same among scopes, of which the first lies so many scopes outwards
record IsBorne (up : ℕ) (name : NameId) (os : List Opened) (l : Local) : Type 0 where
  out : ℕ
  is : l.up ≡ up + out
  scope : Opened
  stands : slice_get os out ≡ Some scope
  number : scope.number ≡ l.scope
  bears : slice_get scope.slots l.slot ≡ Some (Some name)

borne_from : (up : ℕ) (name : NameId) (os : List Opened) (l : Local) → resolved_from up name os ≡ Some l → IsBorne up name os l
borne_from up name [] l e = absurd cc
borne_from up name (o ∷ os) l e = by_slot (borne_from (up + 1) name os l) (slot_of 0 name o.slots) refl e
  where
    by_slot : (resolved_from (up + 1) name os ≡ Some l → IsBorne (up + 1) name os l) → (x : Option ℕ) → slot_of 0 name o.slots ≡ x → later (local_at o.number up x) (resolved_from (up + 1) name os) ≡ Some l → IsBorne up name (o ∷ os) l
    by_slot further None is e =
        let r = further e in
        let number = r.is in
        record { out = suc r.out; is = omega arith; scope = r.scope; stands = r.stands; number = r.number; bears = r.bears }
    by_slot further (Some slot) is e =
        let here : record { scope = o.number; slot = slot; up = up } ≡ l = cc in
        let b = slot_bears 0 name o.slots slot is in
        let place : b.at ≡ l.slot = let same = ap (λ (x : Local). x.slot) here in let told = b.is in omega arith in
        record {
          out = 0;
          is = let same = ap (λ (x : Local). x.up) here in omega arith;
          scope = o;
          stands = refl;
          number = ap (λ (x : Local). x.scope) here;
          bears = ap (slice_get o.slots) (sym place) ∙ b.bears;
        }

pub declared_there : (name : NameId) (s : State) (l : Local) → resolved name s ≡ Some l → IsDeclared name s l
declared_there name s l e =
    let r = borne_from 0 name (s.inner ∷ s.around) l e in
    let told = r.is in
    let out : l.up ≡ r.out = omega arith in
    record { scope = r.scope; stands = ap (slice_get (s.inner ∷ s.around)) out ∙ r.stands; number = r.number; bears = r.bears }
