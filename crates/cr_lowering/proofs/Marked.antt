-- Marking sets the flags of the locals that rows capture, and leaves all else as it is.
use Rattle.std.specs.Prelude.{slice_get, slice_set, option_map, ◌==◌, ◌&&◌, ◌||◌}
use Rattle.std.proofs.Common.{◌≡◌, ◌≢◌, ℕ, zero, suc, ◌⊎◌, inl, inr, Bool, true, false, List, [], ◌∷◌, length, map, Option, Some, None, refl, sym, ap, ◌∙◌, subst}
use Rattle.std.proofs.lemmas.Bool.Decides.{eqb_tells}
use Rattle.std.proofs.lemmas.List.{length-map}
use Rattle.std.proofs.lemmas.Option.{slice_get-map}
use Rattle.cr_base.specs.declared.ids.NameId.{NameId}
use Rattle.cr_core.specs.declared.form.Local.{Local}
use Rattle.cr_core.specs.declared.form.ScopeId.{ScopeId}
use Rattle.cr_core.specs.declared.row.Row.{Row}
use Rattle.cr_core.specs.declared.scope.Scope.{Scope}
use Rattle.cr_core.specs.declared.scope.Slot.{Slot}
use Rattle.cr_core.specs.Tree.{local_of, scope_at, home_by, is_spawn, leaves_spawn, captures_by, captures, is_captured}
use Rattle.cr_lowering.specs.Lowering.{slot_names}
use Rattle.cr_lowering.specs.Made.{AreTold}
use Rattle.cr_lowering.specs.Marking.{changed_by, changed, marked_slot, marked_scope, marked, marked_if, marked_by, marked_at, marked_from}

-- ---- a list with one element changed

set_here : {A : Type 0} (xs : List A) (i : ℕ) (x y : A) → slice_get xs i ≡ Some x → slice_get (slice_set xs i y) i ≡ Some y
set_here [] i x y is = absurd cc
set_here (z ∷ xs) zero x y is = refl
set_here (z ∷ xs) (suc i) x y is = set_here xs i x y is

set_other : {A : Type 0} (xs : List A) (i k : ℕ) (y : A) → i ≢ k → slice_get (slice_set xs i y) k ≡ slice_get xs k
set_other [] i k y apart = refl
set_other (z ∷ xs) zero zero y apart = absurd (apart refl)
set_other (z ∷ xs) zero (suc k) y apart = refl
set_other (z ∷ xs) (suc i) zero y apart = refl
set_other (z ∷ xs) (suc i) (suc k) y apart = set_other xs i k y (λ e. apart (ap suc e))

map_set : {A B : Type 0} (g : A → B) (xs : List A) (i : ℕ) (x y : A) → slice_get xs i ≡ Some x → g y ≡ g x → map g (slice_set xs i y) ≡ map g xs
map_set g [] i x y is same = refl
map_set g (z ∷ xs) zero x y is same = let e : z ≡ x = cc in ap (λ (b : _). b ∷ map g xs) (same ∙ ap g (sym e))
map_set g (z ∷ xs) (suc i) x y is same = ap (λ (bs : List _). g z ∷ bs) (map_set g xs i x y is same)

changed_here : {A : Type 0} (h : A → A) (xs : List A) (i : ℕ) → slice_get (changed h i xs) i ≡ option_map h (slice_get xs i)
changed_here h xs i = by_element (slice_get xs i) refl
  where
    by_element : (x : Option _) → slice_get xs i ≡ x → slice_get (changed_by h i xs x) i ≡ option_map h x
    by_element None e = e
    by_element (Some x) e = set_here xs i x (h x) e

changed_other : {A : Type 0} (h : A → A) (xs : List A) (i k : ℕ) → i ≢ k → slice_get (changed h i xs) k ≡ slice_get xs k
changed_other h xs i k apart = by_element (slice_get xs i)
  where
    by_element : (x : Option _) → slice_get (changed_by h i xs x) k ≡ slice_get xs k
    by_element None = refl
    by_element (Some x) = set_other xs i k (h x) apart

changed_kept : {A B : Type 0} (g : A → B) (h : A → A) (xs : List A) (i : ℕ) → ((x : A) → g (h x) ≡ g x) → map g (changed h i xs) ≡ map g xs
changed_kept g h xs i same = by_element (slice_get xs i) refl
  where
    by_element : (x : Option _) → slice_get xs i ≡ x → map g (changed_by h i xs x) ≡ map g xs
    by_element None e = refl
    by_element (Some x) e = map_set g xs i x (h x) e (same x)

-- ---- what stays

kept_at : {B : Type 0} (g : Scope → B) → ((i : ℕ) (s : Scope) → g (marked_scope i s) ≡ g s) → (r : Row) (ss : List Scope) → map g (marked_at r ss) ≡ map g ss
kept_at g same r ss = by_local (local_of r.form)
  where
    by_test : (l : Local) (b : Bool) → map g (marked_if b l ss) ≡ map g ss
    by_test l true = changed_kept g (marked_scope l.slot) ss l.scope.0 (same l.slot)
    by_test l false = refl

    by_local : (x : Option Local) → map g (marked_by x r.within.scope ss) ≡ map g ss
    by_local None = refl
    by_local (Some l) = by_test l (leaves_spawn ss l.up (Some r.within.scope))

pub kept : {B : Type 0} (g : Scope → B) → ((i : ℕ) (s : Scope) → g (marked_scope i s) ≡ g s) → (rs : List Row) (ss : List Scope) → map g (marked_from rs ss) ≡ map g ss
kept g same [] ss = refl
kept g same (r ∷ rs) ss = kept g same rs (marked_at r ss) ∙ kept_at g same r ss

-- all of a scope but its locals
abbrev pub slotless : Scope → Scope
slotless s = record { kind = s.kind; home = s.home; site = s.site; body = s.body; parameters = s.parameters; slots = [] }

pub slotless_kept : (rs : List Row) (ss : List Scope) → map slotless (marked_from rs ss) ≡ map slotless ss
slotless_kept rs ss = kept slotless (λ i s. refl) rs ss

pub names_kept : (rs : List Row) (ss : List Scope) → map slot_names (marked_from rs ss) ≡ map slot_names ss
names_kept rs ss = kept slot_names (λ i s. changed_kept (λ (slot : Slot). slot.name) marked_slot s.slots i (λ slot. refl)) rs ss

same_length : {A B : Type 0} (g : A → B) (xs ys : List A) → map g xs ≡ map g ys → length xs ≡ length ys
same_length g xs ys e = sym (length-map xs g) ∙ ap (λ (zs : List _). length zs) e ∙ length-map ys g

-- there are as many scopes as before
pub told_many : (rs : List Row) (old new : List Scope) → AreTold rs old new → length new ≡ length old
told_many rs old new a = same_length slotless new a.told (ap (map slotless) a.marked ∙ slotless_kept rs a.told) ∙ a.settled.many

-- ---- the way outwards goes by kinds and homes

same_at : (ss ts : List Scope) → map slotless ss ≡ map slotless ts → (from : Option ScopeId) → option_map slotless (scope_at ss from) ≡ option_map slotless (scope_at ts from)
same_at ss ts e None = refl
same_at ss ts e (Some k) = sym (slice_get-map slotless ss k.0) ∙ ap (λ (xs : List Scope). slice_get xs k.0) e ∙ slice_get-map slotless ts k.0

spawn_slotless : (x : Option Scope) → is_spawn (option_map slotless x) ≡ is_spawn x
spawn_slotless None = refl
spawn_slotless (Some s) = refl

home_slotless : (x : Option Scope) → home_by (option_map slotless x) ≡ home_by x
home_slotless None = refl
home_slotless (Some s) = refl

leaves_same : (ss ts : List Scope) → map slotless ss ≡ map slotless ts → (up : ℕ) (from : Option ScopeId) → leaves_spawn ss up from ≡ leaves_spawn ts up from
leaves_same ss ts e zero from = refl
leaves_same ss ts e (suc up) from =
    let same = same_at ss ts e from in
    let spawn : is_spawn (scope_at ss from) ≡ is_spawn (scope_at ts from) = sym (spawn_slotless (scope_at ss from)) ∙ ap is_spawn same ∙ spawn_slotless (scope_at ts from) in
    let home : home_by (scope_at ss from) ≡ home_by (scope_at ts from) = sym (home_slotless (scope_at ss from)) ∙ ap home_by same ∙ home_slotless (scope_at ts from) in
    ap (λ (b : Bool). b || leaves_spawn ss up (home_by (scope_at ss from))) spawn
    ∙ ap (λ (b : Bool). is_spawn (scope_at ts from) || b) (ap (leaves_spawn ss up) home ∙ leaves_same ss ts e up (home_by (scope_at ts from)))

captures_same : (ss ts : List Scope) → map slotless ss ≡ map slotless ts → (of : ScopeId) (slot : ℕ) (r : Row) → captures ss of slot r ≡ captures ts of slot r
captures_same ss ts e of slot r = by_local (local_of r.form)
  where
    by_local : (x : Option Local) → captures_by ss r.within.scope of slot x ≡ captures_by ts r.within.scope of slot x
    by_local None = refl
    by_local (Some l) = ap (λ (b : Bool). (l.scope.0 == of.0) && (l.slot == slot) && b) (leaves_same ss ts e l.up (Some r.within.scope))

pub captured_same : (rs : List Row) (ss ts : List Scope) → map slotless ss ≡ map slotless ts → (of : ScopeId) (slot : ℕ) → is_captured rs ss of slot ≡ is_captured rs ts of slot
captured_same [] ss ts e of slot = refl
captured_same (r ∷ rs) ss ts e of slot =
    ap (λ (b : Bool). b || is_captured rs ss of slot) (captures_same ss ts e of slot r)
    ∙ ap (λ (b : Bool). captures ts of slot r || b) (captured_same rs ss ts e of slot)

-- ---- the flags

abbrev pub slot_in : ℕ → Option Scope → Option Slot
slot_in i None = None
slot_in i (Some s) = slice_get s.slots i

abbrev pub slot_at : List Scope → ℕ → ℕ → Option Slot
slot_at ss k i = slot_in i (slice_get ss k)

abbrev pub flag : Bool → Slot → Slot
flag b slot = record { name = slot.name; captured = slot.captured || b }

abbrev with_flag : Option NameId → Bool → Slot
with_flag name b = record { name = name; captured = b }

or_false : (b : Bool) → (b || false) ≡ b
or_false true = refl
or_false false = refl

or_true : (b : Bool) → true ≡ (b || true)
or_true true = refl
or_true false = refl

or_twice : (a b c : Bool) → ((c || a) || b) ≡ (c || (a || b))
or_twice a b true = refl
or_twice a b false = refl

flag_none : (x : Option Slot) → option_map (flag false) x ≡ x
flag_none None = refl
flag_none (Some slot) = ap (λ (b : Bool). Some (with_flag slot.name b)) (or_false slot.captured)

flag_all : (x : Option Slot) → option_map marked_slot x ≡ option_map (flag true) x
flag_all None = refl
flag_all (Some slot) = ap (λ (b : Bool). Some (with_flag slot.name b)) (or_true slot.captured)

flag_twice : (a b : Bool) (x : Option Slot) → option_map (flag b) (option_map (flag a) x) ≡ option_map (flag (a || b)) x
flag_twice a b None = refl
flag_twice a b (Some slot) = ap (λ (c : Bool). Some (with_flag slot.name c)) (or_twice a b slot.captured)

slots_marked : (j i : ℕ) (x : Option Scope) → j ≡ i → slot_in i (option_map (marked_scope j) x) ≡ option_map (flag true) (slot_in i x)
slots_marked j i None e = refl
slots_marked j i (Some s) e = subst (λ (n : ℕ). slice_get (changed marked_slot n s.slots) i ≡ option_map (flag true) (slice_get s.slots i)) (sym e) (changed_here marked_slot s.slots i ∙ flag_all (slice_get s.slots i))

slots_other : (j i : ℕ) (x : Option Scope) → j ≢ i → slot_in i (option_map (marked_scope j) x) ≡ slot_in i x
slots_other j i None apart = refl
slots_other j i (Some s) apart = changed_other marked_slot s.slots j i apart

marks_one : (l : Local) (ss : List Scope) (k : ScopeId) (i : ℕ) → slot_at (marked l ss) k.0 i ≡ option_map (flag ((l.scope.0 == k.0) && (l.slot == i) && true)) (slot_at ss k.0 i)
marks_one l ss k i = by_scope (eqb_tells l.scope.0 k.0)
  where
    told : (a b : Bool) → (l.scope.0 == k.0) ≡ a → (l.slot == i) ≡ b → option_map (flag (a && b && true)) (slot_at ss k.0 i) ≡ option_map (flag ((l.scope.0 == k.0) && (l.slot == i) && true)) (slot_at ss k.0 i)
    told a b x y = ap (λ (c : Bool). option_map (flag (c && b && true)) (slot_at ss k.0 i)) (sym x) ∙ ap (λ (c : Bool). option_map (flag ((l.scope.0 == k.0) && c && true)) (slot_at ss k.0 i)) (sym y)

    there : l.scope.0 ≡ k.0 → slice_get (marked l ss) k.0 ≡ option_map (marked_scope l.slot) (slice_get ss k.0)
    there e = subst (λ (n : ℕ). slice_get (changed (marked_scope l.slot) n ss) k.0 ≡ option_map (marked_scope l.slot) (slice_get ss k.0)) (sym e) (changed_here (marked_scope l.slot) ss k.0)

    by_slot : (l.scope.0 == k.0) ≡ true → l.scope.0 ≡ k.0 → (((l.slot == i) ≡ true) × (l.slot ≡ i)) ⊎ (((l.slot == i) ≡ false) × (l.slot ≢ i)) → slot_at (marked l ss) k.0 i ≡ option_map (flag ((l.scope.0 == k.0) && (l.slot == i) && true)) (slot_at ss k.0 i)
    by_slot x e (inl y) = ap (slot_in i) (there e) ∙ slots_marked l.slot i (slice_get ss k.0) y.1 ∙ told true true x y.0
    by_slot x e (inr y) = ap (slot_in i) (there e) ∙ slots_other l.slot i (slice_get ss k.0) y.1 ∙ sym (flag_none (slot_at ss k.0 i)) ∙ told true false x y.0

    by_scope : (((l.scope.0 == k.0) ≡ true) × (l.scope.0 ≡ k.0)) ⊎ (((l.scope.0 == k.0) ≡ false) × (l.scope.0 ≢ k.0)) → slot_at (marked l ss) k.0 i ≡ option_map (flag ((l.scope.0 == k.0) && (l.slot == i) && true)) (slot_at ss k.0 i)
    by_scope (inl x) = by_slot x.0 x.1 (eqb_tells l.slot i)
    by_scope (inr x) = ap (slot_in i) (changed_other (marked_scope l.slot) ss l.scope.0 k.0 x.1) ∙ sym (flag_none (slot_at ss k.0 i)) ∙ told false (l.slot == i) x.0 refl

marks_at : (r : Row) (ss : List Scope) (k : ScopeId) (i : ℕ) → slot_at (marked_at r ss) k.0 i ≡ option_map (flag (captures ss k i r)) (slot_at ss k.0 i)
marks_at r ss k i = by_local (local_of r.form)
  where
    no_way : (a b : Bool) → (a && b && false) ≡ false
    no_way true true = refl
    no_way true false = refl
    no_way false b = refl

    by_test : (l : Local) (b : Bool) → slot_at (marked_if b l ss) k.0 i ≡ option_map (flag ((l.scope.0 == k.0) && (l.slot == i) && b)) (slot_at ss k.0 i)
    by_test l true = marks_one l ss k i
    by_test l false = sym (flag_none (slot_at ss k.0 i)) ∙ ap (λ (b : Bool). option_map (flag b) (slot_at ss k.0 i)) (sym (no_way (l.scope.0 == k.0) (l.slot == i)))

    by_local : (x : Option Local) → slot_at (marked_by x r.within.scope ss) k.0 i ≡ option_map (flag (captures_by ss r.within.scope k i x)) (slot_at ss k.0 i)
    by_local None = sym (flag_none (slot_at ss k.0 i))
    by_local (Some l) = by_test l (leaves_spawn ss l.up (Some r.within.scope))

-- each local that some row captures is marked
pub marks : (rs : List Row) (ss : List Scope) (k : ScopeId) (i : ℕ) → slot_at (marked_from rs ss) k.0 i ≡ option_map (flag (is_captured rs ss k i)) (slot_at ss k.0 i)
marks [] ss k i = sym (flag_none (slot_at ss k.0 i))
marks (r ∷ rs) ss k i =
    marks rs (marked_at r ss) k i
    ∙ ap (λ (b : Bool). option_map (flag b) (slot_at (marked_at r ss) k.0 i)) (captured_same rs (marked_at r ss) ss (kept_at slotless (λ j s. refl) r ss) k i)
    ∙ ap (option_map (flag (is_captured rs ss k i))) (marks_at r ss k i)
    ∙ flag_twice (captures ss k i r) (is_captured rs ss k i) (slot_at ss k.0 i)

-- ---- step by step outwards

-- the next step, where this one leaves no such block
pub left_more : (ss : List Scope) (n m : ℕ) (at home : Option ScopeId) (b rest : Bool) → n ≡ suc m → b ≡ is_spawn (scope_at ss at) → b ≡ false → home ≡ home_by (scope_at ss at) → leaves_spawn ss n at ≡ rest → leaves_spawn ss m home ≡ rest
left_more ss n m at home b rest e is stays outer all =
    ap (leaves_spawn ss m) outer
    ∙ sym (ap (λ (t : Bool). t || leaves_spawn ss m (home_by (scope_at ss at))) (sym is ∙ stays))
    ∙ sym (ap (λ (k : ℕ). leaves_spawn ss k at) e) ∙ all

-- the last step, where this one does
pub left_here : (ss : List Scope) (n m : ℕ) (at : Option ScopeId) (b rest : Bool) → n ≡ suc m → b ≡ is_spawn (scope_at ss at) → b ≡ true → leaves_spawn ss n at ≡ rest → true ≡ rest
left_here ss n m at b rest e is leaves all =
    sym (ap (λ (t : Bool). t || leaves_spawn ss m (home_by (scope_at ss at))) (sym is ∙ leaves))
    ∙ sym (ap (λ (k : ℕ). leaves_spawn ss k at) e) ∙ all

-- no step is left
pub left_none : (ss : List Scope) (n : ℕ) (at : Option ScopeId) (rest : Bool) → n ≡ 0 → leaves_spawn ss n at ≡ rest → false ≡ rest
left_none ss n at rest e all = sym (ap (λ (k : ℕ). leaves_spawn ss k at) e) ∙ all
