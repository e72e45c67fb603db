-- States that grow as a rewriting goes on: what was known stays known.
use Rattle.std.specs.Prelude.{slice_get, IfSome, All, not, ◌||◌}
use Rattle.std.specs.List.{list_any, prefix_len, position_or_len}
use Rattle.std.specs.Str.{bytes_eq}
use Rattle.std.proofs.Common.{◌≡◌, ℕ, zero, suc, ◌+◌, ◌<◌, ◌≤◌, ◌⊎◌, inl, inr, Bool, true, false, cond, List, [], ◌∷◌, ◌++◌, length, map, Option, Some, None, refl, sym, ap, ◌∙◌, subst, arith, length-append}
use Rattle.std.proofs.lemmas.Bool.{cases_lt}
use Rattle.std.proofs.lemmas.Option.{IfSome_then}
use Rattle.cr_base.specs.declared.ids.NameId.{NameId}
use Rattle.cr_syntax.specs.Names.{name_place, with_name}
use Rattle.cr_core.specs.declared.form.Form.{Form}
use Rattle.cr_core.specs.declared.form.Form.TheVariants as f
use Rattle.cr_core.specs.declared.form.Local.{Local}
use Rattle.cr_core.specs.declared.form.ScopeId.{ScopeId}
use Rattle.cr_core.specs.declared.form.TextId.{TextId}
use Rattle.cr_core.specs.Tree.{names_of, text_of, local_of}
use Rattle.cr_making.specs.Naming.{State, named, literal, declared}
use Rattle.cr_making.specs.declared.naming.Opened.{Opened}

abbrev pub Slotted : Type 0
Slotted = List (Option NameId)

-- ---- the scopes that are open, as a local sees them

pub record Frame : Type 0 where
  pub number : ScopeId
  pub count : ℕ

abbrev pub frame : Opened → Frame
frame o = record { number = o.number; count = length o.slots }

abbrev pub frames : State → List Frame
frames s = frame s.inner ∷ map frame s.around

-- the local can be named where these scopes are open
pub record IsSeen (fs : List Frame) (l : Local) : Type 0 where
  pub seen : Frame
  pub stands : slice_get fs l.up ≡ Some seen
  pub number : seen.number ≡ l.scope
  pub slot : l.slot < seen.count

-- the slot is one of the innermost scope
abbrev pub IsBelow : List Frame → ℕ → Type 0
IsBelow [] n = ⊥
IsBelow (x ∷ xs) n = n < x.count

abbrev pub parameter_slot : Form → Option ℕ
parameter_slot (f.Parameter slot restricted) = Some slot
parameter_slot other = None

-- what the form names is there
pub record IsKnownForm (n t : ℕ) (fs : List Frame) (form : Form) : Type 0 where
  pub names : All (λ (name : NameId). name.0 < n) (names_of form)
  pub text : IfSome (text_of form) (λ (text : TextId). text.0 < t)
  pub local : IfSome (local_of form) (IsSeen fs)
  pub parameter : IfSome (parameter_slot form) (IsBelow fs)

-- the same scopes, with no fewer slots
abbrev pub AreWider : List Frame → List Frame → Type 0
AreWider [] [] = Unit {0}
AreWider [] (y ∷ ys) = ⊥
AreWider (x ∷ xs) [] = ⊥
AreWider (x ∷ xs) (y ∷ ys) = (y.number ≡ x.number) × (x.count ≤ y.count) × AreWider xs ys

pub wider_refl : (fs : List Frame) → AreWider fs fs
wider_refl [] = tt
wider_refl (x ∷ xs) = (refl, omega arith, wider_refl xs)

wider_at : (xs ys : List Frame) (i : ℕ) (x : Frame) → AreWider xs ys → slice_get xs i ≡ Some x → (y : Frame) × (slice_get ys i ≡ Some y) × (y.number ≡ x.number) × (x.count ≤ y.count)
wider_at [] [] i x w e = absurd cc
wider_at [] (b ∷ ys) i x w e = absurd w
wider_at (a ∷ xs) [] i x w e = absurd w
wider_at (a ∷ xs) (b ∷ ys) zero x w e =
    let is : a ≡ x = cc in
    let same : a.count ≡ x.count = ap (λ (z : Frame). z.count) is in
    (b, refl, w.0 ∙ ap (λ (z : Frame). z.number) is, omega (arith, w.1, same))
wider_at (a ∷ xs) (b ∷ ys) (suc i) x w e = wider_at xs ys i x w.2 e

pub seen_wider : (xs ys : List Frame) (l : Local) → AreWider xs ys → IsSeen xs l → IsSeen ys l
seen_wider xs ys l w h =
    let r = wider_at xs ys l.up h.seen w h.stands in
    record { seen = r.0; stands = r.1; number = r.2 ∙ h.number; slot = omega (arith, h.slot, r.3) }

below_wider : (xs ys : List Frame) (n : ℕ) → AreWider xs ys → IsBelow xs n → IsBelow ys n
below_wider [] ys n w h = absurd h
below_wider (a ∷ xs) [] n w h = absurd w
below_wider (a ∷ xs) (b ∷ ys) n w h = omega (arith, h, w.1)

pub form_wider : (n n' t t' : ℕ) (xs ys : List Frame) (form : Form) → n ≤ n' → t ≤ t' → AreWider xs ys → IsKnownForm n t xs form → IsKnownForm n' t' ys form
form_wider n n' t t' xs ys form le le' w h = record {
  names = λ k d lt. omega (arith, h.names k d lt);
  text = IfSome_then (text_of form) h.text (λ (x : TextId) lt. omega arith);
  local = IfSome_then (local_of form) h.local (λ (l : Local) seen. seen_wider xs ys l w seen);
  parameter = IfSome_then (parameter_slot form) h.parameter (λ (k : ℕ) below. below_wider xs ys k w below);
}

-- ---- what holds of every state

-- the slots bear names that are there
pub record AreNamed (n : ℕ) (xs : Slotted) : Type 0 where
  pub named : (i : ℕ) (name : NameId) → slice_get xs i ≡ Some (Some name) → name.0 < n

pub named_more : (n n' : ℕ) (xs : Slotted) → n ≤ n' → AreNamed n xs → AreNamed n' xs
named_more n n' xs le h = record { named = λ i name is. omega (arith, h.named i name is) }

-- scopes that are open: each has a smaller number than the one inside it
abbrev pub AreOpen : ℕ → ℕ → List Opened → Type 0
AreOpen limit n [] = Unit {0}
AreOpen limit n (o ∷ os) = (o.number.0 < limit) × (o.parameters ≤ length o.slots) × AreNamed n o.slots × AreOpen o.number.0 n os

pub open_more : (limit limit' n n' : ℕ) (os : List Opened) → limit ≤ limit' → n ≤ n' → AreOpen limit n os → AreOpen limit' n' os
open_more limit limit' n n' [] le le' h = tt
open_more limit limit' n n' (o ∷ os) le le' h = (omega (arith, h.0), h.1, named_more n n' o.slots le' h.2, open_more o.number.0 o.number.0 n n' os (omega arith) le' h.3)

pub record IsState (s : State) : Type 0 where
  pub open_ : AreOpen (length s.scopes) (length s.names) (s.inner ∷ s.around)
  pub closed : (k : ℕ) (xs : Slotted) → slice_get s.scopes k ≡ Some xs → AreNamed (length s.names) xs

-- ---- a state and one behind it

pub record Extends (s t : State) : Type 0 where
  pub names : length s.names ≤ length t.names
  pub texts : length s.texts ≤ length t.texts
  pub scopes : length s.scopes ≤ length t.scopes
  pub kept : (k : ℕ) → k < length s.scopes → slice_get t.scopes k ≡ slice_get s.scopes k
  pub number : t.inner.number ≡ s.inner.number
  pub slots : length s.inner.slots ≤ length t.inner.slots
  pub around : t.around ≡ s.around

pub extends_refl : (s : State) → Extends s s
extends_refl s = record { names = omega arith; texts = omega arith; scopes = omega arith; kept = λ k lt. refl; number = refl; slots = omega arith; around = refl }

pub extends_trans : (s t u : State) → Extends s t → Extends t u → Extends s u
extends_trans s t u a b = record {
  names = omega (arith, a.names, b.names);
  texts = omega (arith, a.texts, b.texts);
  scopes = omega (arith, a.scopes, b.scopes);
  kept = λ k lt. b.kept k (omega (arith, a.scopes, lt)) ∙ a.kept k lt;
  number = b.number ∙ a.number;
  slots = omega (arith, a.slots, b.slots);
  around = b.around ∙ a.around;
}

pub frames_wider : (s t : State) → Extends s t → AreWider (frames s) (frames t)
frames_wider s t e = (e.number, e.slots, subst (λ (os : List Opened). AreWider (map frame s.around) (map frame os)) (sym e.around) (wider_refl (map frame s.around)))

-- what is known of a form, in a state
abbrev pub KnowsForm : Form → State → Type 0
KnowsForm form s = IsKnownForm (length s.names) (length s.texts) (frames s) form

pub knows_more : (form : Form) (s t : State) → Extends s t → KnowsForm form s → KnowsForm form t
knows_more form s t e h = form_wider (length s.names) (length t.names) (length s.texts) (length t.texts) (frames s) (frames t) form e.names e.texts (frames_wider s t e) h

-- ---- names and texts

place_within : (p : List ℕ → Bool) (xs : List (List ℕ)) → list_any p xs ≡ true → position_or_len p xs < length xs
place_within p [] e = absurd cc
place_within p (x ∷ xs) e = by_test (place_within p xs) (p x) e
  where
    by_test : (list_any p xs ≡ true → position_or_len p xs < length xs) → (t : Bool) → (t || list_any p xs) ≡ true → cond (not t) (1 + prefix_len (λ (x : List ℕ). not (p x)) xs) 0 < suc (length xs)
    by_test later true is = omega arith
    by_test later false is = let h = later is in omega arith

place_at_most : (p : List ℕ → Bool) (xs : List (List ℕ)) → position_or_len p xs ≤ length xs
place_at_most p [] = omega arith
place_at_most p (x ∷ xs) = by_test (place_at_most p xs) (p x)
  where
    by_test : position_or_len p xs ≤ length xs → (t : Bool) → cond (not t) (1 + prefix_len (λ (x : List ℕ). not (p x)) xs) 0 ≤ suc (length xs)
    by_test h true = omega arith
    by_test h false = omega arith

pub place_known : (names : List (List ℕ)) (text : List ℕ) → name_place names text < length (with_name names text)
place_known names text = by_test (list_any (bytes_eq text) names) refl
  where
    by_test : (t : Bool) → list_any (bytes_eq text) names ≡ t → name_place names text < length (cond t names (names ++ text ∷ []))
    by_test true is = place_within (bytes_eq text) names is
    by_test false is = let h = place_at_most (bytes_eq text) names in omega (arith, length-append names (text ∷ []))

pub names_longer : (names : List (List ℕ)) (text : List ℕ) → length names ≤ length (with_name names text)
names_longer names text = by_test (list_any (bytes_eq text) names)
  where
    by_test : (t : Bool) → length names ≤ length (cond t names (names ++ text ∷ []))
    by_test true = omega arith
    by_test false = omega (arith, length-append names (text ∷ []))

pub named_extends : (text : List ℕ) (s : State) → Extends s (named text s).after
named_extends text s = record { names = names_longer s.names text; texts = omega arith; scopes = omega arith; kept = λ k lt. refl; number = refl; slots = omega arith; around = refl }

pub named_state : (text : List ℕ) (s : State) → IsState s → IsState (named text s).after
named_state text s h =
    let le = names_longer s.names text in record {
      open_ = open_more (length s.scopes) (length s.scopes) (length s.names) (length (with_name s.names text)) (s.inner ∷ s.around) (omega arith) le h.open_;
      closed = λ k xs is. named_more (length s.names) (length (with_name s.names text)) xs le (h.closed k xs is);
    }

pub literal_extends : (text : List ℕ) (s : State) → Extends s (literal text s).after
literal_extends text s = record { names = omega arith; texts = names_longer s.texts text; scopes = omega arith; kept = λ k lt. refl; number = refl; slots = omega arith; around = refl }

pub literal_state : (text : List ℕ) (s : State) → IsState s → IsState (literal text s).after
literal_state text s h = record { open_ = h.open_; closed = h.closed }

-- ---- locals

pub get_push : {A : Type 0} (xs : List A) (x y : A) (i : ℕ) → slice_get (xs ++ x ∷ []) i ≡ Some y → (i < length xs → slice_get xs i ≡ Some y) × (length xs ≤ i → x ≡ y)
get_push [] x y zero e = (λ lt. absurd (omega (arith, lt)), λ le. cc)
get_push [] x y (suc i) e = absurd cc
get_push (z ∷ xs) x y zero e = (λ lt. e, λ le. absurd (omega (arith, le)))
get_push (z ∷ xs) x y (suc i) e = let r = get_push xs x y i e in (λ lt. r.0 (omega (arith, lt)), λ le. r.1 (omega (arith, le)))

-- a name, where there is one, is there
abbrev pub IsNamed : ℕ → Option NameId → Type 0
IsNamed n name = IfSome name (λ (x : NameId). x.0 < n)

push_named : (n : ℕ) (xs : Slotted) (x : Option NameId) → IsNamed n x → AreNamed n xs → AreNamed n (xs ++ x ∷ [])
push_named n xs x known h = record { named = λ i name is. by_place i name is (nat_cases i (length xs)) }
  where
    new : (x' : Option NameId) (name : NameId) → IsNamed n x' → x' ≡ Some name → name.0 < n
    new None name h e = absurd cc
    new (Some y) name h e = let is : y ≡ name = cc in subst (λ (z : NameId). z.0 < n) is h

    nat_cases : (i m : ℕ) → (i < m) ⊎ (m ≤ i)
    nat_cases i m = cases_lt i m

    by_place : (i : ℕ) (name : NameId) → slice_get (xs ++ x ∷ []) i ≡ Some (Some name) → (i < length xs) ⊎ (length xs ≤ i) → name.0 < n
    by_place i name is (inl lt) = h.named i name ((get_push xs x (Some name) i is).0 lt)
    by_place i name is (inr le) = new x name known ((get_push xs x (Some name) i is).1 le)

pub declared_extends : (name : Option NameId) (s : State) → Extends s (declared name s).after
declared_extends name s = record { names = omega arith; texts = omega arith; scopes = omega arith; kept = λ k lt. refl; number = refl; slots = omega (arith, length-append s.inner.slots (name ∷ [])); around = refl }

pub declared_state : (name : Option NameId) (s : State) → IsNamed (length s.names) name → IsState s → IsState (declared name s).after
declared_state name s known h = record {
  open_ = (h.open_.0, omega (arith, h.open_.1, length-append s.inner.slots (name ∷ [])), push_named (length s.names) s.inner.slots name known h.open_.2, h.open_.3);
  closed = h.closed;
}
