-- Tables of first places tell them.
use Rattle.std.proofs.Common.{◌≡◌, ◌≢◌, ℕ, zero, suc, ◌+◌, ◌<◌, ◌≤◌, ◌⊎◌, inl, inr, Bool, true, false, cond, eqb, List, [], ◌∷◌, length, Option, Some, None, refl, sym, ap, ◌∙◌, subst, arith, eqb-true, eq-eqb}
use Rattle.std.proofs.Math.ListN.{replicate, set}
use Rattle.std.specs.Prelude.{slice_get, is_some, All}
use Rattle.std.specs.List.{position_from}
use Rattle.std.specs.Option.{option_or, option_map, option_flatten}
use Rattle.std.proofs.lemmas.Bool.{cases_lt}
use Rattle.std.proofs.lemmas.List.{length-set, length-replicate}
use Rattle.std.proofs.lemmas.Option.{same_Some, slice_get_past, slice_get-map}
use Rattle.cr_base.specs.declared.ids.NameId.{NameId}
use Rattle.cr_core.specs.declared.form.Form.{Form}
use Rattle.cr_core.specs.declared.form.Form.TheVariants as f
use Rattle.cr_core.specs.declared.row.Row.{Row}
use Rattle.cr_core.specs.Tree.{Contents, IsCore, HasName, names_of}
use Rattle.cr_names.specs.declared.kind.Kind.{Kind}
use Rattle.cr_names.specs.declared.kind.Kind.TheVariants as k
use Rattle.cr_names.specs.Names.{declared_by, class_by, module_by, heir_by, parameter_by, outside, named_by, is_key, keys, first}
use Rattle.cr_names.specs.Tables.{told, noted, noted_from}

-- ---- lists

pub get_set_same : {X : Type 0} (xs : List X) (n : ℕ) (x : X) → n < length xs → slice_get (set xs n x) n ≡ Some x
get_set_same [] n x low = absurd (omega arith)
get_set_same (y ∷ xs) zero x low = refl
get_set_same (y ∷ xs) (suc n) x low = get_set_same xs n x (omega arith)

pub get_set_other : {X : Type 0} (xs : List X) (m n : ℕ) (x : X) → m ≢ n → slice_get (set xs m x) n ≡ slice_get xs n
get_set_other [] m n x ne = refl
get_set_other (y ∷ xs) zero zero x ne = absurd (ne refl)
get_set_other (y ∷ xs) zero (suc n) x ne = refl
get_set_other (y ∷ xs) (suc m) zero x ne = refl
get_set_other (y ∷ xs) (suc m) (suc n) x ne = get_set_other xs m n x (λ e. ne (ap suc e))

pub option_cases : {X : Type 0} (o : Option X) → (o ≡ None) ⊎ ((x : X) × (o ≡ Some x))
option_cases None = inl refl
option_cases (Some x) = inr (x, refl)

pub test_cases : (b : Bool) → (b ≡ true) ⊎ (b ≡ false)
test_cases true = inl refl
test_cases false = inr refl

or_none : (o : Option ℕ) → o ≡ option_or o None
or_none None = refl
or_none (Some n) = refl

pub told_none : (count n : ℕ) → told (replicate count None) n ≡ None
told_none zero n = refl
told_none (suc count) zero = refl
told_none (suc count) (suc n) = told_none count n

-- ---- notes

noted_old : (table : List (Option ℕ)) (name : NameId) (n v : ℕ) → told table name.0 ≡ Some v → noted table (Some name) n ≡ table
noted_old table name n v e = ap (λ (o : Option ℕ). cond (is_some o) table (set table name.0 (Some n))) e

noted_new : (table : List (Option ℕ)) (name : NameId) (n : ℕ) → told table name.0 ≡ None → noted table (Some name) n ≡ set table name.0 (Some n)
noted_new table name n e = ap (λ (o : Option ℕ). cond (is_some o) table (set table name.0 (Some n))) e

length_noted : (table : List (Option ℕ)) (key : Option NameId) (n : ℕ) → length (noted table key n) ≡ length table
length_noted table None n = refl
length_noted table (Some name) n = elim (option_cases (told table name.0)) [
  | inl new ↦ ap length (noted_new table name n new) ∙ length-set table name.0 (Some n)
  | inr old ↦ ap length (noted_old table name n old.0 old.1)
]

length_noted_from : (table : List (Option ℕ)) (n : ℕ) (keys : List (Option NameId)) → length (noted_from table n keys) ≡ length table
length_noted_from table n [] = refl
length_noted_from table n (key ∷ keys) = length_noted_from (noted table key n) (n + 1) keys ∙ length_noted table key n

told_at : (table : List (Option ℕ)) (m n : ℕ) → m ≡ n → told table m ≡ told table n
told_at table m n e = ap (λ (j : ℕ). told table j) e

-- a note of the name itself
same_note : (table : List (Option ℕ)) (other name : NameId) (n : ℕ) (rest : Option ℕ) → name.0 < length table → other.0 ≡ name.0 →
    option_or (told (noted table (Some other) n) name.0) rest ≡ option_or (told table name.0) (Some n)
same_note table other name n rest low same = elim (option_cases (told table other.0)) [
  | inl new ↦
      let set_there : told (set table other.0 (Some n)) name.0 ≡ Some n =
      told_at (set table other.0 (Some n)) name.0 other.0 (sym same) ∙ ap (λ (o : Option (Option ℕ)). option_flatten o) (get_set_same table other.0 (Some n) (omega (arith, low, same))) in
      let after : told (noted table (Some other) n) name.0 ≡ Some n = ap (λ (l : List (Option ℕ)). told l name.0) (noted_new table other n new) ∙ set_there in
      let before : told table name.0 ≡ None = told_at table name.0 other.0 (sym same) ∙ new in
      ap (λ (o : Option ℕ). option_or o rest) after ∙ ap (λ (o : Option ℕ). option_or o (Some n)) (sym before)
  | inr old ↦
      let before : told table name.0 ≡ Some old.0 = told_at table name.0 other.0 (sym same) ∙ old.1 in
      let after : told (noted table (Some other) n) name.0 ≡ Some old.0 = ap (λ (l : List (Option ℕ)). told l name.0) (noted_old table other n old.0 old.1) ∙ before in
      ap (λ (o : Option ℕ). option_or o rest) after ∙ ap (λ (o : Option ℕ). option_or o (Some n)) (sym before)
]

other_note : (table : List (Option ℕ)) (other name : NameId) (n : ℕ) → other.0 ≢ name.0 → told (noted table (Some other) n) name.0 ≡ told table name.0
other_note table other name n ne = elim (option_cases (told table other.0)) [
  | inl new ↦ ap (λ (l : List (Option ℕ)). told l name.0) (noted_new table other n new) ∙ ap (λ (o : Option (Option ℕ)). option_flatten o) (get_set_other table other.0 name.0 (Some n) ne)
  | inr old ↦ ap (λ (l : List (Option ℕ)). told l name.0) (noted_old table other n old.0 old.1)
]

one_note : (table : List (Option ℕ)) (key : Option NameId) (name : NameId) (n : ℕ) (rest : Option ℕ) → name.0 < length table →
    option_or (told (noted table key n) name.0) rest ≡ option_or (told table name.0) (cond (is_key name key) (Some n) rest)
one_note table None name n rest low = refl
one_note table (Some other) name n rest low = elim (test_cases (eqb other.0 name.0)) [
  | inl same ↦ same_note table other name n rest low (eqb-true other.0 name.0 same) ∙ ap (λ (b : Bool). option_or (told table name.0) (cond b (Some n) rest)) (sym same)
  | inr differ ↦
      let ne : other.0 ≢ name.0 = λ e. let same = eq-eqb other.0 name.0 e in cc in
      ap (λ (o : Option ℕ). option_or o rest) (other_note table other name n ne) ∙ ap (λ (b : Bool). option_or (told table name.0) (cond b (Some n) rest)) (sym differ)
]

noted_told : (table : List (Option ℕ)) (n : ℕ) (keys : List (Option NameId)) (name : NameId) → name.0 < length table →
    told (noted_from table n keys) name.0 ≡ option_or (told table name.0) (position_from (is_key name) n keys)
noted_told table n [] name low = or_none (told table name.0)
noted_told table n (key ∷ keys) name low =
    let len = length_noted table key n in
    noted_told (noted table key n) (n + 1) keys name (omega (arith, low, len)) ∙ one_note table key name n (position_from (is_key name) (n + 1) keys) low

-- ---- names that are no names of the tree

abbrev pub AreBelow : ℕ → List (Option NameId) → Type 0
AreBelow count keys = (i : ℕ) (name : NameId) → slice_get keys i ≡ Some (Some name) → name.0 < count

past_all : (count : ℕ) (keys : List (Option NameId)) (n : ℕ) (name : NameId) → AreBelow count keys → count ≤ name.0 → position_from (is_key name) n keys ≡ None
past_all count [] n name below past = refl
past_all count (None ∷ keys) n name below past = past_all count keys (n + 1) name (λ i. below (suc i)) past
past_all count (Some other ∷ keys) n name below past = elim (test_cases (eqb other.0 name.0)) [
  | inl same ↦ let low = below 0 other refl in let e = eqb-true other.0 name.0 same in absurd (omega (arith, low, e, past))
  | inr differ ↦ ap (λ (b : Bool). cond b (Some n) (position_from (is_key name) (n + 1) keys)) differ ∙ past_all count keys (n + 1) name (λ i. below (suc i)) past
]

-- the table of first places tells the first place of every name
pub places_told : (count : ℕ) (keys : List (Option NameId)) (table : List (Option ℕ)) → AreBelow count keys → table ≡ noted_from (replicate count None) 0 keys →
    (name : NameId) → told table name.0 ≡ position_from (is_key name) 0 keys
places_told count keys table below is name =
    let clear = replicate count None in
    let len = length-replicate {A = Option ℕ} count None in
    let made = ap (λ (l : List (Option ℕ)). told l name.0) is in
    elim (cases_lt name.0 count) [
      | inl low ↦ made ∙ noted_told clear 0 keys name (omega (arith, low, len)) ∙ ap (λ (o : Option ℕ). option_or o (position_from (is_key name) 0 keys)) (told_none count name.0)
      | inr past ↦
          let long = length_noted_from clear 0 keys in
          made ∙ ap (λ (o : Option (Option ℕ)). option_flatten o) (slice_get_past (noted_from clear 0 keys) name.0 (omega (arith, past, len, long))) ∙ sym (past_all count keys 0 name below past)
    ]

-- ---- names of rows are names of the tree

pub declared_known : (t : Contents) (form : Form) (name : NameId) → declared_by form ≡ Some name → All (HasName t) (names_of form) → HasName t name
declared_known t (f.Class other None) name e all = subst (λ (n : NameId). HasName t n) (same_Some other name e) (all 0 other (omega arith))
declared_known t (f.Class other (Some above)) name e all = subst (λ (n : NameId). HasName t n) (same_Some other name e) (all 0 other (omega arith))
declared_known t (f.Module other) name e all = subst (λ (n : NameId). HasName t n) (same_Some other name e) (all 0 other (omega arith))
declared_known t form name e all = absurd cc

class_declared : (form : Form) (name : NameId) → class_by form ≡ Some name → declared_by form ≡ Some name
class_declared (f.Class other above) name e = e
class_declared form name e = absurd cc

module_declared : (form : Form) (name : NameId) → module_by form ≡ Some name → declared_by form ≡ Some name
module_declared (f.Module other) name e = e
module_declared form name e = absurd cc

heir_declared : (form : Form) (name : NameId) → heir_by form ≡ Some name → declared_by form ≡ Some name
heir_declared (f.Class other (Some above)) name e = e
heir_declared form name e = absurd cc

parameter_known : (t : Contents) (form : Form) (name : NameId) → parameter_by form ≡ Some name → All (HasName t) (names_of form) → HasName t name
parameter_known t (f.TypeParameter other) name e all = subst (λ (n : NameId). HasName t n) (same_Some other name e) (all 0 other (omega arith))
parameter_known t form name e all = absurd cc

not_outside : (b : Bool) (o : Option NameId) (name : NameId) → outside b o ≡ Some name → o ≡ Some name
not_outside true o name e = absurd cc
not_outside false o name e = e

key_known : (t : Contents) (kind : Kind) (row : Row) (name : NameId) → named_by kind row ≡ Some name → All (HasName t) (names_of row.form) → HasName t name
key_known t k.Class row name e all = declared_known t row.form name (class_declared row.form name e) all
key_known t k.Module row name e all = declared_known t row.form name (module_declared row.form name e) all
key_known t k.Either row name e all = declared_known t row.form name e all
key_known t k.Heir row name e all = declared_known t row.form name (heir_declared row.form name e) all
key_known t k.Parameter row name e all = parameter_known t row.form name (not_outside row.place.prelude (parameter_by row.form) name e) all

keys_below : (t : Contents) (kind : Kind) → IsCore t → AreBelow (length t.names) (keys kind t.rows)
keys_below t kind core = λ i name e.
    let mapped : option_map (named_by kind) (slice_get t.rows i) ≡ Some (Some name) = sym (slice_get-map (named_by kind) t.rows i) ∙ e in
    elim (option_cases (slice_get t.rows i)) [
      | inl none ↦ let clash : None ≡ Some (Some name) = sym (ap (λ (o : Option Row). option_map (named_by kind) o) none) ∙ mapped in absurd cc
      | inr some ↦
          let key : Some (named_by kind some.0) ≡ Some (Some name) = sym (ap (λ (o : Option Row). option_map (named_by kind) o) some.1) ∙ mapped in
          key_known t kind some.0 name (same_Some (named_by kind some.0) (Some name) key) (core.rows i some.0 some.1).names
    ]

pub first_told : (t : Contents) (kind : Kind) (count : ℕ) (table : List (Option ℕ)) → IsCore t → count ≡ length t.names →
    table ≡ noted_from (replicate count None) 0 (keys kind t.rows) → (name : NameId) → told table name.0 ≡ first kind t name
unfolding first
first_told t kind count table core many is name =
    places_told count (keys kind t.rows) table (subst (λ (n : ℕ). AreBelow n (keys kind t.rows)) (sym many) (keys_below t kind core)) is name
