-- Fields by the place at which they first stand.
use Rattle.std.proofs.Common.{◌≡◌, ℕ, zero, suc, ◌<◌, ◌≤◌, Bool, true, false, cond, List, [], ◌∷◌, ◌++◌, length, get_or, set, Option, Some, None, refl, ap, ◌∙◌, arith}
use Rattle.std.specs.Prelude.{nat_lt, ◌==◌, Result, Ok, Err, IfOk}
use Rattle.std.specs.List.{position, position_or_len}
use Rattle.std.proofs.lemmas.List.Sums.{fails_before_first}
use Rattle.std.proofs.lemmas.List.Quantifiers.{position-Some}
use Rattle.std.proofs.lemmas.Bool.Decides.{nat_tests}
use Rattle.cr_base.specs.declared.ids.NameId.{NameId}
use Rattle.cr_base.specs.declared.memory.NoMemory.{NoMemory}
use Rattle.cr_value.specs.declared.value.Value.{Value}
use Rattle.cr_value.specs.declared.value.Value.TheVariants.{Nil}
use Rattle.cr_meaning.specs.Reduce.{field_in, set_field}

abbrev pub Fields : Type 0
Fields = List (NameId × Value)

abbrev pub is : NameId → NameId × Value → Bool
is name entry = entry.0.0 == name.0

-- none of the fields has the name
abbrev Lacks : NameId → Fields → Type 0
Lacks name xs = (k : ℕ) (d : NameId × Value) → k < length xs → is name (get_or xs k d) ≡ false

late : (first end : ℕ) (o : Option ℕ) → cond (nat_lt first end) (Some first) None ≡ o → o ≡ None → end ≤ first
late first end o e n =
    let b : nat_lt first end ≡ false =
    (elim (nat_lt first end) as (λ b. cond b (Some first) None ≡ o → b ≡ false) [ true ↦ (λ f. cc) | false ↦ (λ _. refl) ]) e in
    grind (arith, nat_tests)

lacks_none : (name : NameId) (xs : Fields) → position (is name) xs ≡ None → Lacks name xs
lacks_none name xs e k d h =
    let end = late (position_or_len (is name) xs) (length xs) _ refl e in
    fails_before_first (is name) xs k d (omega arith)

missing : (name : NameId) (xs : Fields) → Lacks name xs → Nil ≡ field_in name xs
missing name [] l = refl
missing name (x ∷ xs) l =
    let here : is name x ≡ false = l 0 x (omega arith) in
    rw here (missing name xs (λ k d h. l (suc k) d (omega arith)))

added : (name : NameId) (v : Value) (xs : Fields) → Lacks name xs → xs ++ (name, v) ∷ [] ≡ set_field name v xs
added name v [] l = refl
added name v (x ∷ xs) l =
    let here : is name x ≡ false = l 0 x (omega arith) in
    rw here (ap (λ ys. x ∷ ys) (added name v xs (λ k d h. l (suc k) d (omega arith))))

-- the first field of the name stands here
record Stands (name : NameId) (xs : Fields) (i : ℕ) (d : NameId × Value) : Type 0 where
  within : i < length xs
  here : is name (get_or xs i d) ≡ true
  before : (k : ℕ) → k < i → is name (get_or xs k d) ≡ false

found : (name : NameId) (xs : Fields) (i : ℕ) (d : NameId × Value) → Stands name xs i d → (get_or xs i d).1 ≡ field_in name xs
found name [] i d s = absurd (omega (arith, s.within))
found name (x ∷ xs) zero d s =
    let here : is name x ≡ true = s.here in
    rw here refl
found name (x ∷ xs) (suc i) d s =
    let here : is name x ≡ false = s.before 0 (omega arith) in
    rw here (found name xs i d (record { within = omega (arith, s.within); here = s.here; before = λ k h. s.before (suc k) (omega arith) }))

replaced : (name : NameId) (v : Value) (xs : Fields) (i : ℕ) (d : NameId × Value) → Stands name xs i d → set xs i (name, v) ≡ set_field name v xs
replaced name v [] i d s = absurd (omega (arith, s.within))
replaced name v (x ∷ xs) zero d s =
    let here : is name x ≡ true = s.here in
    rw here refl
replaced name v (x ∷ xs) (suc i) d s =
    let here : is name x ≡ false = s.before 0 (omega arith) in
    rw here (ap (λ ys. x ∷ ys) (replaced name v xs i d (record { within = omega (arith, s.within); here = s.here; before = λ k h. s.before (suc k) (omega arith) })))

stands : (name : NameId) (xs : Fields) (i : ℕ) (d : NameId × Value) → position (is name) xs ≡ Some i → Stands name xs i d
stands name xs i d e = let p = position-Some (is name) xs i d e in record { within = p.0; here = p.1; before = p.2 }

field_found : (name : NameId) (xs : Fields) (i : ℕ) (d : NameId × Value) → position (is name) xs ≡ Some i → (get_or xs i d).1 ≡ field_in name xs
field_found name xs i d e = found name xs i d (stands name xs i d e)

pub field_missing : (name : NameId) (xs : Fields) → position (is name) xs ≡ None → Nil ≡ field_in name xs
field_missing name xs e = missing name xs (lacks_none name xs e)

pub field_replaced : (name : NameId) (v : Value) (xs : Fields) (i : ℕ) (d : NameId × Value) → position (is name) xs ≡ Some i → set xs i (name, v) ≡ set_field name v xs
field_replaced name v xs i d e = replaced name v xs i d (stands name xs i d e)

pub field_added : (name : NameId) (v : Value) (xs : Fields) → position (is name) xs ≡ None → xs ++ (name, v) ∷ [] ≡ set_field name v xs
field_added name v xs e = added name v xs (lacks_none name xs e)

-- a copy of what was found
pub read_found : (name : NameId) (xs : Fields) (i : ℕ) (d : NameId × Value) (r : Result Value NoMemory) → position (is name) xs ≡ Some i
    → IfOk r (λ made. made ≡ (get_or xs i d).1) → IfOk r (λ made. made ≡ field_in name xs)
read_found name xs i d (Err e) at copied = tt
read_found name xs i d (Ok made) at copied = copied ∙ field_found name xs i d at
