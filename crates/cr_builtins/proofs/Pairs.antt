-- A map's look-ups, by the test that the derive of values makes, are those of the definitions.
use Rattle.std.proofs.Common.{◌≡◌, ◌≢◌, ◌∙◌, sym, subst, ℕ, ◌+◌, ◌≤◌, Bool, true, false, cond, ◌||◌, nat_lt, refl, arith, List, [], ◌∷◌, length, Some, is_some, AllPairs, true≢false}
use Rattle.std.proofs.lemmas.Bool.Decides.{nat_tests}
use Rattle.std.proofs.lemmas.List.Elements.{All-weaker, All-from_recursion}
use Rattle.std.proofs.lemmas.List.Kept.{AllPairs-cons}
use Rattle.std.specs.List.{IsDistinct}
use Rattle.std.specs.Map.{lookup, remove_entry}
use Rattle.indexmap.specs.IndexMap.{insert_entry}
use Rattle.cr_value.specs.contracts.value.ValuePartialEq.TheImpl as value_eq
use Rattle.cr_value.specs.contracts.value.ValueEq.TheImpl.Laws.{laws-law}
use Rattle.cr_value.specs.declared.value.Value.{Value}
use Rattle.cr_value.specs.declared.value.Value.TheVariants.{Nil, Flag, Small, Big, Word, Ref}
use Rattle.cr_builtins.specs.Equality.{same}
use Rattle.cr_builtins.specs.declared.answer.TheConstants.{ENTRY_LIMIT}
use Rattle.cr_builtins.specs.Hashes.{Pairs, find, has, put, without}

-- the test that the derive makes
abbrev pub derived : Value → Value → Bool
derived = (value_eq.ghosts).eq

pub agree : (key v : Value) → derived key v ≡ same key v
agree Nil Nil = refl
agree (Flag a) (Flag b) = refl
agree (Small a) (Small b) = refl
agree (Big a) (Big b) = refl
agree (Word a) (Word b) = refl
agree (Ref a) (Ref b) = refl
agree key v = refl

pub found : (key : Value) (pairs : Pairs) → lookup (derived key) pairs ≡ find key pairs
found key [] = refl
found key (pair ∷ pairs) = λ i. cond (agree key pair.0 i) (Some pair.1) (found key pairs i)

pub removed : (key : Value) (pairs : Pairs) → remove_entry (derived key) pairs ≡ without key pairs
removed key [] = refl
removed key (pair ∷ pairs) = λ i. cond (agree key pair.0 i) pairs (pair ∷ removed key pairs i)

pub inserted : (key v : Value) (pairs : Pairs) → insert_entry derived pairs key v ≡ put key v pairs
inserted key v [] = refl
inserted key v (pair ∷ pairs) = λ i. cond (agree key pair.0 i) ((pair.0, v) ∷ pairs) (pair ∷ inserted key v pairs i)

-- a pair more only for a new key
abbrev pub room : Bool → ℕ
room true = 0
room false = 1

longer : (key v : Value) (pair : Value × Value) (pairs : Pairs) (b : Bool)
    → length (put key v pairs) ≤ length pairs + room (has key pairs)
    → length (cond b ((pair.0, v) ∷ pairs) (pair ∷ put key v pairs)) ≤ length (pair ∷ pairs) + room (is_some (cond b (Some pair.1) (find key pairs)))
longer key v pair pairs true h = omega arith
longer key v pair pairs false h = omega (arith, h)

put_long : (key v : Value) (pairs : Pairs) → length (put key v pairs) ≤ length pairs + room (has key pairs)
put_long key v [] = omega arith
put_long key v (pair ∷ pairs) = longer key v pair pairs (same key pair.0) (put_long key v pairs)

within : (b : Bool) (n m : ℕ) → n ≤ m + room b → (b || nat_lt m ENTRY_LIMIT) ≡ true → m ≤ ENTRY_LIMIT → n ≤ ENTRY_LIMIT
within true n m h e w = omega (arith, h, w)
within false n m h e w = grind (arith, nat_tests)

pub put_fits : (key v : Value) (pairs : Pairs) → (has key pairs || nat_lt (length pairs) ENTRY_LIMIT) ≡ true → length pairs ≤ ENTRY_LIMIT
    → length (put key v pairs) ≤ ENTRY_LIMIT
put_fits key v pairs e w = within (has key pairs) (length (put key v pairs)) (length pairs) (put_long key v pairs) e w

-- the keys of a map are distinct
other : (k j : Value) → derived k j ≡ false → k ≢ j
other k j e is = true≢false (sym (subst (λ (x : Value). derived k x ≡ true) is (laws-law.refl k)) ∙ e)

pub apart : (keys : List Value) → IsDistinct derived keys → AllPairs (λ a b. a ≢ b) keys
unfolding IsDistinct
apart [] h = λ i j d lt within. absurd (omega arith)
apart (k ∷ ks) h = AllPairs-cons (λ (a b : Value). a ≢ b) k ks
    (All-weaker (λ b. derived k b ≡ false) (λ b. k ≢ b) (other k) ks (All-from_recursion (λ b. derived k b ≡ false) ks h.0)) (apart ks h.1)
