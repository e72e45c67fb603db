-- An operation that makes an array, raises or is stuck leaves the array or the hash as it was.
use Rattle.std.proofs.Common.{◌≡◌, ◌<◌, ◌≤◌, ℕ, Bool, true, false, List, [], ◌∷◌, ◌++◌, length, Option, Some, None, refl, ap, sym, ◌∙◌, arith}
use Rattle.std.specs.Prelude.{◌-◌, ◌||◌, ◌==◌, nat_lt, drop, if◌then◌else◌, Result, Ok, Err, IfOk}
use Rattle.std.proofs.lemmas.Option.{slice_get-get_or}
use Rattle.cr_value.specs.declared.value.Value.{Value}
use Rattle.cr_value.specs.declared.value.Value.TheVariants.{Nil}
use Rattle.cr_value.specs.declared.arithmetic.Width.TheVariants.{Small}
use Rattle.cr_builtins.specs.declared.answer.Answer.{Answer}
use Rattle.cr_builtins.specs.declared.answer.Answer.TheVariants as answer
use Rattle.cr_builtins.specs.declared.raise.Raise.TheVariants.{Index, Limit}
use Rattle.cr_builtins.specs.declared.operation.ArrayOperation.{ArrayOperation}
use Rattle.cr_builtins.specs.declared.operation.ArrayOperation.TheVariants as array
use Rattle.cr_builtins.specs.declared.operation.HashOperation.{HashOperation}
use Rattle.cr_builtins.specs.declared.operation.HashOperation.TheVariants as hash
use Rattle.cr_builtins.specs.Cells.{Change, change, with, or_else}
use Rattle.cr_builtins.specs.Outcomes.{first, second, number_operand}
use Rattle.cr_builtins.specs.Arrays.{Values, place, last, without_last, set_at, add, on_array}
use Rattle.cr_builtins.specs.Hashes.{Pairs, find, has, put, set, without, key_of, key_operand, on_hash}
use Rattle.cr_builtins.specs.declared.answer.TheConstants.{ENTRY_LIMIT}
use Rattle.cr_base.specs.declared.memory.NoMemory.{NoMemory}
use Rattle.cr_meaning.specs.Builtins.{with_pair, hash_from}
use Rattle.cr_heap.specs.declared.cell.Cell.{Cell}
use Rattle.cr_heap.specs.declared.cell.Cell.TheVariants as cell
use Rattle.cr_heap.specs.Parts.{may_change}

abbrev Keeps : {A : Type 0} → A → Change A → Type 0
Keeps was c = may_change c.answer ≡ false → c.after ≡ was

keeps_with : {A B : Type 0} (was : A) (o : Option B) (act : B → Change A) → ((b : B) → Keeps was (act b)) → Keeps was (with was o act)
keeps_with was None act h = λ _. refl
keeps_with was (Some b) act h = h b

-- a value that is given, or else another answer
keeps_or : {A : Type 0} (was after : A) (o : Option Value) (a : Answer) → (o ≡ None → after ≡ was) → Keeps was (change after (or_else o a))
keeps_or was after None a h = λ _. h refl
keeps_or was after (Some v) a h = λ e. cc

keeps_given : {A : Type 0} (was after : A) (o : Option Value) (v : Value) → Keeps was (change after (or_else o (answer.Gives v)))
keeps_given was after None v = λ e. cc
keeps_given was after (Some w) v = λ e. cc

keeps_if : {A : Type 0} (was : A) (b : Bool) (c d : Change A) → Keeps was c → Keeps was d → Keeps was (if b then c else d)
keeps_if was true c d h k = h
keeps_if was false c d h k = k

keeps_set_at : (xs : Values) (v : Value) (o : Option ℕ) → Keeps xs (set_at xs v o)
keeps_set_at xs v None = λ _. refl
keeps_set_at xs v (Some k) = λ e. cc

keeps_add : (xs : Values) (v : Value) → Keeps xs (add xs v)
keeps_add xs v =
    keeps_if xs (nat_lt (length xs) ENTRY_LIMIT) (change (xs ++ v ∷ []) answer.Itself) (change xs (answer.Raises Limit)) (λ e. cc) (λ _. refl)

keeps_set : (ps : Pairs) (k v : Value) → Keeps ps (set ps k v)
keeps_set ps k v =
    keeps_if ps (has k ps || nat_lt (length ps) ENTRY_LIMIT) (change (put k v ps) (answer.Gives v)) (change ps (answer.Raises Limit)) (λ e. cc) (λ _. refl)

no_last : (xs : Values) → last xs ≡ None → without_last xs ≡ xs
no_last [] e = refl
no_last (x ∷ xs) e =
    let here = slice_get-get_or (x ∷ xs) (length (x ∷ xs) - 1) x (omega arith) in
    let none : ⊥ = cc in
    absurd none

no_first : (xs : Values) → first xs ≡ None → drop 1 xs ≡ xs
no_first [] e = refl
no_first (x ∷ xs) e = cc

pub array_keeps : (o : ArrayOperation) (xs : Values) (vs : List Value) → may_change (on_array o xs vs).answer ≡ false → (on_array o xs vs).after ≡ xs
unfolding on_array
array_keeps array.Size xs vs = λ _. refl
array_keeps array.IsEmpty xs vs = λ _. refl
array_keeps array.Get xs vs = keeps_with xs (number_operand Small vs) _ (λ i _. refl)
array_keeps array.GetOrNil xs vs = keeps_with xs (number_operand Small vs) _ (λ i _. refl)
array_keeps array.Set xs vs =
    keeps_with xs (number_operand Small vs) _ (λ i. keeps_with xs (second vs) _ (λ v. keeps_set_at xs v (place (length xs) i)))
array_keeps array.Append xs vs = keeps_with xs (first vs) (add xs) (keeps_add xs)
array_keeps array.Push xs vs = keeps_with xs (first vs) (add xs) (keeps_add xs)
array_keeps array.Pop xs vs = keeps_or xs (without_last xs) (last xs) (answer.Raises Index) (no_last xs)
array_keeps array.PopOrNil xs vs = keeps_given xs (without_last xs) (last xs) Nil
array_keeps array.Shift xs vs = keeps_or xs (drop 1 xs) (first xs) (answer.Raises Index) (no_first xs)
array_keeps array.ShiftOrNil xs vs = keeps_given xs (drop 1 xs) (first xs) Nil
array_keeps array.First xs vs = λ _. refl
array_keeps array.Last xs vs = λ _. refl
array_keeps array.Clear xs vs = λ e. cc

-- the same of a cell
pub array_stays : (o : ArrayOperation) (xs ys : Values) (vs : List Value) (r : Result Answer NoMemory) (was : Cell) → was ≡ cell.Array xs
    → IfOk r (λ a. on_array o xs vs ≡ change ys a) → IfOk r (λ a. may_change a ≡ false → cell.Array ys ≡ was)
array_stays o xs ys vs (Err e) was is did = tt
array_stays o xs ys vs (Ok a) was is did = λ n.
    ap cell.Array (sym (ap (λ (c : Change Values). c.after) did) ∙ array_keeps o xs vs (ap (λ (c : Change Values). may_change c.answer) did ∙ n)) ∙ sym is

pub hash_keeps : (o : HashOperation) (ps : Pairs) (vs : List Value) → may_change (on_hash o ps vs).answer ≡ false → (on_hash o ps vs).after ≡ ps
unfolding on_hash
hash_keeps hash.Size ps vs = λ _. refl
hash_keeps hash.IsEmpty ps vs = λ _. refl
hash_keeps hash.Get ps vs = keeps_with ps (key_operand vs) _ (λ k _. refl)
hash_keeps hash.GetOrNil ps vs = keeps_with ps (key_operand vs) _ (λ k _. refl)
hash_keeps hash.Set ps vs = keeps_with ps (key_operand vs) _ (λ k. keeps_with ps (second vs) (set ps k) (keeps_set ps k))
hash_keeps hash.HasKey ps vs = keeps_with ps (key_operand vs) _ (λ k _. refl)
hash_keeps hash.Delete ps vs = keeps_with ps (key_operand vs) _ (λ k. keeps_given ps (without k ps) (find k ps) Nil)
hash_keeps hash.Keys ps vs = λ _. refl
hash_keeps hash.Values ps vs = λ _. refl
hash_keeps hash.Clear ps vs = λ e. cc

pub hash_stays : (o : HashOperation) (ps qs : Pairs) (vs : List Value) (r : Result Answer NoMemory) (was : Cell) → was ≡ cell.Hash ps
    → IfOk r (λ a. on_hash o ps vs ≡ change qs a) → IfOk r (λ a. may_change a ≡ false → cell.Hash qs ≡ was)
hash_stays o ps qs vs (Err e) was is did = tt
hash_stays o ps qs vs (Ok a) was is did = λ n.
    ap cell.Hash (sym (ap (λ (c : Change Pairs). c.after) did) ∙ hash_keeps o ps vs (ap (λ (c : Change Pairs). may_change c.answer) did ∙ n)) ∙ sym is

-- ---- a hash literal

answered : {pairs more : Pairs} {a b : Answer} → change pairs a ≡ change more b → a ≡ b
answered e = ap (λ (c : Change Pairs). c.answer) e

step_by : (pairs new : Pairs) (v w : Value) (vs : List Value) (o : Option Value) → with pairs o (λ key. set pairs key v) ≡ change new (answer.Gives w)
    → with_pair v (λ more. hash_from more vs) pairs o ≡ hash_from new vs
step_by pairs new v w vs None e = let a : answer.Stuck ≡ answer.Gives w = answered e in cc
step_by pairs new v w vs (Some key) e =
    (elim (has key pairs || nat_lt (length pairs) ENTRY_LIMIT)
    as (λ b. (if b then change (put key v pairs) (answer.Gives v) else change pairs (answer.Raises Limit)) ≡ change new (answer.Gives w) → hash_from (put key v pairs) vs ≡ hash_from new vs) [
      | true ↦ (λ f. ap (λ (c : Change Pairs). hash_from c.after vs) f)
      | false ↦ (λ f. let a : answer.Raises Limit ≡ answer.Gives w = answered f in cc)
    ])
    e

stuck_by : (pairs new : Pairs) (v : Value) (vs : List Value) (o : Option Value) → with pairs o (λ key. set pairs key v) ≡ change new answer.Stuck
    → with_pair v (λ more. hash_from more vs) pairs o ≡ None
stuck_by pairs new v vs None e = refl
stuck_by pairs new v vs (Some key) e =
    (elim (has key pairs || nat_lt (length pairs) ENTRY_LIMIT)
    as (λ b. (if b then change (put key v pairs) (answer.Gives v) else change pairs (answer.Raises Limit)) ≡ change new answer.Stuck → hash_from (put key v pairs) vs ≡ None) [
      | true ↦ (λ f. let a : answer.Gives v ≡ answer.Stuck = answered f in cc)
      | false ↦ (λ f. let a : answer.Raises Limit ≡ answer.Stuck = answered f in cc)
    ])
    e

-- the first two values of a literal go into the hash
pub hash_step : (pairs new : Pairs) (vs : List Value) (w : Value) → 2 ≤ length vs → on_hash hash.Set pairs vs ≡ change new (answer.Gives w)
    → hash_from pairs vs ≡ hash_from new (drop 2 vs)
unfolding on_hash
hash_step pairs new [] w h e = absurd (omega (arith, h))
hash_step pairs new (k ∷ []) w h e = absurd (omega (arith, h))
hash_step pairs new (k ∷ v ∷ vs) w h e = step_by pairs new v w vs (key_of k) e

-- the first of them is no key
pub hash_stuck : (pairs new : Pairs) (vs : List Value) → 2 ≤ length vs → on_hash hash.Set pairs vs ≡ change new answer.Stuck
    → hash_from pairs vs ≡ None
unfolding on_hash
hash_stuck pairs new [] h e = absurd (omega (arith, h))
hash_stuck pairs new (k ∷ []) h e = absurd (omega (arith, h))
hash_stuck pairs new (k ∷ v ∷ vs) h e = stuck_by pairs new v vs (key_of k) e

-- a literal with less than two values
pub hash_last : (pairs : Pairs) (vs : List Value) → length vs < 2 → hash_from pairs vs ≡ (if length vs == 0 then Some pairs else None)
hash_last pairs [] h = refl
hash_last pairs (k ∷ []) h = refl
hash_last pairs (k ∷ v ∷ vs) h = absurd (omega (arith, h))
