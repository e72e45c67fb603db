-- What a built-in method comes to that a call finds.
use Rattle.std.specs.Prelude.{ℕ, List, [], ◌∷◌, Option, Some, None, slice_get}
use Rattle.cr_value.specs.declared.value.Value.{Value}
use Rattle.cr_builtins.specs.declared.answer.Answer.{Answer}
use Rattle.cr_builtins.specs.declared.answer.Answer.TheVariants as answer
use Rattle.cr_builtins.specs.declared.operation.Operation.{Operation}
use Rattle.cr_builtins.specs.declared.operation.Operation.TheVariants as operation
use Rattle.cr_builtins.specs.declared.operation.ArrayOperation.{ArrayOperation}
use Rattle.cr_builtins.specs.declared.operation.HashOperation.{HashOperation}
use Rattle.cr_builtins.specs.declared.operation.ContextOperation.{ContextOperation}
use Rattle.cr_builtins.specs.declared.operation.ContextOperation.TheVariants as context
use Rattle.cr_builtins.specs.Cells.{Change}
use Rattle.cr_builtins.specs.Scalars.{scalar}
use Rattle.cr_builtins.specs.Arrays.{on_array}
use Rattle.cr_builtins.specs.Hashes.{on_hash, key_of, put as put_pair}
use Rattle.cr_meaning.specs.World.{World}
use Rattle.cr_meaning.specs.State.{Cell, Array, Hash, Context, State, set_cell}
use Rattle.cr_meaning.specs.Act.{Act, Raises, Stuck, Choice, Language, gives, outcome_of, or_stuck}
use Rattle.cr_meaning.specs.Calls.{makes_cell, reference}
use Rattle.cr_meaning.specs.Channels.{cell_of, operates}
use Rattle.cr_meaning.specs.Fibers.{waits_for}

-- ---- arrays and hashes

-- What cell k answers, in a state that has it as it is afterwards. What raises or is stuck leaves it as it was.
abbrev pub answers : State → ℕ → Answer → Act
answers s k (answer.Gives v) = gives s v
answers s k answer.Itself = gives s (reference k)
answers s k (answer.Makes vs) = makes_cell s (Array vs) gives
answers s k (answer.Raises raise) = Raises (Language raise)
answers s k answer.Stuck = Stuck

abbrev pub array_changed : State → ℕ → Change (List Value) → Act
array_changed s k change = answers (set_cell s k (Array change.after)) k change.answer

abbrev pub hash_changed : State → ℕ → Change (List (Value × Value)) → Act
hash_changed s k change = answers (set_cell s k (Hash change.after)) k change.answer

abbrev pub on_array_cell : State → ℕ → ArrayOperation → List Value → Option Cell → Act
on_array_cell s k o vs (Some (Array items)) = array_changed s k (on_array o items vs)
on_array_cell s k o vs other = Stuck

abbrev pub on_hash_cell : State → ℕ → HashOperation → List Value → Option Cell → Act
on_hash_cell s k o vs (Some (Hash pairs)) = hash_changed s k (on_hash o pairs vs)
on_hash_cell s k o vs other = Stuck

-- the pairs of a hash literal, filled as by `[]=` from left to right
abbrev pub with_pair : Value → (List (Value × Value) → Option (List (Value × Value))) → List (Value × Value) → Option Value → Option (List (Value × Value))
with_pair v more pairs None = None
with_pair v more pairs (Some key) = more (put_pair key v pairs)

abbrev pub hash_from : List (Value × Value) → List Value → Option (List (Value × Value))
hash_from pairs [] = Some pairs
hash_from pairs (k ∷ []) = None
hash_from pairs (k ∷ v ∷ vs) = with_pair v (λ more. hash_from more vs) pairs (key_of k)

abbrev pub hash_of : List Value → Option (List (Value × Value))
hash_of vs = hash_from [] vs

-- ---- contexts

abbrev pub context_in : Option Cell → Act → (ℕ → Act) → Act
context_in (Some (Context k)) a go = go k
context_in other a go = a

abbrev pub waits_at_cell : State → Option ℕ → Act
waits_at_cell s None = Stuck
waits_at_cell s (Some k) = context_in (slice_get s.cells k) Stuck (waits_for s)

abbrev pub context_operation : State → ContextOperation → Option Value → List Value → Act
context_operation s context.Wait (Some v) [] = waits_at_cell s (cell_of v)
context_operation s other receiver vs = Stuck

-- ---- all of them

abbrev pub built_in : World → State → ℕ → Choice → Option Value → List Value → Operation → Act
built_in P s i choice None vs operation = Stuck
built_in P s i choice (Some v) vs (operation.Scalar o) = outcome_of s (scalar o v vs)
built_in P s i choice (Some v) vs (operation.Array o) = or_stuck (λ k. on_array_cell s k o vs (slice_get s.cells k)) (cell_of v)
built_in P s i choice (Some v) vs (operation.Hash o) = or_stuck (λ k. on_hash_cell s k o vs (slice_get s.cells k)) (cell_of v)
built_in P s i choice (Some v) vs (operation.Channel o) = operates P s i choice o (Some v) vs
built_in P s i choice (Some v) vs (operation.Context o) = context_operation s o (Some v) vs
